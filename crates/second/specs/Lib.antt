pub mod Record
pub mod Once
pub mod Sfr
pub mod First
