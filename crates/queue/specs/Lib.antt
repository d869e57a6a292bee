pub mod Record
pub mod Numbers
pub mod Turns
pub mod Run
