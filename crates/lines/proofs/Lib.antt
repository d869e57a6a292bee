pub mod Cut
pub mod Determined
pub mod Known
pub mod Running
pub mod Telling
