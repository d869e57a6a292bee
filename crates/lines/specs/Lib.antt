pub mod Line
pub mod Reads
pub mod Telling
pub mod Text
