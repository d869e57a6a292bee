pub mod Record
pub mod Batch
pub mod Decode
