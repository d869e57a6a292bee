pub mod Bits
pub mod Straps
