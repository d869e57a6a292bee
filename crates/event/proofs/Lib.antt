pub mod Rows
pub mod Bits
pub mod RoundTrip
pub mod Straps
pub mod Theorems
