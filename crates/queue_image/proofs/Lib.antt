pub mod Loops
pub mod Assembled
pub mod RoundTrip
pub mod Changed
