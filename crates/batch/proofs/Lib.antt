pub mod Records
pub mod Loop
pub mod Accepted
pub mod Decode
pub mod Theorems
