pub mod Digits
pub mod Theorems
pub mod Examples
