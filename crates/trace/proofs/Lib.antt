pub mod Theorems
pub mod Example
