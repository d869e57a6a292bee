pub mod Passing
pub mod Fit
pub mod Theorems
