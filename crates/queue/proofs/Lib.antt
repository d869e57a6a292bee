pub mod Fit
pub mod Ring
pub mod Cases
pub mod Moved
pub mod Theorems
