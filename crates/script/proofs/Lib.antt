pub mod Names
pub mod Counts
pub mod Further
pub mod OneWord
pub mod Theorems
mod Comments
