pub mod Levels
pub mod Nine
pub mod Record
pub mod Hear
pub mod Listen
pub mod Image
pub mod Waves
