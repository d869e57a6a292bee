pub mod Named
pub mod Determined
