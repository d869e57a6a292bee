pub mod Docks
pub mod Levels
pub mod Orders
pub mod Examples
