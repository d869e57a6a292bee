pub mod Layout
pub mod Save
pub mod Load
pub mod Places
pub mod Shape
