pub mod Layout
pub mod Save
pub mod Load
