pub mod Text
pub mod Verbs
pub mod Arguments
pub mod Hands
pub mod Lines
pub mod Examples
