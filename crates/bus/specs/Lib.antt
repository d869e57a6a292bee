pub mod Progress
pub mod Reply
