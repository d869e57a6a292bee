pub mod Four
pub mod First
pub mod Laws
pub mod Determined
