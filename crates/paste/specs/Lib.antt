pub mod Digits
pub mod Ranges
pub mod Findings
pub mod Examples
