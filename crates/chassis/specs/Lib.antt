pub mod Numbers
pub mod Judge
pub mod Chassis
pub mod Refusals
pub mod Run
pub mod Looking
pub mod Passing
pub mod Held
