pub mod Inputs
pub mod InTurn
pub mod Alone
pub mod Places
pub mod Theorems
