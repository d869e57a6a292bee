pub mod Cases
pub mod Address
pub mod Transfers
pub mod Numbers
pub mod Determined
