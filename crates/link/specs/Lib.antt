pub mod Answer
pub mod Version
pub mod Events
pub mod Held
pub mod Wires
pub mod Queues
pub mod Lists
