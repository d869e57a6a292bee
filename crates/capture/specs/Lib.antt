pub mod Number
pub mod Rows
pub mod Pieces
pub mod Arguments
pub mod Examples
pub mod Texts
pub mod Cut
pub mod Laws
