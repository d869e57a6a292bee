pub mod Text
pub mod Pieces
pub mod Example
pub mod Words
pub mod Cut
pub mod Laws
