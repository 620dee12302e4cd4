pub mod Behind
pub mod Objects
pub mod Pieces
