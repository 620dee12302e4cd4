pub mod Pieces
pub mod Semicolons
pub mod Turns
