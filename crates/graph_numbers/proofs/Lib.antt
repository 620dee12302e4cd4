pub mod Cells
pub mod OnePlace
pub mod Ordered
