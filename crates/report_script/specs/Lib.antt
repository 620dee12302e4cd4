pub mod Values
pub mod Scripts
