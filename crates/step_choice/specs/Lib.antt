pub mod Deeds
pub mod Choices
pub mod internal
