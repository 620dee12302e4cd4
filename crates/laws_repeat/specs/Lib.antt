pub mod Following
pub mod Marks
pub mod internal
