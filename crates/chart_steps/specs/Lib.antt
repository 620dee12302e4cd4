pub mod Stories
pub mod internal
