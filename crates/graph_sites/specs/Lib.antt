pub mod Facts
pub mod internal
