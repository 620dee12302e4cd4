pub mod Makers
pub mod internal
