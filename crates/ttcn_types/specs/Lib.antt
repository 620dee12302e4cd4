pub mod Refusals
pub mod internal
