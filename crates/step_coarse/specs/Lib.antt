pub mod Fates
pub mod internal
