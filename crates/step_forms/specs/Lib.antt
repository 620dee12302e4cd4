pub mod Asks
pub mod internal
