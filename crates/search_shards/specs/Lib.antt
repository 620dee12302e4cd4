pub mod Sharded
pub mod internal
