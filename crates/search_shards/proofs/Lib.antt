pub mod Finding
pub mod Values
pub mod Shards
