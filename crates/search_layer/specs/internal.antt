pub mod Search
pub mod Shards
pub mod Thinned
pub mod Work
