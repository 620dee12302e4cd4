pub mod Acts
pub mod Legend
pub mod Names
pub mod Views
pub mod Ways
pub mod internal
