pub mod Labels
pub mod Texts
pub mod Json
pub mod Runs
pub mod internal
