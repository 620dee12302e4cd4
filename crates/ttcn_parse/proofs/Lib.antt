pub mod Complete
pub mod Parses
pub mod Readers
