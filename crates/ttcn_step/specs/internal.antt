pub mod Fine
pub mod Following
pub mod Plain
pub mod Runs
pub mod Steps
pub mod Successors
