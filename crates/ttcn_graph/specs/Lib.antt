pub mod Drafts
pub mod Graphs
pub mod Ways
pub mod internal
