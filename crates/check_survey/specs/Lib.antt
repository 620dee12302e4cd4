pub mod Graphs
pub mod Things
pub mod internal
