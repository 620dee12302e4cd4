pub mod Graphs
pub mod Interned
pub mod Machines
pub mod Memories
pub mod Scopes
pub mod States
pub mod Systems
pub mod Trees
