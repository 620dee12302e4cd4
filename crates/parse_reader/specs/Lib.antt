pub mod Modules
pub mod Trees
pub mod internal
