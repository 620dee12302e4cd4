pub mod Names
pub mod Numbers
pub mod PortTypes
pub mod Scopes
pub mod Typings
pub mod internal
