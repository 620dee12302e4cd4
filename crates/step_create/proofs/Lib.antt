pub mod Added
pub mod Alone
pub mod Declared
pub mod Turns
