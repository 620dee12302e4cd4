pub mod Copied
pub mod Delivering
pub mod Expiring
pub mod Listed
