pub mod Places
pub mod Ports
