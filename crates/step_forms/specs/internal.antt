pub mod Marks
pub mod Places
pub mod Ports
pub mod Stands
