pub mod Fits
pub mod Members
pub mod Ports
pub mod Stands
pub mod Texts
