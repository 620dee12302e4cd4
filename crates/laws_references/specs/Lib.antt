pub mod Acts
pub mod References
pub mod There
