pub mod Lasts
pub mod Late
pub mod Limits
pub mod internal
