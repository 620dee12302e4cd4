pub mod Known
pub mod internal
