pub mod Groups
pub mod LeftOut
pub mod internal
