pub mod Frames
pub mod internal
