pub mod Fork
pub mod Plane
