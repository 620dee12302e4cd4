pub mod Drawing
pub mod Within
