pub mod Numbered
pub mod Sighted
