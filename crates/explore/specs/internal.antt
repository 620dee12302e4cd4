pub mod Expansion
pub mod Noting
pub mod Tied
pub mod Stopped
