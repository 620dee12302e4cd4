pub mod Asked
pub mod Blocks
pub mod Changes
pub mod Found
pub mod Marks
pub mod Outside
pub mod Repeats
pub mod Ways
