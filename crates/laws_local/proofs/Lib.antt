pub mod Seeing
pub mod Touching
pub mod Stepping
pub mod Grouping
pub mod Sending
pub mod Ending
pub mod Telling
