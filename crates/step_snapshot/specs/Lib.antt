pub mod Slots
pub mod Tests
pub mod Seen
pub mod internal
