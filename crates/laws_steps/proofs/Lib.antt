pub mod Outcomes
pub mod Found
pub mod Finding
pub mod Entries
pub mod Acting
pub mod Applying
pub mod Expiring
pub mod Running
