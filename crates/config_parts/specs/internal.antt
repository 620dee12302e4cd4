pub mod Changes
pub mod Done
pub mod Ends
pub mod Expiries
pub mod Mappings
pub mod Routes
pub mod Stored
