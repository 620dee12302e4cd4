pub mod Counts
pub mod Transfers
