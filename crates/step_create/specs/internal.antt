pub mod Queues
pub mod Starts
