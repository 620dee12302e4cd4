pub mod Checking
pub mod Listings
pub mod Tables
pub mod Traffic
