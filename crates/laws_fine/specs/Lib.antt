pub mod Fine
pub mod Fates
pub mod Gathering
pub mod Doubling
pub mod Holding
pub mod Verdicts
