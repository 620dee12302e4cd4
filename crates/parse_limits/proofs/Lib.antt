pub mod Balances
pub mod Places
