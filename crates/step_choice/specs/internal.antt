pub mod Judged
pub mod Later
