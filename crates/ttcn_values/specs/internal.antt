pub mod Building
pub mod Readers
