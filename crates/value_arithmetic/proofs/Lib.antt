pub mod Examples
pub mod IntegerLemmas
