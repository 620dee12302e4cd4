pub mod Along
pub mod Arguments
pub mod Elements
