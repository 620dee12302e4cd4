pub mod Begun
pub mod Equality
pub mod ItemEquality
pub mod ItemFeeding
pub mod ItemHash
pub mod Standing
