pub mod MembersBehind
pub mod Owned
pub mod Sites
pub mod Typed
