pub mod KeptNames
pub mod MemberNames
pub mod OwnNames
