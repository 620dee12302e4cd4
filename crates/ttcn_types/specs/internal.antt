pub mod Numbering
pub mod Surrounding
pub mod Surveys
