pub mod Equality
pub mod Examples
pub mod Faults
pub mod Lists
pub mod Outcomes
pub mod Sending
pub mod Slots
pub mod TemplateEquality
