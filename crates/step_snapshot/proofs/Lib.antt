pub mod Searched
pub mod Beyond
pub mod Entries
pub mod Framed
pub mod Named
pub mod Argued
