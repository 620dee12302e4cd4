pub mod Totals
pub mod BoardRule
pub mod BoardSeats
pub mod Classes
pub mod SeenRule
pub mod SeenSeats
