pub mod Husks
