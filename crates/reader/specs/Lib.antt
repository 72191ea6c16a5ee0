pub mod Texts
pub mod Calls
pub mod Lines
pub mod Scripts
pub mod Steps
pub mod Words
