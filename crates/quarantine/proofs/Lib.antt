pub mod Finds
pub mod Shadows
