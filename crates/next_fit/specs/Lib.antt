pub mod Placement
pub mod Bitmaps
pub mod Laws
