pub mod Memories
pub mod Faults
pub mod Flats
