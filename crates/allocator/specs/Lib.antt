pub mod Maps
pub mod Allocators
pub mod Faults
