pub mod Runs
pub mod Sweeps
pub mod Faults
pub mod Kept
