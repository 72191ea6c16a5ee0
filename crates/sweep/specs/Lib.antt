pub mod Sweeping
