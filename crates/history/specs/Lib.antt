pub mod Histories
pub mod Ledgers
pub mod Provenance
pub mod Isolation
pub mod Release
