pub mod Faults
pub mod Answers
pub mod Calls
pub mod Runs
pub mod Model
pub mod Rules
