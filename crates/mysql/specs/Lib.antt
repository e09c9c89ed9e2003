pub mod Ranges
pub mod Refusals
pub mod Faults
pub mod Types
pub mod Kept
pub mod Taken
pub mod Answers
