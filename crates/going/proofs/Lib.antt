pub mod Fetched
pub mod Opened
pub mod Reached
