pub mod Counting
pub mod Searching
