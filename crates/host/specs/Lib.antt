pub mod Fields
pub mod Meanings
pub mod Calls
pub mod Wholes
