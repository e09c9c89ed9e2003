pub mod Format
pub mod Unique
pub mod Steps
pub mod Views
pub mod Recordings
