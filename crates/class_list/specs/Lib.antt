pub mod Lines
pub mod Kinds
pub mod Told
pub mod Lists
pub mod Loads
pub mod Steps
