pub mod Additions
pub mod Adding
