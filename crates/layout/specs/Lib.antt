pub mod Columns
pub mod Tables
pub mod Moves
