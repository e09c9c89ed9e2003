pub mod Fields
pub mod Sums
pub mod Reads
