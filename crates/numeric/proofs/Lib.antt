pub mod Characters
pub mod Scan
pub mod Backs
