pub mod Crc
pub mod Checksums
