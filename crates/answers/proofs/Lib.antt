pub mod Snocs
pub mod Summed
pub mod Puts
