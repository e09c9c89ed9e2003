pub mod Copied
pub mod Taking
pub mod Meant
pub mod Columned
pub mod Called
