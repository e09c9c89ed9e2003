pub mod Written
pub mod Rowed
