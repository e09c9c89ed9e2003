pub mod Truncation
pub mod Placed
pub mod Bound
pub mod Written
