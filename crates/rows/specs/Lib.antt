pub mod Bounds
pub mod Dues
pub mod Standing
pub mod Settling
pub mod Reach
