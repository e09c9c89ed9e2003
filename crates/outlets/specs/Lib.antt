pub mod Sizes
pub mod Events
pub mod Outlets
pub mod Recorded
