pub mod Shows
pub mod Binds
pub mod Placing
pub mod Opened
pub mod Fetches
pub mod Kept
