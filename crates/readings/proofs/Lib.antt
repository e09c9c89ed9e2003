pub mod Ends
pub mod Patterns
pub mod Numbers
pub mod Backs
pub mod Records
