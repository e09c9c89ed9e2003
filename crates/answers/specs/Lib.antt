pub mod Texts
pub mod Singles
pub mod Events
pub mod Trays
pub mod Sums
pub mod Answers
