pub mod Tallies
pub mod Reports
