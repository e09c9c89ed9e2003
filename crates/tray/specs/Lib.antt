pub mod Rows
pub mod Trays
pub mod Formeds
