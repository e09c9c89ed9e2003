pub mod Tapes
pub mod Wholes
pub mod Codes
pub mod Walks
pub mod Formeds
