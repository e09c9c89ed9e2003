pub mod Bytes
pub mod Floats
pub mod Integers
pub mod Values
pub mod Times
pub mod Records
pub mod Nulls
pub mod Laws
