pub mod Utf8
pub mod Decimals
pub mod Targets
pub mod Laws
