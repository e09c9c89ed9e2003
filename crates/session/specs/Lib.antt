pub mod Stages
pub mod Sessions
pub mod Settled
