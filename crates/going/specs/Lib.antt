pub mod Going
pub mod Arenas
