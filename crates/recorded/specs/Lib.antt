pub mod Kinds
pub mod Lines
pub mod Grammar
pub mod Refused
pub mod Rooms
