pub mod Rooms
pub mod Rest
