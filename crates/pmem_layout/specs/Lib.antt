pub mod Bits
pub mod Places
pub mod Numbers
pub mod Fields
pub mod Owners
pub mod Rooms
