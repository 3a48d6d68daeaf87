pub mod Sides
pub mod Formats
pub mod Worlds
pub mod Shows
pub mod Turns
