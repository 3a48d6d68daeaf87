pub mod Format
pub mod Room
pub mod Steps
pub mod Shows
pub mod Turns
