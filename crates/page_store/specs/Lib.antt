pub mod Slots
pub mod Format
pub mod Stages
pub mod Known
pub mod Shows
pub mod Back
pub mod Stores
