pub mod Turns
pub mod Writing
pub mod Codes
pub mod Jobs
pub mod Texts
pub mod Told
pub mod Chosen
pub mod Wants
