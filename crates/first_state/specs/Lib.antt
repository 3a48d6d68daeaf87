pub mod Content
pub mod Filled
