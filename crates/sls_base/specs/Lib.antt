pub mod Lcg
pub mod Rights
pub mod Counts
