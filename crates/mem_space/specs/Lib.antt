pub mod Region
pub mod Space
pub mod Memory
