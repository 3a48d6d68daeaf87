pub mod NumberSets
pub mod Kernel
pub mod Content
pub mod Reach
pub mod Need
