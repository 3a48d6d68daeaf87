pub mod Parts
pub mod Numbers
pub mod Progress
pub mod Ranges
pub mod Order
pub mod Sections
pub mod Misplaced
pub mod Verdicts
