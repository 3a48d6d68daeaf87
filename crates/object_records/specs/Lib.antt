pub mod Records
pub mod Ranges
pub mod Pages
pub mod Marks
pub mod Untold
