pub mod Objects
pub mod Records
