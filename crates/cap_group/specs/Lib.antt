pub mod Cap
pub mod Group
