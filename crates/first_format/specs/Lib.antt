pub mod Parts
pub mod Formatted
pub mod Pieces
pub mod Clean
pub mod Shows
