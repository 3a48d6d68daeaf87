pub mod Word
pub mod Table
pub mod Spelling
pub mod Decoded
