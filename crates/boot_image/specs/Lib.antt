pub mod Spelling
pub mod Values
pub mod Rules
pub mod Regions
pub mod Programs
pub mod Images
pub mod Made
