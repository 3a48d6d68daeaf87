pub mod Chains
pub mod Labels
pub mod Falls
pub mod Hands
pub mod Apart
pub mod Aways
pub mod Paid
pub mod Rounded
