pub mod PartLemmas
pub mod PlaceLemmas
pub mod Lift
pub mod FenceLemmas
pub mod SoundLemmas
pub mod KeptLemmas
pub mod Pushes
pub mod Writes
