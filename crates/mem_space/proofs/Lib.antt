pub mod FilterLemmas
pub mod FindLemmas
pub mod RegionTests
pub mod SpaceLemmas
pub mod Translation
