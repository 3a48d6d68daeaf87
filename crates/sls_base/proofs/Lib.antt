pub mod RightsLemmas
pub mod ListTests
