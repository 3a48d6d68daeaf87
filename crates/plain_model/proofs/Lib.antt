pub mod SlowInitial
pub mod SlowReaches
pub mod SlowRefusals
mod SlowCosts
mod SlowWorlds
mod SlowImages
