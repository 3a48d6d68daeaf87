mod SlowSweeps
pub mod SlowLists
pub mod SlowMemory
mod SlowStates
mod SlowValues
pub mod SlowPlaces
pub mod SlowSweepSteps
mod SlowTicks
