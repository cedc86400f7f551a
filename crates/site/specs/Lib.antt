pub mod Calls
pub mod Faults
pub mod Geometry
pub mod Moments
pub mod State
pub mod Telling
pub mod Work
