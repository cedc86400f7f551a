pub mod Area
pub mod Crash
pub mod History
pub mod Limits
pub mod Lives
pub mod MemState
pub mod Named
pub mod Output
