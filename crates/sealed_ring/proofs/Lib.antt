mod Names
pub mod Alters
pub mod Examples
pub mod Heads
pub mod Highest
pub mod InRow
pub mod Lookups
pub mod Others
pub mod Outcome
pub mod Places
pub mod Rows
pub mod Runs
pub mod Sealed
pub mod Stays
pub mod Steps
pub mod Units
pub mod Whole
