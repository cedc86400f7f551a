pub mod Machines
pub mod Rows
pub mod Bounds
pub mod Pools
pub mod Listing
pub mod Tables
pub mod Steps
pub mod Sims
