mod Names
pub mod Chosen
pub mod Planned
mod Pushes
pub mod Flushes
pub mod DistinctStaged
pub mod Chances
pub mod Unread
pub mod GroupCounts
mod LineGroups
