pub mod Works
pub mod Ends
pub mod Performing
pub mod Spelled
pub mod Agreeing
pub mod Counts
pub mod RestartCounts
