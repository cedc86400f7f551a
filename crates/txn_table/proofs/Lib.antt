mod Names
pub mod BySession
pub mod Changes
pub mod Counting
pub mod Marks
mod Places
pub mod DistinctBegins
pub mod Owing
