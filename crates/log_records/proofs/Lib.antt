mod Example
pub mod WritesLemmas
pub mod Fields
pub mod Records
pub mod Places
pub mod Blocks
pub mod Lists
pub mod Values
pub mod Entries
pub mod ChangeCounts
