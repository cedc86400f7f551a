mod Names
pub mod Calling
pub mod Following
pub mod Fours
pub mod Lists
pub mod Save
pub mod Saved
pub mod Standing
