pub mod Steps
pub mod Done
pub mod Lists
pub mod Unsynced
