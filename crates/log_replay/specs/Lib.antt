pub mod Opened
pub mod Stands
