pub mod Words
pub mod FirstLines
pub mod Stops
pub mod Cutting
