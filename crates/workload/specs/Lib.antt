pub mod Generator
pub mod Scripts
pub mod Laws
pub mod Rows
