pub mod Groups
pub mod Versions
pub mod Laws
