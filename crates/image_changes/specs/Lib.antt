pub mod Changes
pub mod Laws
pub mod Reached
pub mod Rings
