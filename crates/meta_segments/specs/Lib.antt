pub mod Segments
pub mod Following
pub mod Laws
