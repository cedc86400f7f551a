pub mod Entries
pub mod Frames
pub mod Laws
pub mod Listing
