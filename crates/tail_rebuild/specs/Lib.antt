pub mod Laws
pub mod Listing
pub mod Rebuilt
pub mod Saving
pub mod Standing
