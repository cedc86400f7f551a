pub mod Calls
pub mod Kept
pub mod Laws
pub mod Leaving
pub mod OnDisk
pub mod Pushed
pub mod Representation
