pub mod Actives
pub mod Units
pub mod Newest
pub mod Saved
pub mod Laws
