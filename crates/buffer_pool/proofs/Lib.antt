mod Names
pub mod Cached
pub mod Found
pub mod Known
pub mod Listed
pub mod Order
pub mod Walks
