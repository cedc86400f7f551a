pub mod Laws
mod Tells
pub mod Working
