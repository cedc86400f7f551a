mod Names
mod Served
pub mod Following
pub mod Sizes
mod Lines
mod Durable
