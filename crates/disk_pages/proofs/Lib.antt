pub mod Calling
pub mod PageLaws
pub mod Writing
