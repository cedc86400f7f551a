pub mod Numbered
pub mod Lined
mod StreamRows
pub mod Following
pub mod Ascending
mod AtNumber
mod Behind
mod Steps
mod Walks
mod Blocks
pub mod OneStream
