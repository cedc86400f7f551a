pub mod LastFrames
pub mod Front
pub mod Pages
pub mod Contents
pub mod Growing
mod Example
