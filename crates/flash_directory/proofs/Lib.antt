mod Names
pub mod Frames
pub mod Newest
pub mod Reading
pub mod Marked
pub mod Opened
pub mod Newests
pub mod Keeping
