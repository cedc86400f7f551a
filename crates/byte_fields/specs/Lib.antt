pub mod Writes
pub mod FrameHeads
pub mod Laws
