pub mod Streams
pub mod Contract
