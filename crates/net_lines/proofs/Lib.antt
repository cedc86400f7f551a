mod Rooms
pub mod Model
pub mod Session
pub mod Writable
