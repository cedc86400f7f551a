pub mod Archives
pub mod Halts
pub mod Telling
pub mod Contract
