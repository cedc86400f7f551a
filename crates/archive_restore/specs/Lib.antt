pub mod Texts
pub mod Writing
pub mod Restores
pub mod Refusing
pub mod Faults
pub mod Beginning
pub mod Progress
pub mod Contract
