pub mod Check
pub mod Faults
pub mod Lines
pub mod New
pub mod Refusals
pub mod Tells
pub mod Texts
