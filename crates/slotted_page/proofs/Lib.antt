pub mod Written
pub mod Slots
pub mod Steps
pub mod Blank
pub mod Carried
pub mod Lengths
