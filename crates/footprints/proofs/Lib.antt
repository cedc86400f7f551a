pub mod Greatest
pub mod Lengths
pub mod Stacked
pub mod Changed
