pub mod Longest
pub mod Stacks
