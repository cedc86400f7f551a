pub mod Whole
pub mod Numbers
mod Reading
