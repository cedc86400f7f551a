pub mod Lines
pub mod Numbers
pub mod Accepted
pub mod Laws
pub mod Rows
pub mod Values
