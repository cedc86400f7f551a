pub mod Queue
pub mod Plans
pub mod Machine
pub mod Laws
pub mod Groups
pub mod Rows
