pub mod Open
pub mod Table
pub mod Order
pub mod Read
pub mod Laws
pub mod Taken
