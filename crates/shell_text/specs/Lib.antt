pub mod Grammar
pub mod Reading
pub mod Texts
pub mod Runs
pub mod Serial
pub mod Laws
pub mod Rows
