pub mod Probing
pub mod Laws
pub mod Rows
pub mod Tidying
pub mod Tidies
pub mod TidyRows
