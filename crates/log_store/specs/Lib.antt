pub mod Laws
pub mod LogList
pub mod Representation
pub mod Sealing
