pub mod Base
pub mod Opening
pub mod Laws
pub mod Reading
