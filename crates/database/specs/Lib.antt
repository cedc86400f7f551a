pub mod Held
pub mod Serving
pub mod Opening
pub mod Course
