mod Names
pub mod Filled
pub mod Pooled
pub mod Struck
pub mod Fronted
pub mod Lost
pub mod Looked
pub mod Pushed
pub mod Touched
pub mod Listed
