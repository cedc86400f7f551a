pub mod Adding
pub mod AppendLaws
pub mod Sequence
