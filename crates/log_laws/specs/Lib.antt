pub mod Follow
pub mod Tail
pub mod NewImage
pub mod Rows
pub mod UndoLaws
pub mod Analysis
pub mod UndoSteps
