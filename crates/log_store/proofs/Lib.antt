mod Names
pub mod BlockLaws
pub mod EntryLaws
pub mod Finding
pub mod GoingOn
pub mod NextBlocks
pub mod OneLog
pub mod Standing
pub mod SealLaws
pub mod SealingCalls
pub mod TailLaws
