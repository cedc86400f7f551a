mod Names
pub mod BlocksJudged
pub mod Lasting
pub mod LiveUnits
pub mod BlockLists
pub mod BlockReading
pub mod PagesRead
pub mod SavedHeads
pub mod UnitsJudged
pub mod Walks
pub mod GroupsRead
pub mod CleanOnes
pub mod Counts
pub mod NewestRead
pub mod FirstRule
