mod Names
mod Answered
pub mod CallCounts
pub mod Carrying
pub mod CauseLaws
pub mod CommandLaws
pub mod Counted
mod Cuts
pub mod Demanded
mod Dones
mod Ends
mod Faults
mod Fronts
pub mod Going
mod Hearings
mod Lefts
pub mod LinesBeforeQuit
mod Listed
mod Lives
mod Livings
mod LoadCounts
mod LoadFaults
mod Loadings
mod Logs
mod Longer
pub mod Meanings
mod MemoryLaws
mod NextUnits
mod Openings
pub mod Pagings
mod Quiet
mod Ranges
mod RestartGroups
mod RingCounts
mod RingLives
mod Runs
pub mod RunsSoFar
mod SerialRuns
pub mod Serving
mod Statuses
mod ToldFaults
mod Trials
mod Turns
mod Waits
mod WornFronts
pub mod WornRuns
mod Writings
mod Written
