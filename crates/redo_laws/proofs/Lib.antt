mod Citing
pub mod Runs
pub mod Standing
pub mod Touched
pub mod Appended
pub mod Changed
pub mod CallsInSequence
pub mod Empties
pub mod Committed
mod Examples
pub mod Forced
pub mod Orderlies
pub mod Outliving
pub mod Names
pub mod Costs
pub mod Asking
pub mod AskingUndo
pub mod AskingFlush
pub mod UndoneWrites
pub mod WornLogs
pub mod RingNumbers
pub mod LeftNumbers
pub mod Endings
