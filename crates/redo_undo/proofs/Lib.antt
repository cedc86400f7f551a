mod Names
pub mod NextUnits
pub mod Compensations
pub mod Rollbacks
pub mod Resting
pub mod PushedPages
pub mod Mirroring
pub mod MirroringStores
pub mod UndoneWork
pub mod Saved
pub mod Opens
pub mod Found
pub mod Judging
pub mod Lasts
pub mod Redoings
pub mod NextRecords
pub mod TakenRecords
pub mod LeftUpdates
pub mod UndoSoFar
pub mod UpTo
pub mod UndoneUpdates
pub mod RedoWorks
pub mod UndoneNumbers
pub mod Calling
mod Rooms
pub mod UndoCalls
pub mod StoreCalling
pub mod StoreRollbacks
