mod Names
mod LiveBlocks
mod Told
mod UpTo
mod WholeAnswer
mod Synced
mod Ending
