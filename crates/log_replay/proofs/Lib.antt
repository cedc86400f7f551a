mod Names
pub mod Opens
pub mod OpenOnes
pub mod Nets
pub mod Blocks
pub mod Ledgers
pub mod Replays
