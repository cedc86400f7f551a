mod Names
pub mod Outcomes
pub mod OpenOnes
pub mod LeftOnes
pub mod Numbering
pub mod ChainOnes
pub mod ChainSteps
pub mod Judged
pub mod Sound
