mod Names
pub mod Decisions
pub mod Walking
pub mod Readings
pub mod Standing
pub mod HeldOnes
pub mod ShownOnes
pub mod ChainOnes
pub mod StrayOnes
pub mod Surveyed
pub mod WrittenOnes
pub mod ValuesCounted
pub mod PageRooms
pub mod Looks
pub mod FilledOnes
