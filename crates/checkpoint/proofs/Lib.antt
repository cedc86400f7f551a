mod Names
mod Texts
mod PairLists
pub mod UnitParts
pub mod Standing
mod Saving
