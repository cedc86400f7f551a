mod Names
pub mod Ring
pub mod Values
pub mod Changes
pub mod Runs
pub mod NameLaws
pub mod FirstLaws
pub mod MetLaws
pub mod TidyRuns
pub mod TidyLaws
pub mod TidyFinds
