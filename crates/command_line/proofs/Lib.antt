mod ClapInverse
mod ClapLaws
pub mod WordLaws
