pub mod CheckLaws
pub mod Endings
pub mod Firsts
mod LineOctets
mod Gathered
mod NewLaws
pub mod Replies
mod Takes
mod Zeros
