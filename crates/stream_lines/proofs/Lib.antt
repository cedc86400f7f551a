mod LineOctets
mod Gathered
mod Takes
pub mod Asked
