mod Spelled
mod Heard
mod Cut
pub mod Told
pub mod Lacking
pub mod Firsts
