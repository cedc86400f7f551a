mod Heard
mod Told
mod Firsts
