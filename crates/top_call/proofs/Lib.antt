mod Archived
mod Simulated
mod Verified
