pub mod Forcing
