mod Names
mod Tables
mod Maps
mod Records
mod Steps
mod Starting
mod Reading
mod Nexts
mod Orders
pub mod Pending
mod Unfinished
mod Taking
mod Takes
mod TakenTables
