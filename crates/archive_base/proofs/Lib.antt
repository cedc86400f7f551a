pub mod Agreeing
pub mod Hearing
pub mod Opened
pub mod Claims
pub mod WalkedLogs
