pub mod Traces
pub mod Reports
pub mod Counting
pub mod Hearing
pub mod Contract
