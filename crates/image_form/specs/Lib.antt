pub mod Counted
pub mod Findings
pub mod Formed
pub mod Framing
pub mod Newest
pub mod Octets
pub mod Verdict
pub mod Walking
