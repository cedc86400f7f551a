pub mod Rules
pub mod Outcomes
pub mod Opening
pub mod Unended
pub mod Counting
pub mod Chaining
pub mod Judging
pub mod Laws
