pub mod AllOf
pub mod Bools
pub mod Entries
pub mod Lists
pub mod Options
pub mod Results
pub mod Sums
