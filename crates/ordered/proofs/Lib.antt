pub mod Counts
pub mod Largest
pub mod Unique
