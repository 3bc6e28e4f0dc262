pub mod Sources
pub mod Latest
pub mod Hiding
pub mod Pairs
pub mod Unique
