-- The laws of what is found once, of the stages, and of rows by words.
pub mod Words
pub mod Holds
pub mod Least
pub mod Stage
pub mod Idle
pub mod Lead
pub mod Unique
