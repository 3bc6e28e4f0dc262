-- The laws of the section check.
pub mod Map
pub mod Unique
