-- The laws of edges.
pub mod Own
pub mod Unique
