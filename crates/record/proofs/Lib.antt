-- The laws of the reader.
pub mod Parts
pub mod Cuts
pub mod Stages
pub mod Unrefused
pub mod Unique
