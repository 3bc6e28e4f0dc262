-- Laws of this crate.
pub mod Unique
