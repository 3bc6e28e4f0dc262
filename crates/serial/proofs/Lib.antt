pub mod Ranges
pub mod Cursors
pub mod Unique
