-- Sections in line, and what the sweep notes of them.
pub mod Line
pub mod Passing
