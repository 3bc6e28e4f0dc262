-- The laws of the rows' steps, over the width of a row.
pub mod Word
pub mod Cleared
pub mod Marked
pub mod Rounds
pub mod Steps
pub mod Part
pub mod Unique
