-- What a section's part holds, step by step.
pub mod Passing
pub mod Edges
