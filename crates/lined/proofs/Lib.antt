-- Laws of sections in line, and of the sweep over one.
pub mod Objects
pub mod Line
pub mod Edges
pub mod Bit
pub mod Passing
pub mod Unique
