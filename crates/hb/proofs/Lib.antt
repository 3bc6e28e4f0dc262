-- Laws of the edges, of the sweep that marks them and of the rounds that close them.
pub mod Marks
pub mod Hands
pub mod Entries
pub mod Passing
pub mod Filled
pub mod Unique
