-- What 28 asks of an edge.
pub mod Edge
