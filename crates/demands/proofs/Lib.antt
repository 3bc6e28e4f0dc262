-- A proof of each statement of specs/Demands.antt; Proved has them together.
pub mod Checked
pub mod Sequences
pub mod Ranks
pub mod Seeing
pub mod Forms
pub mod Greedy
pub mod Order
pub mod Race
pub mod Cases
pub mod Proved
