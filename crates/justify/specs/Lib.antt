-- What the rules of a committing sequence are asked with.
pub mod Row
pub mod Found
pub mod Idle
