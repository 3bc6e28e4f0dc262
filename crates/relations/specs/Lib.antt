-- What actions give and take.
pub mod Objects
