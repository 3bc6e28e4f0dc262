-- Laws of what actions give and take.
pub mod Objects
pub mod Unique
