pub mod Sets
pub mod Listing
pub mod Tables
pub mod Slots
pub mod Limited
pub mod Unique
