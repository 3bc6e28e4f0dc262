-- What the code of the rules finds, between the fields that it reads and the rules of document 01.
pub mod Sources
pub mod Searches
