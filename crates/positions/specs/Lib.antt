-- What is found once in a section and kept, between the fields that are read and the rules of document 01.
pub mod Limit
pub mod Lists
pub mod Firsts
pub mod Idents
