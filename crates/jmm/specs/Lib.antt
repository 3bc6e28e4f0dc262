-- What the library's steps go by.
pub mod Accepted
