-- What the code of the rules keeps, between the fields that it reads and the rules of document 01.
pub mod Monitors
pub mod Threads
