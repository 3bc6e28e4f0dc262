-- Document 01, a module for each of its chapters. This is what a reader must believe.
pub mod Limits
pub mod Search
pub mod Answers
pub mod Kinds
pub mod Bytes
pub mod Layout
pub mod Relations
pub mod WorkArea
pub mod Refused
pub mod Rules
pub mod Serial
pub mod Justified
pub mod Questions
pub mod Bench
