-- What the reader's own functions come to, beside the definitions of document 01.
pub mod Sections
