-- What the section check's own functions come to.
pub mod Map
