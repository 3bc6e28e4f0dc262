-- Laws of this crate.
mod Reading
