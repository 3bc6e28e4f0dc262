-- Theorems about document 01's definitions: the race answer ignores what a read sees; the consistency rules say that every order shows the same writes.
pub mod Race
pub mod Consistent
