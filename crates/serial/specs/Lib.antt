-- What the code keeps between two steps of the order, as functions of what it kept before.
pub mod Cursors
