-- Laws between the questions and the steps that answer them.
pub mod Accepted
pub mod Laid
pub mod Shown
pub mod Clean
pub mod Answered
pub mod Left
pub mod Unique
