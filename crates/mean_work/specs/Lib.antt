pub mod Stacks
pub mod Places
pub mod Turns
pub mod Answers
