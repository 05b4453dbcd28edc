pub mod Integers
pub mod State
pub mod Rows
pub mod Step
pub mod ContainedText
pub mod Containment
pub mod Code
