pub mod Agreement
pub mod Answers
pub mod Classes
pub mod Facts
pub mod Nodes
pub mod Rows
pub mod Values
