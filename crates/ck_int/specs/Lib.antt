pub mod Kinds
pub mod Arithmetic
pub mod Words
