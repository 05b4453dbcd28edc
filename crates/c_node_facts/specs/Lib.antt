pub mod Classes
pub mod Facts
pub mod Operands
