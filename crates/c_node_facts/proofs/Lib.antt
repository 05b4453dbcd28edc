pub mod Integers
pub mod Known
