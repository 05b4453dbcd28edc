pub mod Digits
pub mod Passing
pub mod Plain
