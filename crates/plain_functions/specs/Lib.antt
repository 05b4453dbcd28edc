pub mod Stretches
pub mod Plain
pub mod Keeping
