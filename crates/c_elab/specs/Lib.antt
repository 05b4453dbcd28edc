pub mod Elaborated
pub mod Functions
