pub mod Fitting
pub mod Scoping
pub mod Valued
pub mod Codes
