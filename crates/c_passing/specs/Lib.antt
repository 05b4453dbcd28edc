pub mod Lists
pub mod Named
pub mod Numbered
pub mod Operands
pub mod Passes
pub mod Routines
