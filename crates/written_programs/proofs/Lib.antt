pub mod Expressions
pub mod Lists
pub mod Statements
pub mod Types
pub mod Whole
pub mod Tagged
pub mod Written
