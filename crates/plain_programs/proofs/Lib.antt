pub mod Expressions
pub mod Forests
pub mod Lists
pub mod Others
pub mod Routines
pub mod Statements
pub mod TypeLaws
pub mod Unchanged
