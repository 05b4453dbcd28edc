pub mod Arity
pub mod Declaring
pub mod Gather
pub mod Initial
pub mod Only
pub mod Statements
pub mod Switching
