pub mod Naming
pub mod Calling
pub mod Trees
pub mod Operations
pub mod Expressions
pub mod Statements
pub mod Scalars
pub mod Parameters
pub mod Working
pub mod Running
mod Zeroed
pub mod Declaring
