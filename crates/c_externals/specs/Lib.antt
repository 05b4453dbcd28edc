pub mod Blocks
pub mod Statements
