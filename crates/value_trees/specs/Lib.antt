pub mod Standing
pub mod Nodes
pub mod Statements
pub mod Types
