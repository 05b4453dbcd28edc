pub mod Copies
pub mod Moves
pub mod Operations
