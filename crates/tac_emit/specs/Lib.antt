pub mod Adding
pub mod Emitted
pub mod Lone
pub mod Spent
