pub mod Heads
pub mod Levels
pub mod Agreement
