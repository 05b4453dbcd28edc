pub mod Heads
pub mod Numbers
pub mod Levels
pub mod Agreement
pub mod Known
