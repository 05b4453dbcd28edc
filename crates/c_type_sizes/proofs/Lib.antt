pub mod Levels
pub mod Ends
