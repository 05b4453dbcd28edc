pub mod Begins
pub mod Initial
pub mod Stored
pub mod Pointers
pub mod Levels
pub mod Whole
