pub mod Agreeing
pub mod Arrays
pub mod Converting
pub mod Growth
pub mod Keeping
pub mod Levels
