pub mod Calling
pub mod Forming
pub mod Naming
pub mod Parts
pub mod Steps
pub mod Words
