pub mod Lengths
pub mod Behind
pub mod Entries
pub mod Legal
pub mod Ranges
pub mod Steps
