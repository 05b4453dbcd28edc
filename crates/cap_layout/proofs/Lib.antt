pub mod Lengths
pub mod Rows
pub mod Steps
pub mod Places
pub mod Found
