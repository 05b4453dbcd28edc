pub mod Again
pub mod Found
pub mod Lines
pub mod Records
pub mod Runs
pub mod Sizes
pub mod Spelled
pub mod Tested
