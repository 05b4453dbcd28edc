pub mod Visited
pub mod Runs
pub mod Matching
pub mod Chosen
