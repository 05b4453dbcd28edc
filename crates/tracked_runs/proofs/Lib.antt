pub mod Follow
pub mod Matching
