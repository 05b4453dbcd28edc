pub mod Tracking
pub mod Matching
