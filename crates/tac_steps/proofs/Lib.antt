pub mod Kept
pub mod Meant
pub mod Fewer
pub mod Runs
