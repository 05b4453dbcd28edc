pub mod Answers
pub mod Walks
pub mod Kept
pub mod Extents
