pub mod Each
pub mod Marking
pub mod Ordering
