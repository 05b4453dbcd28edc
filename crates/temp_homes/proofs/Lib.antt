pub mod Placing
pub mod Awaited
pub mod Kept
