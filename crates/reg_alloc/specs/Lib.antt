pub mod Placed
pub mod Scanned
pub mod Crossing
pub mod Calls
pub mod Ranks
