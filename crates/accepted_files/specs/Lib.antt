pub mod Accepted
pub mod Sums
