pub mod Allocated
pub mod Zeroes
