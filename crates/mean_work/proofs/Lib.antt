pub mod Reversed
pub mod Turning
pub mod Sets
