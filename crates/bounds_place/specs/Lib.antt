pub mod Rows
pub mod Parts
pub mod Placing
pub mod Sizes
