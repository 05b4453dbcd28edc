pub mod Beside
pub mod Allocating
pub mod Masks
pub mod Rows
pub mod Heap
