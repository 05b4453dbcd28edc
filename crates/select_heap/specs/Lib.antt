pub mod Allocating
pub mod Heap
