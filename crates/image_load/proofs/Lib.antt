pub mod Walk
pub mod Sorted
pub mod Judged
pub mod First
pub mod Exact
