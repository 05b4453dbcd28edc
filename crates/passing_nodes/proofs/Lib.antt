pub mod Calling
pub mod Counting
pub mod Naming
pub mod Ordering
pub mod Results
pub mod Returning
pub mod Tagging
pub mod Trees
