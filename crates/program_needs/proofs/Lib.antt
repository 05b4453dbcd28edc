pub mod Lengths
pub mod Locals
pub mod Counting
