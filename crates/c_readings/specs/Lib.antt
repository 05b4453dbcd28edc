pub mod Folding
pub mod Gathered
pub mod Kids
pub mod Naming
pub mod Specifying
pub mod Within
