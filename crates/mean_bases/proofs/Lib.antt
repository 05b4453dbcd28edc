pub mod Stays
pub mod Accesses
pub mod Objects
pub mod Pointers
pub mod Keeps
pub mod Runs
