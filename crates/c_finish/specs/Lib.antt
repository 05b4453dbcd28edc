pub mod Finished
pub mod Tables
