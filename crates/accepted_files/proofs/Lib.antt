pub mod Light
pub mod OneFile
pub mod Summing
