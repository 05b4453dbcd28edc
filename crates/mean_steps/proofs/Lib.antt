pub mod Alike
pub mod Meant
pub mod Steps
pub mod Steady
pub mod Weighing
pub mod Runs
