pub mod HeldMemory
pub mod Modes
pub mod Starting
