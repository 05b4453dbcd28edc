pub mod Kinded
pub mod Moves
pub mod Steady
pub mod Passes
pub mod Matching
pub mod Chosen
