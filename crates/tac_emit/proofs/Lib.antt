pub mod Emitting
pub mod Instructions
pub mod Labels
pub mod Spending
pub mod Wells
