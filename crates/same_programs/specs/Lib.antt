pub mod Types
pub mod Needs
pub mod Totals
pub mod Counts
pub mod Trees
pub mod Points
pub mod Alike
