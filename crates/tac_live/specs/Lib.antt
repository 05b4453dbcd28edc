pub mod Uses
pub mod Loops
pub mod Live
pub mod Calls
