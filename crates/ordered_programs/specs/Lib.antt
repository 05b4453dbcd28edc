pub mod Ordered
pub mod Uses
