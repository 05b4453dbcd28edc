mod Rows
pub mod Pairs
pub mod Units
pub mod Fitting
pub mod Moves
pub mod Equality
pub mod Order
pub mod Identity
pub mod Agree
pub mod Powers
pub mod Spread
