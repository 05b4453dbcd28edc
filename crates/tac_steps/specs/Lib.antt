pub mod Machine
pub mod Weights
pub mod Laws
