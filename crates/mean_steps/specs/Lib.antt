pub mod Parts
pub mod Machine
pub mod Weights
pub mod Laws
