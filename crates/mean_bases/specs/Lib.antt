pub mod Bases
pub mod Moments
pub mod Laws
