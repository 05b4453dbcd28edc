pub mod Members
pub mod Moments
pub mod Places
pub mod Stays
