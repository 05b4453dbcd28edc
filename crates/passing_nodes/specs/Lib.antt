pub mod Named
pub mod Numbered
pub mod Ordered
pub mod Places
pub mod Steps
