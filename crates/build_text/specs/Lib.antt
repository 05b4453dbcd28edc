pub mod Lines
pub mod Map
pub mod Listing
