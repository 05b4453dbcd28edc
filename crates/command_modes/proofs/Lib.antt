pub mod Loads
pub mod Puts
pub mod Said
