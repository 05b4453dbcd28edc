pub mod Copying
pub mod Order
pub mod Standing
