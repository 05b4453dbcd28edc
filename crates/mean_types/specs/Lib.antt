pub mod Views
pub mod Facts
pub mod Constants
pub mod Parameters
