pub mod Front
pub mod FromFile
