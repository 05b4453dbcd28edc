pub mod Arguments
pub mod Finding
