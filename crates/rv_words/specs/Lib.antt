pub mod Instructions
pub mod Leading
