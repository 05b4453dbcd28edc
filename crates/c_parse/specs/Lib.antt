pub mod Checked
pub mod Parsed
pub mod Turns
