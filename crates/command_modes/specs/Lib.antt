pub mod Answers
pub mod Audit
pub mod Shown
pub mod Modes
