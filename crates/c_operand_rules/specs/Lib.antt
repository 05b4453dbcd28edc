pub mod Called
pub mod Steps
pub mod Complete
pub mod Members
