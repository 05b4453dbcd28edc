pub mod Called
pub mod Choices
pub mod Rules
pub mod Services
