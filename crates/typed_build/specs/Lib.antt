pub mod Text
pub mod Image
pub mod Written
pub mod Built
pub mod Frames
pub mod Coded
pub mod Programs
pub mod Registers
