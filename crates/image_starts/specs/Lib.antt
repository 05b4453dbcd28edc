pub mod Words
pub mod Images
pub mod Running
