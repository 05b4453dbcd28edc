pub mod Checked
pub mod Choice
pub mod Numbered
pub mod Steps
pub mod Finished
mod NextCall
