pub mod Powers
pub mod Placing
pub mod FrameLaws
pub mod Ranges
pub mod Numbers
pub mod Counts
pub mod EndLaws
