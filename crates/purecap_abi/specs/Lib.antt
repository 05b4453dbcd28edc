pub mod Placing
pub mod Frames
pub mod Words
pub mod Numbers
pub mod Saving
pub mod Ends
