pub mod Answering
pub mod Deep
pub mod OneAnswer
pub mod Checking
