pub mod Fronted
pub mod Once
pub mod FileAnswers
