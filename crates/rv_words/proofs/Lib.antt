pub mod Contained
pub mod Landed
pub mod Led
pub mod Lengths
pub mod MadeNumbers
pub mod Targets
pub mod WordNumbers
