pub mod Quiet
pub mod Ends
pub mod Stretched
