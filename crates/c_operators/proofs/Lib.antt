pub mod Asking
pub mod Assigning
pub mod Choosing
pub mod Comparing
pub mod Numbers
pub mod Texts
