mod Listed
mod Folding
mod Pointers
mod Accesses
mod Objects
mod Keeps
mod Temps
mod Sounding
mod Acts
mod Going
mod Starts
mod Calling
mod Leading
mod Stepping
mod Meant
mod Whole
mod Readiness
pub mod Holds
