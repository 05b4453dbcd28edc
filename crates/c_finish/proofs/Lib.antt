pub mod Bodies
pub mod Counting
pub mod Ending
pub mod Firsts
pub mod Functions
pub mod Globals
pub mod Records
