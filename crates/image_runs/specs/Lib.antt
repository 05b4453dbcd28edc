pub mod Asked
pub mod Made
pub mod Counted
pub mod Starting
pub mod Running
pub mod Lowered
