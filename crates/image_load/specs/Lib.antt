pub mod Judging
pub mod State
pub mod Loading
pub mod Contained
pub mod Extents
