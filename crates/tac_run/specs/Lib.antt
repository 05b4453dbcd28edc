pub mod Lists
pub mod Bases
pub mod Ready
pub mod Moments
pub mod Holdings
pub mod Views
