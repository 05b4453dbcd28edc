pub mod Capability
pub mod Access
pub mod Bounded
pub mod Permissions
