pub mod Members
pub mod Placing
pub mod Switches
pub mod Faults
pub mod MainFunction
pub mod Tables
