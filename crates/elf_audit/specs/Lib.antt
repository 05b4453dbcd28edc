pub mod Audit
pub mod Rules
