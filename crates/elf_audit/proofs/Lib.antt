pub mod Sizes
pub mod Noted
pub mod Audited
pub mod AuditedImage
