pub mod Alike
pub mod ByteLaws
pub mod MemberLaws
pub mod RecordLaws
pub mod Backwards
pub mod Faulting
pub mod MainFunction
pub mod Shown
