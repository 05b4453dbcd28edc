pub mod Numbers
pub mod Depth
pub use Rattle.c_plain_parts.proofs.Backwards
pub use Rattle.c_plain_parts.proofs.ByteLaws
pub use Rattle.c_plain_parts.proofs.MemberLaws
pub use Rattle.c_plain_parts.proofs.Shown
