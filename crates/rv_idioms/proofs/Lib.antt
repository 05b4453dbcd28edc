pub mod Copied
pub mod Moved
pub use Rattle.rv_memory.proofs.Zeroes
