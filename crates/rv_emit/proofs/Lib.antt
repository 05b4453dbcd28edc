pub mod Appended
pub mod Entries
pub mod Grown
pub mod Texts
pub use Rattle.rv_words.proofs.Contained
pub use Rattle.rv_words.proofs.Landed
pub use Rattle.rv_words.proofs.WordNumbers
