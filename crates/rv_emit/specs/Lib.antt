pub mod Growing
pub mod Leading
pub use Rattle.rv_words.specs.declared.jumps.Jump
pub use Rattle.rv_words.specs.declared.jumps.Mark
