-- The arguments of calls.
pub use Rattle.c_operand_rules.specs.Called.{AreThere}
