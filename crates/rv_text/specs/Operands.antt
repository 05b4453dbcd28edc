-- The text of an operand.
use Rattle.std.specs.Prelude.{ℕ, List, decimal}
use Rattle.std.specs.Fmt.{signed_decimal}
use Rattle.rv_text.specs.Listing.{capability, integer, at}
use Rattle.rv_text.specs.declared.operands.Operand.{Operand}
use Rattle.rv_text.specs.declared.operands.Operand.TheVariants.{Capability, Integer, Number, Field, At}

abbrev pub text_of : Operand → List ℕ
text_of (Capability register) = capability register
text_of (Integer register) = integer register
text_of (Number number) = signed_decimal number
text_of (Field field) = decimal field
text_of (At offset register) = at offset register
