-- The operands of operations on values in temps.
use Rattle.std.specs.Prelude.{◌≡◌, ℕ, Bool, true, false}
use Rattle.std.specs.Prelude.{Option, Some, None}
use Rattle.ck_int.specs.declared.kinds.IntKind.{IntKind}
use Rattle.ck_int.specs.declared.kinds.IntKind.TheVariants as int
use Rattle.ck_int.specs.declared.kinds.IntOp.{IntOp}
use Rattle.cheri_c_sem.specs.Types.{is_shift}
use Rattle.tac_ir.specs.declared.code.TacKind.{TacKind}
use Rattle.tac_ir.specs.declared.code.TacKind.TheVariants as kind
use Rattle.tac_emit.specs.declared.emitter.Emitter.{Emitter}
use Rattle.tac_emit.specs.Emitted.{HasKind, is_capability}
use Rattle.tac_lower.specs.declared.operations.Held.{Held}
use Rattle.tac_lower.specs.declared.operations.Change.{Change}

-- the kind of the right operand of an operation: that of a shift's count may be any
abbrev pub RightFits : (shift : Bool) → IntKind → TacKind → Type 0
RightFits true j k = Unit {0}
RightFits false j k = k ≡ kind.Int j

-- and of one on capability integers
abbrev pub AddressFits : (shift : Bool) → TacKind → Type 0
AddressFits true k = Unit {0}
AddressFits false k = is_capability k ≡ true

-- a compound assignment, by the kinds of the place and of the right operand: a pointer is moved by elements
abbrev pub ComputedFits : IntOp → (computed of : TacKind) → Type 0
ComputedFits op (kind.Int j) k = RightFits (is_shift op) j k
ComputedFits op (kind.Cap signed) k = AddressFits (is_shift op) k

abbrev pub ElementFits : Option ℕ → IntOp → (computed place of : TacKind) → Type 0
ElementFits (Some size) op computed place k = is_capability place ≡ true
ElementFits None op computed place k = ComputedFits op computed k

abbrev pub ChangeFits : Change → (place of : TacKind) → Type 0
ChangeFits c place k = ElementFits c.element c.op c.computed place k

-- the integer kind of 64 bits to which a kind is extended
abbrev pub wide_of : TacKind → IntKind
wide_of (kind.Int int.I8) = int.I64
wide_of (kind.Int int.I16) = int.I64
wide_of (kind.Int int.I32) = int.I64
wide_of (kind.Int int.I64) = int.I64
wide_of k = int.U64

-- a value in a temp
abbrev pub Holds : Emitter → Held → Type 0
Holds e x = HasKind e x.temp x.kind
