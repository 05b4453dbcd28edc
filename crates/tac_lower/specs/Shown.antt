-- The code of operations on values in temps.
use Rattle.std.specs.Prelude.{◌≡◌, ℕ, ◌==◌, not, true, false, ◌∷◌, Option, Some}
use Rattle.std.specs.Prelude.{None}
use Rattle.std.specs.Prelude.{if◌then◌else◌}
use Rattle.ck_int.specs.declared.kinds.IntOp.{IntOp}
use Rattle.ck_int.specs.declared.kinds.IntOp.TheVariants.{Add, Sub}
use Rattle.cheri_c_sem.specs.Tree as tree
use Rattle.cheri_c_sem.specs.Tree.{Operation, Whole, Derived, Moved}
use Rattle.cheri_c_sem.specs.Types.{takes_away}
use Rattle.tac_ir.specs.declared.code.TacInstr.TheVariants as instr
use Rattle.tac_ir.specs.declared.code.TacKind.{TacKind}
use Rattle.tac_ir.specs.declared.code.TacKind.TheVariants as kind
use Rattle.tac_lower.specs.declared.operations.Change.{Change}
use Rattle.tac_lower.specs.declared.operations.Pace.{Pace}
use Rattle.tac_lower.specs.declared.operations.Sign.{Sign}
use Rattle.tac_lower.specs.declared.operations.Sign.TheVariants as signs
use Rattle.lower_runs.specs.Operating.{Code, is_capability, word, scaled, scaled_temp, keeps_count}

-- ---- operations

-- an integer of a value: a capability is converted
abbrev pub count_code : TacKind → (y n : ℕ) → Code
count_code k y n rest = if is_capability k then instr.Convert n y k word ∷ rest else rest

abbrev pub count_temp : TacKind → (y n : ℕ) → ℕ
count_temp k y n = if is_capability k then n else y

abbrev pub count_temps : TacKind → ℕ
count_temps k = if is_capability k then 1 else 0

-- the bytes of an index, by those of an element
abbrev pub bytes_code : TacKind → (by i n : ℕ) → Code
bytes_code k by i n rest = if by == 1 then count_code k i n rest else scaled k by i n rest

abbrev pub bytes_temp : TacKind → (by i n : ℕ) → ℕ
bytes_temp k by i n = if by == 1 then count_temp k i n else scaled_temp k n

-- the temps that the right operand of an operation on addresses takes
abbrev pub address_more : IntOp → TacKind → ℕ
address_more op k = if keeps_count op k then 0 else 1

abbrev pub sign_as : Sign → tree.Sign
sign_as signs.Positive = tree.Positive
sign_as signs.Negative = tree.Negative
sign_as signs.Complement = tree.Complement

-- the change of a compound assignment is this operation
abbrev pub ChangesBy : IntOp → TacKind → Option ℕ → Operation → Type 0
ChangesBy op k (Some size) (Moved size' minus left count) = (size' ≡ size) × (minus ≡ takes_away op)
ChangesBy op (kind.Int k) None (Whole op' i count) = (op' ≡ op) × (i ≡ k)
ChangesBy op (kind.Cap signed) None (Derived op' s count right plain) = (op' ≡ op) × (s ≡ signed)
ChangesBy op k size o = ⊥

abbrev pub Changes : Change → Operation → Type 0
Changes c o = ChangesBy c.op c.computed c.element o

-- and a step by one, of a value of a kind
abbrev pub Paces : Pace → TacKind → Operation → Type 0
Paces q (kind.Int k) (Whole Add i count) = q.up ≡ true
Paces q (kind.Int k) (Whole Sub i count) = q.up ≡ false
Paces q (kind.Cap s) (Derived Add signed count right plain) = (q.up ≡ true) × (q.size ≡ 1)
Paces q (kind.Cap s) (Derived Sub signed count right plain) = (q.up ≡ false) × (q.size ≡ 1)
Paces q (kind.Cap s) (Moved size minus left count) = (size ≡ q.size) × (minus ≡ not q.up)
Paces q k o = ⊥
