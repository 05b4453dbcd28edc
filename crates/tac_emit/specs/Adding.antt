-- Which instructions are added, and how many temps and labels they take.
use Rattle.std.specs.Prelude.{◌≡◌, ℕ, ◌+◌, ◌≤◌, ◌++◌, true, List, [], ◌∷◌, length}
use Rattle.cap_concentrate.specs.Rounding.{owned}
use Rattle.c_tree.specs.Layout.{size_limit}
use Rattle.tac_ir.specs.declared.code.Amount.TheVariants as amount
use Rattle.tac_ir.specs.declared.code.TacInstr.{TacInstr}
use Rattle.tac_ir.specs.declared.code.TacInstr.TheVariants as instr
use Rattle.tac_ir.specs.declared.code.TacKind.{TacKind}
use Rattle.tac_emit.specs.declared.emitter.Emitter.{Emitter}
use Rattle.tac_emit.specs.Emitted.{Keeps}
use Rattle.lower_runs.specs.Operating.{Code, AreInts}
use Rattle.lower_runs.specs.Expressions.{Mark}

-- how many temps and labels a function has so far
abbrev pub mark : Emitter → Mark
mark e = record { temps = length e.kinds.items; labels = e.labels }

-- in front of whatever follows, this code is added
pub record Added (old new : Emitter) (code : Code) : Type 0 where
  pub is : (rest : List TacInstr) → new.code.items ++ rest ≡ old.code.items ++ code rest

-- The code of an operation is added, with so many temps and no label; whatever temps are made later, the right operands
-- of its operations on integers have integer kinds
pub record Emits (old new : Emitter) (n : ℕ) (code : Code) : Type 0 where
  pub added : Added old new code
  pub temps : length new.kinds.items ≡ length old.kinds.items + n
  pub labels : new.labels ≡ old.labels
  pub keeps : Keeps old.kinds.items new.kinds.items
  pub ints : (kinds : List TacKind) → Keeps new.kinds.items kinds → AreInts kinds (code [])

abbrev pub none : Code
none rest = rest

abbrev pub one : TacInstr → Code
one i rest = i ∷ rest

-- a pointer gets the bounds of what a member of so many bytes owns
pub record NarrowsTo (old new : Emitter) (to size : ℕ) : Type 0 where
  pub length : ℕ
  pub owns : size ≤ size_limit → length ≡ owned size
  pub emits : Emits old new 0 (one (instr.Narrow to to (amount.Number length) true))
