-- The words of branches.
use Rattle.std.specs.Prelude.{◌≡◌, ℕ, ℤ, pos, Bool, true, false, List, [], ◌∷◌, ◌++◌}
use Rattle.rv_instr.specs.declared.instr.Instr.{Instr}
use Rattle.rv_instr.specs.declared.instr.Instr.TheVariants.{Branch, Cjal}
use Rattle.rv_instr.specs.declared.ops.BranchOp.{BranchOp}
use Rattle.rv_instr.specs.declared.ops.BranchOp.TheVariants.{Beq, Bne}
use Rattle.select_words.specs.Emitted.{Operand}
use Rattle.select_words.specs.Selecting.{Selecting}

-- the branch that is taken where the truth of a register isn't `when`
abbrev pub inverted : Bool → BranchOp
inverted true = Beq
inverted false = Bne

-- The operand, and a branch over the jump to the label
pub record BranchWords (s : Selecting) (on : ℕ) (when : Bool) (z : ℤ) (finds words : List Instr) : Type 0 where
  pub a : ℕ
  pub found : Operand s on 28 finds a
  pub are : words ≡ finds ++ (Branch (inverted when) a 0 (pos 8) ∷ Cjal 0 z ∷ [])
