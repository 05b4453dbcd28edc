-- Lowered code writes each temp before it reads it.
use Rattle.std.specs.Prelude.{◌≡◌, ℕ, true, Some, slice_get}
use Rattle.c_tree.specs.Typing.{Sound}
use Rattle.c_tree.specs.declared.typed.Typed.{Typed}
use Rattle.tac_ir.specs.Temps.{WritesFirst}
use Rattle.tac_ir.specs.WellFormed.{is_well_formed}
use Rattle.tac_ir.specs.declared.code.Tac.{Tac}
use Rattle.tac_ir.specs.declared.code.TacFun.{TacFun}
use Rattle.lower_runs.specs.Programs.{IsProgram}
use Rattle.lower_writes.specs.Naming.{BodiesName}

-- in well formed code that stands for a program each function writes a temp before it reads it, but those of arguments
abbrev pub CodeWrites : Typed → Type 0
CodeWrites p = (t : Tac) → IsProgram p t → is_well_formed t p ≡ true → (k : ℕ) (f : TacFun) →
    slice_get t.funs k ≡ Some f → WritesFirst f

-- where the trees of its functions name variables that are declared around them
abbrev pub NamedCodeWrites : Type 0
NamedCodeWrites = (p : Typed) → BodiesName p → CodeWrites p

-- and so in that of a sound program
abbrev pub SoundCodeWrites : Type 0
SoundCodeWrites = (p : Typed) → Sound p → CodeWrites p
