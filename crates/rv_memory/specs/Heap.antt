-- The words of `malloc` that have no name of their own.
use Rattle.std.specs.Prelude.{List, [], ◌∷◌}
use Rattle.rv_instr.specs.declared.instr.Instr.{Instr}
use Rattle.rv_instr.specs.declared.instr.Instr.TheVariants.{CapGet, Op}
use Rattle.rv_instr.specs.declared.ops.CapGetOp.TheVariants.{Cgetlen, Cgetbase}
use Rattle.rv_instr.specs.declared.ops.RegOp.TheVariants.{Sub}

-- those with which it measures, but for the branch
abbrev pub measured : List Instr
measured = CapGet Cgetbase 10 28 ∷ Op Sub 10 29 10 ∷ CapGet Cgetlen 30 28 ∷ []
