-- The end of some code, as it is gone through.
use Rattle.std.proofs.Common.{Bool, List, [], ◌∷◌}
use Rattle.tac_ir.specs.WellFormed.{ends_well}
use Rattle.tac_ir.specs.declared.code.TacInstr.{TacInstr}

-- whether all of the code ends well, where what was passed did or didn't
abbrev pub ends_after : Bool → List TacInstr → Bool
ends_after ends [] = ends
ends_after ends (i ∷ is) = ends_well (i ∷ is)
