-- How many acts are left of a run: a bound.
use Rattle.std.specs.Prelude.{ℕ, ◌+◌, ◌-◌, ◌*◌, max, List, [], ◌∷◌, length}
use Rattle.tac_ir.specs.declared.code.Tac.{Tac}
use Rattle.tac_ir.specs.declared.code.TacFun.{TacFun}
use Rattle.tac_steps.specs.Machine.{Moment}

-- the length of the longest code
abbrev pub longest : List TacFun → ℕ
longest [] = 0
longest (f ∷ fs) = max (length f.code) (longest fs)

-- a turn pays for one way through a list
abbrev pub acts_left : {M : Type 0} → Tac → Moment M → ℕ
acts_left t m = m.now.left * (longest t.funs + 1) + (longest t.funs - m.at)
