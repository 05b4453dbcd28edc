-- What callers need of intervals and of argument places.
use Rattle.std.proofs.Common.{ℕ, ◌≤◌, length, refl, arith}
use Rattle.tac_ir.specs.Costs.{cost}
use Rattle.tac_ir.specs.Intervals.{Covers}
use Rattle.tac_ir.specs.declared.code.TacFun.{TacFun}
use Rattle.tac_ir.specs.declared.code.TacInstr.{TacInstr}
use Rattle.tac_ir.specs.declared.code.TacInstr.TheVariants as instr
use Rattle.tac_live.proofs.Numbers.{at_within}
use Rattle.tac_live.specs.Calls.{places_past_eight}

-- all of a function's code
whole : (f : TacFun) (t : ℕ) → Covers f t 0 (length f.code)
whole f t = record {
  at_entry = λ h. refl;
  named = λ n a. (omega arith, at_within f.code n a.0 a.1);
  loops = λ bent from to l below above. (omega arith, at_within f.code to l.jump l.ends);
}

places_cost : (i : TacInstr) → places_past_eight i ≤ cost i
places_cost (instr.Call to fun args) = omega arith
places_cost (instr.CallValue to v of args pos) = omega arith
places_cost i = omega arith
