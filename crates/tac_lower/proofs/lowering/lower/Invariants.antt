use Rattle.std.proofs.Common.{◌≡◌, ℕ, ◌≤◌, true, Some, take}
use Rattle.std.specs.Prelude.{slice_get}
use Rattle.tac_ir.specs.declared.code.TacFun.{TacFun}
use Rattle.tac_lower.specs.Zeroed.{ZeroesOnce}
use Rattle.std.specs.List.{sum_by}
use Rattle.tac_ir.specs.Within.{function_copies}
use Rattle.tac_ir.specs.WellFormed.{functions_fit}
use Rattle.tac_lower.specs.Lowered.{names_of, names_in}
use Rattle.tac_lower.proofs.Costing.{CostsTo, AllShort, copied_by}
use Rattle.lower_runs.specs.Programs.{AreCodeOf}
use Rattle.tac_lower.specs.Programs.{Standing}
use Rattle.tac_lower.specs.Trees.{signatures}
use Rattle.tac_lower.proofs.lowering.lower.Given as goal

abbrev pub invariant-loop-d : goal.invariant-loop-d
invariant-loop-d l = record {
  named : names_of l.funs.items ≡ names_in (take l.d-index l.defs);
  costs : CostsTo l.fn.p l.funs.items l.d-index;
  copies : sum_by function_copies l.funs.items ≤ copied_by l.fn.p (take l.d-index l.defs);
  zeros : (k : ℕ) (f : TacFun) → slice_get l.funs.items k ≡ Some f → ZeroesOnce f;
  short : AllShort l.funs.items;
  is : Standing l.fn.p → AreCodeOf l.fn.p (signatures l.fn.p) 0 (take l.d-index l.defs) l.funs.items;
  formed : functions_fit l.fn.p (take l.d-index l.defs) l.funs.items ≡ true;
}
