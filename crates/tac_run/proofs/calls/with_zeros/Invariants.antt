use Rattle.std.proofs.Common.{◌≡◌, ◌-◌, ◌++◌, drop, length, map, Some}
use Rattle.obj_mem.specs.Values.{value_of}
use Rattle.cheri_c_sem.specs.Kinds.{zero_of}
use Rattle.tac_ir.specs.Effects.{kind_of}
use Rattle.tac_ir.specs.Meaning.{entry_temps}
use Rattle.tac_run.specs.Views.{vars_of}
use Rattle.tac_run.proofs.calls.with_zeros.Given as goal

-- the values so far, and 0 or null for the other kinds
abbrev pub invariant-kinds : goal.invariant-kinds
invariant-kinds l = vars_of l.values.items
    ++ map (λ k. Some (zero_of (kind_of k))) (drop (length l.values.items) l.kinds)
    ≡ entry_temps l.kinds (map value_of l.fn.values.items)

abbrev pub decreases-kinds : goal.decreases-kinds
decreases-kinds l = length l.kinds - length l.values.items
