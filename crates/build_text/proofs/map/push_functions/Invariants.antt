use Rattle.std.proofs.Common.{◌≡◌, ◌++◌, slice_get}
use Rattle.build_text.specs.Lines.{lines}
use Rattle.build_text.specs.Map.{function_line}
use Rattle.build_text.proofs.map.push_functions.Given as goal

abbrev pub invariant-loop-k : goal.invariant-loop-k
invariant-loop-k l = l.into.items ≡ l.initial.into.items
    ++ lines (λ k. function_line l.file (slice_get l.functions k) (slice_get l.entries k)) l.k
