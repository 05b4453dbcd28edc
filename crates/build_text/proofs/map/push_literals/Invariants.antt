use Rattle.std.proofs.Common.{◌≡◌, ◌++◌, slice_get}
use Rattle.build_text.specs.Lines.{lines}
use Rattle.build_text.specs.Map.{literal_line}
use Rattle.build_text.proofs.map.push_literals.Given as goal

abbrev pub invariant-loop-k : goal.invariant-loop-k
invariant-loop-k l = l.into.items ≡ l.initial.into.items
    ++ lines (λ k. literal_line (slice_get l.literals k) (slice_get l.bases k)) l.k
