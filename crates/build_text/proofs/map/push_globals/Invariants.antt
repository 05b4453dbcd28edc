use Rattle.std.proofs.Common.{◌≡◌, ◌++◌, slice_get}
use Rattle.build_text.specs.Lines.{lines}
use Rattle.build_text.specs.Map.{global_line}
use Rattle.build_text.proofs.map.push_globals.Given as goal

abbrev pub invariant-loop-k : goal.invariant-loop-k
invariant-loop-k l = l.into.items ≡ l.initial.into.items
    ++ lines (λ k. global_line l.file l.p.types (slice_get l.p.globals k) (slice_get l.bases k)) l.k
