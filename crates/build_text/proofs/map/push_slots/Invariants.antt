use Rattle.std.proofs.Common.{◌≡◌, ◌++◌, slice_get}
use Rattle.build_text.specs.Lines.{lines}
use Rattle.build_text.specs.Map.{slot_line_of}
use Rattle.build_text.proofs.map.push_slots.Given as goal

abbrev pub invariant-loop-k : goal.invariant-loop-k
invariant-loop-k l = l.into.items ≡ l.initial.into.items
    ++ lines (λ k. slot_line_of l.file l.objects (slice_get l.slots k)) l.k
