use Rattle.std.proofs.Common.{◌≡◌, ◌-◌, ◌++◌}
use Rattle.typed_build.specs.Text.{code_bytes, filler}
use Rattle.typed_build.proofs.text.fill.Given as goal

abbrev pub invariant-loop : goal.invariant-loop
invariant-loop l = l.text.items ++ code_bytes (filler (l.fn.count - l.counter))
    ≡ l.fn.text.items ++ code_bytes (filler l.fn.count)
