use Rattle.std.proofs.Common.{◌≡◌, ◌++◌, drop}
use Rattle.typed_build.specs.Text.{code_bytes}
use Rattle.typed_build.proofs.text.push_all.Given as goal

abbrev pub invariant-loop-i : goal.invariant-loop-i
invariant-loop-i l = l.text.items ++ code_bytes (drop l.i-index l.code) ≡ l.fn.text.items ++ code_bytes l.code
