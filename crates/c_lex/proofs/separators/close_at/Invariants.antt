use Rattle.std.proofs.Common.{◌≡◌, ℕ, ◌+◌, ◌<◌, drop, false}
use Rattle.std.specs.Prelude.{codes}
use Rattle.ck_base.specs.Lexes.{begins_with}
use Rattle.c_lex.proofs.separators.close_at.Given as goal

abbrev pub invariant-loop-i : goal.invariant-loop-i
invariant-loop-i l = (k : ℕ) → k + 1 < l.i → begins_with (codes "*/") (drop k l.bytes) ≡ false
