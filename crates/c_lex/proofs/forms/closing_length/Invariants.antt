use Rattle.std.proofs.Common.{◌≡◌, ℕ, ◌-◌, take, drop, false}
use Rattle.ck_base.specs.Tokens.{closes}
use Rattle.c_lex.proofs.forms.closing_length.Given as goal

-- what is left closes the literal exactly where the whole does
abbrev pub invariant-loop-i : goal.invariant-loop-i
invariant-loop-i l = (n : ℕ) →
    closes l.quote false (take n l.bytes) ≡ closes l.quote l.escaped (take (n - l.i) (drop l.i l.bytes))
