use Rattle.std.proofs.Common.{◌≡◌, ℕ, ◌≤◌, true, length, take}
use Rattle.ck_base.specs.Tokens.{is_among, punctuators}
use Rattle.c_lex.proofs.forms.punctuator_length.Given as goal

abbrev pub invariant-loop-n : goal.invariant-loop-n
invariant-loop-n l = record {
  within : l.n ≤ length l.bytes;
  longest : (m : ℕ) → m ≤ length l.bytes → is_among punctuators (take m l.bytes) ≡ true → m ≤ l.n;
}

abbrev pub decreases-loop-n : goal.decreases-loop-n
decreases-loop-n l = l.n
