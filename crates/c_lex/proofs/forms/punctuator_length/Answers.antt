use Rattle.std.proofs.Common.{◌≡◌, ℕ, ◌≤◌, Bool, true, false, List, length, take, length-take-le, refl, sym, ◌∙◌, arith}
use Rattle.ck_base.specs.Tokens.{is_among, punctuators, has_form}
use Rattle.c_lex.proofs.Tables.{punctuator_short}
use Rattle.c_lex.proofs.forms.punctuator_length.Goals as goal
use Rattle.c_lex.proofs.forms.punctuator_length.Goals.{then-loop-n-test+else-not-is_punctuator, else-loop-n-test}

-- where no longer front than the empty one is a punctuator, none is
none : (bytes : List ℕ) (n : ℕ) → ((m : ℕ) → m ≤ length bytes → is_among punctuators (take m bytes) ≡ true → m ≤ n) →
    n ≡ 0 → (m : ℕ) → m ≤ length bytes → is_among punctuators (take m bytes) ≡ false
none bytes n longest zero_is m within = by_test _ refl
  where
    by_test : (b : Bool) → is_among punctuators (take m bytes) ≡ b → b ≡ false
    by_test true among = absurd (omega (
      arith,
      longest m within among,
      (punctuator_short (take m bytes) among).0,
      length-take-le m bytes within,
    ))
    by_test false among = refl

pub loop-n-init : goal.loop-n-init
loop-n-init c = record {
  within = omega arith;
  longest = λ m within among. omega (
    arith,
    (punctuator_short (take m c.args.bytes.now) among).1,
    length-take-le m c.args.bytes.now within,
  );
}

pub returns-then-n-eq0 : goal.returns-then-n-eq0
unfolding has_form
returns-then-n-eq0 c = none c.args.bytes.now c.loop-n.n c.loop-n.invariant.longest c.if-n-eq0.true

pub returns-else-n-eq0 : goal.returns-else-n-eq0
unfolding has_form
returns-else-n-eq0 c = record {
  within = c.loop-n.invariant.within;
  form = elim c.loop-n-test.branch [
    | then-loop-n-test+else-not-is_punctuator w ↦ sym w.is_punctuator.ensures ∙ w.if-not-is_punctuator.false
    | else-loop-n-test w ↦ absurd (omega arith)
  ];
  longest = c.loop-n.invariant.longest;
}
