use Rattle.std.proofs.Common.{◌≡◌, ℕ, true, List, sym, ap, subst, ◌∙◌}
use Rattle.std.specs.Prelude.{is_some}
use Rattle.std.proofs.lemmas.Bool.{false≢true}
use Rattle.std.proofs.lemmas.List.{take_all}
use Rattle.c_type_levels.specs.Agreement.{lengths_of}
use Rattle.c_interner.specs.Known.{type_in, LastIsOpen}
use Rattle.c_interner.specs.Levels.{pairs_agree}
use Rattle.c_interner.proofs.Pairing.{pairs_agree_false, pairs_agree_next}
use Rattle.c_interner.proofs.agreement.Agreements.look_all.Goals as goal
use Rattle.c_interner.proofs.agreement.Agreements.look_all.Goals.{in-None+in_ok-push-in-None, in-Some-true}

pub returns-in-Some-false-clause-agree : goal.returns-in-Some-false-clause-agree
returns-in-Some-false-clause-agree c =
    pairs_agree_false (lengths_of c.args.self.now.how)
    (type_in c.args.self.now.types.now) c.args.pairs.now c.loop-pair.pair-index _ c.loop-pair-test.true
    (c.in-Some-false.ensures.agree ∙ c.in-Some-false.field-0-test)

pub loop-pair-preserved : goal.loop-pair-preserved
loop-pair-preserved c =
    elim c.match-look.branch [
      | in-None+in_ok-push-in-None w ↦
          record {
            agree = λ e. absurd (false≢true (sym w.all_known-is ∙ e));
            last = λ e void n h. record {
              others = c.loop-pair.waiting.items;
              last = _;
              are = ap (λ v. v.items) w.waiting-is ∙ w.in_ok-push-in-None.ensures.items;
              unknown = sym c.look.ensures.known ∙ ap is_some w.in-None.is;
              below = h c.loop-pair.pair-index _ c.loop-pair-test.true;
            };
          }
      | in-Some-true w ↦
          record {
            agree = λ e.
                pairs_agree_next (lengths_of c.args.self.now.how)
                (type_in c.args.self.now.types.now) c.args.pairs.now c.loop-pair.pair-index _ c.loop-pair-test.true
                (c.loop-pair.invariant.agree (sym w.all_known-is ∙ e))
                (w.in-Some-true.ensures.agree ∙ w.in-Some-true.field-0-test);
            last = λ e void n h.
                subst (λ v. LastIsOpen c.args.self.now.known.entries void n v.items) (sym w.waiting-is)
                (c.loop-pair.invariant.last (sym w.all_known-is ∙ e) void n h);
          }
    ]

pub returns-then-all_known-clause-agree : goal.returns-then-all_known-clause-agree
returns-then-all_known-clause-agree c =
    subst (λ (qs : List (ℕ × ℕ)). pairs_agree (lengths_of c.args.self.now.how) (type_in c.args.self.now.types.now) qs
    ≡ true) (take_all c.loop-pair.pair-index c.args.pairs.now c.loop-pair-test.false)
    (c.loop-pair.invariant.agree c.if-all_known.true)

pub returns-else-all_known-clause-last : goal.returns-else-all_known-clause-last
returns-else-all_known-clause-last c = c.loop-pair.invariant.last c.if-all_known.false
