use Rattle.std.proofs.Common.{ℕ, ◌<◌, ◌≤◌, length, sym, ap, subst, ◌∙◌, List}
use Rattle.std.specs.Prelude.{is_some}
use Rattle.std.proofs.lemmas.Bool.{false≢true}
use Rattle.std.proofs.lemmas.List.{take_all}
use Rattle.c_interner.specs.Levels.{AreBelow}
use Rattle.c_interner.specs.Known.{LastIsOpen, NamesComposites}
use Rattle.c_interner.proofs.Keeping.{names_more, below_next}
use Rattle.c_interner.proofs.composites.Composites.look_all.Goals as goal
use Rattle.c_interner.proofs.composites.Composites.look_all.Goals.{in-Some+in_ok-push-in-Some}
use Rattle.c_interner.proofs.composites.Composites.look_all.Goals.{in-None+in_ok-push-in-None, then-all_known}
use Rattle.c_interner.proofs.composites.Composites.look_all.Goals.{else-all_known}

pub loop-pair-preserved : goal.loop-pair-preserved
loop-pair-preserved c =
    let k = c.loop-pair.pair-index in
    let lt : k < length c.args.pairs.now = c.loop-pair-test.true in
    record {
      known = λ types a b e.
          elim c.match-look.branch [
            | in-Some+in_ok-push-in-Some w ↦
                rw (w.made-is, w.in_ok-push-in-Some.ensures.items)
                (names_more types c.args.pairs.now k _ c.loop-pair.made.items w.in-Some.k lt
                (c.loop-pair.invariant.known types a b (sym w.all_known-is ∙ e))
                (w.in-Some.ensures.is types a (b k _ lt).0))
            | in-None+in_ok-push-in-None w ↦ absurd (false≢true (sym w.all_known-is ∙ e))
          ];
      last = λ e void n h.
          elim c.match-look.branch [
            | in-Some+in_ok-push-in-Some w ↦
                subst (λ v. LastIsOpen c.args.self.now.known.entries void n v.items) (sym w.waiting-is)
                (c.loop-pair.invariant.last (sym w.all_known-is ∙ e) void n h)
            | in-None+in_ok-push-in-None w ↦ record {
              others = c.loop-pair.waiting.items;
              last = _;
              are = ap (λ v. v.items) w.waiting-is ∙ w.in_ok-push-in-None.ensures.items;
              unknown = sym c.look.ensures.known ∙ ap is_some w.in-None.is;
              below = h k _ lt;
            }
          ];
      waiting = λ n b i.
          elim c.match-look.branch [
            | in-Some+in_ok-push-in-Some w ↦ subst (λ (v : List (ℕ × ℕ)). AreBelow n v)
                (sym (ap (λ v. v.items) w.waiting-is)) (c.loop-pair.invariant.waiting n b i)
            | in-None+in_ok-push-in-None w ↦
                subst (λ (v : List (ℕ × ℕ)). AreBelow n v)
                (sym (ap (λ v. v.items) w.waiting-is ∙ w.in_ok-push-in-None.ensures.items))
                (below_next n c.args.pairs.now k _ c.loop-pair.waiting.items lt b
                (c.loop-pair.invariant.waiting n b i))
          ];
    }

pub returns-clause-known : goal.returns-clause-known
returns-clause-known c =
    let past : length c.args.pairs.now ≤ c.loop-pair.pair-index = c.loop-pair-test.false in
    elim c.if-all_known.branch [
      | then-all_known w ↦
          rw w.result-is (λ types a b. subst (λ (qs : List (ℕ × ℕ)). NamesComposites types qs c.loop-pair.made.items)
          (take_all c.loop-pair.pair-index c.args.pairs.now past)
          (c.loop-pair.invariant.known types a b w.if-all_known.true))
      | else-all_known w ↦ rw w.result-is tt
    ]

pub returns-clause-last : goal.returns-clause-last
returns-clause-last c =
    elim c.if-all_known.branch [
      | then-all_known w ↦ rw w.result-is tt
      | else-all_known w ↦ rw w.result-is (c.loop-pair.invariant.last w.if-all_known.false)
    ]
