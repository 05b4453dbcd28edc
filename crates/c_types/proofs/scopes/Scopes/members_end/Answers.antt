use Rattle.std.proofs.Common.{◌∙◌, sym, refl, get_or}
use Rattle.std.proofs.lemmas.Bool.{false≢true, ltb-false}
use Rattle.c_tree.specs.declared.typed.Member.{Member}
use Rattle.c_tree.specs.Layout.{size_limit}
use Rattle.cap_layout.proofs.Steps.{walk_none, walk_large, walk_past, walk_on, walk_end, walk_over, walk_at, item}
use Rattle.cap_layout.proofs.Steps.{fault_at}
use Rattle.c_type_sizes.specs.Sizes.{numbered_extent}
use Rattle.c_types.proofs.scopes.Scopes.members_end.Goals as goal
use Rattle.c_types.proofs.scopes.Scopes.members_end.Goals.{in-Err-TooLarge, in-Ok+then-not-large, in-Ok+else-not-large}

pub returns-in-Err-Incomplete-clause-is : goal.returns-in-Err-Incomplete-clause-is
returns-in-Err-Incomplete-clause-is c s h =
    let ms = c.args.ms.now in
    let i = c.loop-m.m-index in
    let d : Member = record { name = record { start = 0; end = 0 }; of = 0 } in
    walk_none c.loop-m.large c.args.shared (numbered_extent s.tags c.args.p.now.types) ms i
    (get_or ms i d) c.loop-m.end c.loop-m-test.true
    (item ms i d c.loop-m-test.true)
    (fault_at _ _ _ c.in-Err-Incomplete.field-0-is (c.in-Err-Incomplete.ensures.is s h)) (c.loop-m.invariant.walk s h)

pub loop-m-preserved : goal.loop-m-preserved
loop-m-preserved c =
    let sh = c.args.shared in
    let ms = c.args.ms.now in
    let i = c.loop-m.m-index in
    let d : Member = record { name = record { start = 0; end = 0 }; of = 0 } in
    let m = get_or ms i d in
    let is = item ms i d c.loop-m-test.true in
    elim c.match-layout.branch [
      | in-Err-TooLarge w ↦ record {
        walk = λ s h.
            walk_at _ _ sh (numbered_extent s.tags c.args.p.now.types) ms _ _ _ w.large-is w.end-is
            (walk_large c.loop-m.large sh (numbered_extent s.tags c.args.p.now.types) ms i m c.loop-m.end
            c.loop-m-test.true is (fault_at _ _ _ w.in-Err-TooLarge.field-0-is (w.in-Err-TooLarge.ensures.is s h))
            (c.loop-m.invariant.walk s h));
        size = λ e. absurd (false≢true (sym e ∙ w.large-is));
        positive = rw w.end-is c.loop-m.invariant.positive;
        align = rw w.end-is c.loop-m.invariant.align;
      }
      | in-Ok+then-not-large w ↦ record {
        walk = λ s h.
            walk_at _ _ sh (numbered_extent s.tags c.args.p.now.types) ms _ _ _ w.large-is w.end-is
            (walk_on _ sh (numbered_extent s.tags c.args.p.now.types) ms i m c.loop-m.end w.in-Ok.l w.placed-end.result
            c.loop-m-test.true is (w.in-Ok.ensures.is s h).is w.placed-end.ensures.is
            w.placed-end.ensures.positive w.placed-end.ensures.align refl
            (walk_at _ _ sh (numbered_extent s.tags c.args.p.now.types) ms _ _ _ (sym w.if-not-large.true) refl
            (c.loop-m.invariant.walk s h)));
        size = λ e. rw w.end-is (ltb-false size_limit w.placed-end.result.size (sym w.large-is ∙ e));
        positive = rw w.end-is w.placed-end.ensures.positive;
        align = rw w.end-is w.placed-end.ensures.align;
      }
      | in-Ok+else-not-large w ↦ record {
        walk = λ s h.
            walk_at _ _ sh (numbered_extent s.tags c.args.p.now.types) ms _ _ _
            (w.large-is ∙ w.if-not-large.false) w.end-is
            (walk_past sh (numbered_extent s.tags c.args.p.now.types) ms i m c.loop-m.end w.in-Ok.l c.loop-m-test.true
            is (w.in-Ok.ensures.is s h).is
            (walk_at _ _ sh (numbered_extent s.tags c.args.p.now.types) ms _ _ _ (sym w.if-not-large.false) refl
            (c.loop-m.invariant.walk s h)));
        size = λ e. absurd (false≢true (sym e ∙ w.large-is ∙ w.if-not-large.false));
        positive = rw w.end-is c.loop-m.invariant.positive;
        align = rw w.end-is c.loop-m.invariant.align;
      }
    ]

pub returns-then-large-clause-is : goal.returns-then-large-clause-is
returns-then-large-clause-is c s h =
    walk_over c.args.shared (numbered_extent s.tags c.args.p.now.types) c.args.ms.now c.loop-m.m-index c.loop-m.end
    c.loop-m-test.false
    (walk_at _ _ _ _ _ _ _ _ (sym c.if-large.true) refl (c.loop-m.invariant.walk s h))

pub returns-else-large-clause-is : goal.returns-else-large-clause-is
returns-else-large-clause-is c s h =
    walk_end c.args.shared (numbered_extent s.tags c.args.p.now.types) c.args.ms.now c.loop-m.m-index c.loop-m.end
    c.loop-m-test.false
    (walk_at _ _ _ _ _ _ _ _ (sym c.if-large.false) refl (c.loop-m.invariant.walk s h))
