use Rattle.std.proofs.Common.{◌≡◌, ◌++◌, [], ◌∷◌, true, Some, inl, inr, sym, subst, arith}
use Rattle.std.specs.Prelude.{slice_get}
use Rattle.reg_alloc.specs.declared.intervals.Interval.{Interval}
use Rattle.tac_ir.specs.Intervals.{NamesAt, IsLive}
use Rattle.tac_ir.specs.WellFormed.{labels_differ}
use Rattle.tac_live.proofs.Numbered.{names_its_temps, labels_once}
use Rattle.tac_live.proofs.Pushes.{get_push}
use Rattle.tac_live.proofs.live.intervals.Goals as goal

pub uses_of-requires-clause-named : goal.uses_of-requires-clause-named
uses_of-requires-clause-named c =
    λ t n a. names_its_temps c.args.f.now c.requires.numbered t n
    (subst (λ code. NamesAt code t n) c.as_slice-code.ensures a)

pub blocks_of-requires-clause-labels : goal.blocks_of-requires-clause-labels
blocks_of-requires-clause-labels c =
    subst (λ code. labels_differ code ≡ true) (sym c.as_slice-code.ensures)
    (labels_once c.args.f.now c.requires.numbered)

pub loop-u-preserved : goal.loop-u-preserved
loop-u-preserved c =
    let f = c.args.f.now in
    let index = c.loop-u.invariant.index in
    let len = c.loop-u.invariant.len in
    let pushed = c.in_ok-push.ensures.len in
    let ok = c.loop-u.live.ok.0 in
    let items : c.push.new.self.items ≡ c.loop-u.live.items ++ c.interval.result ∷ [] = c.in_ok-push.ensures.items in
    record {
      index = omega arith;
      len = omega arith;
      live = λ k i e. elim (get_push c.loop-u.live.items c.interval.result i k
          (subst (λ xs. slice_get xs k ≡ Some i) items e)) [
            | inl o ↦ c.loop-u.invariant.live k i o
            | inr o ↦
                let at = o.0 in
                let t : c.loop-u.t ≡ k = omega arith in
                subst (λ m. IsLive f m i.first i.last) t
                (subst (λ (j : Interval). IsLive f c.loop-u.t j.first j.last) (sym o.1) c.interval.ensures)
          ];
    }
