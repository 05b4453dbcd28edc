use Rattle.std.proofs.Common.{◌≡◌, ◌≤◌, ◌+◌, length, subst, arith}
use Rattle.std.specs.Prelude.{min}
use Rattle.rv_select.specs.Passed.{ArePlaced}
use Rattle.rv_select.proofs.Placing.{chosen_next, placed_next}
use Rattle.rv_select.proofs.calls.arguments_of.Goals.{in-Some+in_ok-place_argument, in_default}
use Rattle.rv_select.proofs.calls.arguments_of.Goals as goal

pub loop-k-preserved : goal.loop-k-preserved
loop-k-preserved c =
    let f = c.args.f.now in
    let args = c.args.args.now in
    let k = c.loop-k.k in
    let was = c.loop-k.all in
    let h = c.loop-k.invariant in
    elim c.match-get.branch [
      | in-Some+in_ok-place_argument w ↦
          let t = w.in-Some.t.now in
          let g = w.in-Some.ensures.lookup in
          let p = w.in_ok-place_argument.ensures in
          rw w.all-is (record {
            few = omega (arith, h.few, p.count, g.3.0);
            chosen = λ a. chosen_next f args k t w.argument.result was w.place_argument.new.all g.3.0 g.1
                w.argument.ensures a p.chosen (h.chosen a);
            placed = λ a aside. placed_next f args k t w.argument.result was w.place_argument.new.all g.3.0 g.1
                w.argument.ensures a aside p.moves p.others (h.placed a aside);
          })
      | in_default w ↦
          let past : length args ≤ k = w.in_default.ensures.lookup.3 in
          let same : min (length args) k ≡ min (length args) (k + 1) = omega (arith, past) in
          rw w.all-is (record {
            few = omega (arith, h.few, past);
            chosen = h.chosen;
            placed = λ a aside. subst (λ n. ArePlaced args n was) same (h.placed a aside);
          })
    ]
