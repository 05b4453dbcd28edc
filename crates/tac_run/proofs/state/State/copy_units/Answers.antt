use Rattle.std.proofs.Common.{◌≡◌, ◌+◌, ◌-◌, ◌*◌, Ok, suc, sym, ap, ◌∙◌, subst, arith}
use Rattle.obj_mem.specs.Values.{value_of}
use Rattle.cheri_c_sem.specs.Meaning.{At, further}
use Rattle.cheri_c_sem.specs.Modes.{operations, placed_plan}
use Rattle.mean_steps.specs.Parts.{copy_units}
use Rattle.tac_run.specs.Holdings.{Changes, ops_of}
use Rattle.tac_run.specs.Views.{now_of}
use Rattle.tac_run.proofs.Leading.{one_copied, same_map}
use Rattle.tac_run.proofs.state.State.copy_units.Goals as goal

pub units-preserved : goal.units-preserved
units-preserved c =
    let ops = ops_of c.args.self.now.memory in
    let m = c.units.self.memory in
    let m' = c.copy_unit.new.self in
    let unit = c.args.unit in
    let done = c.units.done in
    let from = value_of c.args.from in
    let to = value_of c.args.to in
    let n = now_of c.units.self in
    let left : c.args.count - done ≡ suc (c.args.count - (done + 1)) = omega (arith, c.units-test.true) in
    let next : done * unit + unit ≡ (done + 1) * unit = omega arith in
    let by_map = subst (λ z. Changes ((operations (placed_plan z)).copy_unit m.store (value_of c.further.result)
    (value_of c.further-in-units.result) unit) m (Ok (tt {0})) m') c.units.invariant.under c.in-Ok.ensures in
    let by_from = subst (λ v. Changes (ops.copy_unit m.store v (value_of c.further-in-units.result) unit) m
    (Ok (tt {0})) m') (c.further.ensures ∙ ap (λ k. further from (done * k)) c.from.ensures) by_map in
    let by_to = subst (λ v. Changes (ops.copy_unit m.store (further from (done * unit)) v unit) m (Ok (tt {0})) m')
    (c.further-in-units.ensures ∙ ap (λ k. further to (done * k)) c.from.ensures) by_from in
    record {
      under = same_map _ m m' c.in-Ok.ensures ∙ c.units.invariant.under;
      copied =
          ap (λ k. copy_units ops (c.args.count - (done + 1)) unit k (At c.args.positions.0 from)
          (At c.args.positions.1 to) (record n { mem = m'.store })) (sym next)
          ∙ (sym (one_copied ops unit (done * unit) c.args.positions.0 c.args.positions.1 from to (c.args.count - done)
          (c.args.count - (done + 1)) n m m' left by_to) ∙ c.units.invariant.copied);
    }
