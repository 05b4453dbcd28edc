use Rattle.std.proofs.Common.{◌≡◌, ◌<◌, ◌≤◌, Some, length, take, sym, ap, subst, ◌∙◌, arith}
use Rattle.std.specs.Prelude.{slice_get}
use Rattle.std.proofs.lemmas.List.{take_all}
use Rattle.c_plain_rules.proofs.Shown.{statics_count}
use Rattle.c_finish.specs.Tables.{LastFillings}
use Rattle.c_finish.proofs.Firsts.{filling_set, no_fillings, length-set}
use Rattle.c_finish.proofs.Globals.{taken}
use Rattle.c_finish.proofs.tables.last_fillings.Goals as goal

pub loop-i-init : goal.loop-i-init
loop-i-init c = record {
  are = no_fillings c.as_slice-fillings.result.now c.in_ok-table.table.items c.in_ok-table.ensures.blank;
  count = c.in_ok-table.ensures.count ∙ ap length c.as_slice.ensures;
}

pub set_number-requires : goal.set_number-requires
set_number-requires c =
    let w = c.args.work.now in
    let i = c.loop-i.i in
    let h = c.requires in
    let e : slice_get w.fillings.items i ≡ Some c.filling_at-f.result.now =
    ap (λ xs. slice_get xs i) (sym c.as_slice-fillings.ensures.value) ∙ c.filling_at-f.ensures in
    let a : c.filling_at-f.result.now.object < length h.state.statics =
    h.shows.closed.fillings i c.filling_at-f.result.now e in
    let b : length w.nodes.p.globals ≡ length h.state.statics = statics_count w h.state h.shows in
    let d : length c.loop-i.table.items ≡ length w.nodes.p.globals = c.loop-i.invariant.count in
    omega arith

pub loop-i-preserved : goal.loop-i-preserved
loop-i-preserved c =
    let xs = c.as_slice-fillings.result.now in
    let i = c.loop-i.i in
    let x = c.filling_at-f.result.now in
    record {
      are = rw (taken xs i x c.filling_at-f.ensures, c.set_number.ensures)
          (filling_set xs (take i xs) c.loop-i.table.items i x c.filling_at-f.ensures c.loop-i.invariant.are);
      count = ap length c.set_number.ensures ∙ length-set c.loop-i.table.items x.object _ ∙ c.loop-i.invariant.count;
    }

pub returns : goal.returns
returns c =
    let xs = c.as_slice-fillings.result.now in
    let t = c.loop-i.table.items in
    let past : length xs ≤ c.loop-i.i = omega (arith, c.in_ok-n.ensures) in
    record {
      are = subst (λ ys. LastFillings ys ys t) c.as_slice-fillings.ensures.value
          (rw (take_all c.loop-i.i xs past) at c.loop-i.invariant.are);
      count = c.loop-i.invariant.count;
    }
