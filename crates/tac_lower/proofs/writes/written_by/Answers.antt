use Rattle.std.proofs.Common.{get_or, ap, ◌∙◌, sym}
use Rattle.tac_lower.specs.Trees.{written_in}
use Rattle.tac_lower.specs.Writing.{both}
use Rattle.tac_lower.proofs.Writing.{item, written_past, written_next, written_spares}
use Rattle.tac_lower.proofs.writes.written_by.Goals as goal

pub loop-k-preserved : goal.loop-k-preserved
loop-k-preserved c =
    let ks = c.args.ks.now in
    let i = c.loop-k.k-index in
    c.loop-k.invariant ∙ written_next (written_in c.args.table.now) _ c.loop-k.w ks i (get_or ks i 0)
    c.loop-k-test.true (item ks i 0 c.loop-k-test.true) (c.and-w.ensures ∙ ap (both c.loop-k.w) c.written_at.ensures)

pub returns : goal.returns
returns c =
    record {
      is = sym (c.loop-k.invariant ∙ written_past (written_in c.args.table.now) c.loop-k.w c.args.ks.now
          c.loop-k.k-index c.loop-k-test.false);
      spares = written_spares c.args.table.now c.loop-k.w c.args.ks.now
          (sym (c.loop-k.invariant ∙ written_past (written_in c.args.table.now) c.loop-k.w c.args.ks.now
          c.loop-k.k-index c.loop-k-test.false));
    }
