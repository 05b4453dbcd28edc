use Rattle.std.proofs.Common.{◌≡◌, ◌∷◌, [], length, Some, ap, ◌∙◌, sym, subst, arith, length-append}
use Rattle.std.specs.Prelude.{slice_get}
use Rattle.std.proofs.lemmas.Option.{slice_get-get_or}
use Rattle.cheri_c_sem.specs.Expressions.{expr_tree}
use Rattle.tac_lower.specs.Trees.{AreCovered, written_in}
use Rattle.tac_lower.specs.Writing.{target_in, writes_by}
use Rattle.tac_lower.proofs.Writing.{covers_more, covers_none}
use Rattle.tac_lower.proofs.writes.writes_table.Goals as goal

pub loop-e-init : goal.loop-e-init
loop-e-init c = record {
  many = ap length c.new-table.ensures.items;
  covers = λ o vars. subst (λ z. AreCovered z (expr_tree c.args.p.now vars)) (sym c.new-table.ensures.items)
      (covers_none c.args.p.now o vars);
}

pub loop-e-preserved : goal.loop-e-preserved
loop-e-preserved c =
    let pushed = c.in_ok-push.ensures.items in
    let es = c.as_slice-exprs.result.now in
    let i = c.loop-e.e-index in
    let there = slice_get-get_or es i c.e-item.result c.loop-e-test.true ∙ ap Some (sym c.e-item.is) in
    record {
      many = omega (
        arith,
        ap length pushed,
        length-append c.loop-e.table.items (c.written_of-w.result ∷ []),
        c.loop-e.invariant.many,
      );
      covers = λ o vars. subst (λ z. AreCovered z (expr_tree c.args.p.now vars)) (sym pushed)
          (covers_more c.args.p.now o vars c.loop-e.table.items i c.e-item.result c.written_of-w.result
          (c.loop-e.invariant.covers o vars) (ap (λ z. slice_get z i) (sym c.as_slice-exprs.ensures) ∙ there)
          c.loop-e.invariant.many
          (subst (λ z. c.written_of-w.result ≡ writes_by (written_in z) (target_in c.args.p.now) c.e-item.result.kind)
          c.as_slice.ensures.value (c.written_of-w.ensures c.args.p.now (sym c.as_slice-exprs.ensures))));
    }
