use Rattle.std.proofs.Common.{◌≡◌, ℕ, ◌∷◌, [], List, length, Some, ap, ◌∙◌, sym, subst, arith, length-append}
use Rattle.std.specs.Prelude.{slice_get}
use Rattle.std.proofs.lemmas.Option.{slice_get-get_or}
use Rattle.c_tree.specs.TreeWeight.{expression_weight}
use Rattle.accepted_files.specs.Sums.{AreSums}
use Rattle.accepted_files.proofs.Summing.{expression_next}
use Rattle.accepted_files.proofs.weights.expression_sums.Goals as goal

pub loop-e-preserved : goal.loop-e-preserved
loop-e-preserved c =
    let p = c.args.p.now in
    let sums = c.loop-e.sums.items in
    let many = c.loop-e.invariant.many in
    let pushed = c.in_ok-push.ensures.items in
    let there = slice_get-get_or c.as_slice-all.result.now c.loop-e.e-index c.e-item.result c.loop-e-test.true
    ∙ ap Some (sym c.e-item.is) in
    let item : slice_get p.exprs (length sums) ≡ Some c.e-item.result =
    rw (many, ← c.as_slice-all.ensures) there in
    record {
      many = omega (arith, ap length pushed, length-append sums (c.of_expression-sum.result ∷ []), many);
      are = subst (λ (z : List ℕ). AreSums (expression_weight p) z) (sym pushed)
          (expression_next p c.requires sums c.loop-e.invariant.are c.e-item.result item c.of_expression-sum.result
          (rw c.as_slice.ensures.value at c.of_expression-sum.ensures));
    }
