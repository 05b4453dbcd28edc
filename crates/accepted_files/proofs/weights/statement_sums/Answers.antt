use Rattle.std.proofs.Common.{◌≡◌, ℕ, ◌∷◌, [], List, length, Some, ap, ◌∙◌, sym, subst, arith, length-append}
use Rattle.std.specs.Prelude.{slice_get}
use Rattle.std.proofs.lemmas.Option.{slice_get-get_or}
use Rattle.c_tree.specs.TreeWeight.{statement_weight}
use Rattle.accepted_files.specs.Sums.{AreSums}
use Rattle.accepted_files.proofs.Summing.{statement_next}
use Rattle.accepted_files.proofs.weights.statement_sums.Goals as goal

pub loop-s-preserved : goal.loop-s-preserved
loop-s-preserved c =
    let p = c.args.p.now in
    let sums = c.loop-s.sums.items in
    let many = c.loop-s.invariant.many in
    let pushed = c.in_ok-push.ensures.items in
    let there = slice_get-get_or c.as_slice-all.result.now c.loop-s.s-index c.s-item.result c.loop-s-test.true
    ∙ ap Some (sym c.s-item.is) in
    let item : slice_get p.stmts (length sums) ≡ Some c.s-item.result =
    rw (many, ← c.as_slice-all.ensures) there in
    record {
      many = omega (arith, ap length pushed, length-append sums (c.of_statement-sum.result ∷ []), many);
      are = subst (λ (z : List ℕ). AreSums (statement_weight p) z) (sym pushed)
          (statement_next p c.requires.ordered c.args.exprs.now sums c.requires.are c.requires.len
          c.loop-s.invariant.are c.s-item.result item c.of_statement-sum.result
          (rw c.as_slice.ensures.value at c.of_statement-sum.ensures));
    }
