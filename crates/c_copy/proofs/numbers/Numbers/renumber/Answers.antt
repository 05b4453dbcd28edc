use Rattle.std.proofs.Common.{◌≡◌, ◌<◌, ◌++◌, length, get_or, take, drop, map, set, sym, ap, ◌∙◌, arith, add-one}
use Rattle.std.proofs.lemmas.List.{length-set}
use Rattle.c_copy.specs.Copying.{expr_with}
use Rattle.c_copy.proofs.Renumbering.{turned}
use Rattle.c_copy.proofs.numbers.Numbers.renumber.Goals as goal

pub loop-k-preserved : goal.loop-k-preserved
loop-k-preserved c =
    let inv = c.loop-k.invariant in
    let old = c.args.exprs.now.items in
    let now = c.loop-k.exprs.items in
    let k = c.loop-k.k in
    let x = c.index_mut.result.now in
    let lt : k < length old = omega (arith, c.loop-k-test.true, inv.end) in
    record {
      count = length-set now k c.rename.new.e ∙ inv.count;
      end = inv.end;
      are = λ n h.
          let f = expr_with n in
          let was : now ≡ map f (take k old) ++ drop k old = inv.are n h in
          ap (set now k) (c.rename.ensures n h) ∙ ap (λ xs. set xs k (f x)) was
          ∙ turned f old k x lt (c.index_mut.ensures.value ∙ ap (λ xs. get_or xs k x) was)
          ∙ ap (λ m. map f (take m old) ++ drop m old) (sym (add-one k));
    }
