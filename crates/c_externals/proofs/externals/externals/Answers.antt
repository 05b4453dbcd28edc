use Rattle.std.proofs.Common.{arith}
use Rattle.std.proofs.lemmas.Result.{err_from_is_err_and}
use Rattle.c_externals.proofs.Outer.{gathers_begin, gathers_step, gathers_fail, gathers_end}
use Rattle.c_externals.proofs.externals.externals.Goals as goal

pub list-init : goal.list-init
list-init c = record {
  size = record { room = omega arith; shorter = omega arith; grows = omega arith };
  low = let a = c.no_parts-parts.ensures.size in omega arith;
  gathers = gathers_begin c.no_parts-parts.ensures.none;
}

pub returns-in_err-part-clause-tree : goal.returns-in_err-part-clause-tree
returns-in_err-part-clause-tree c =
    let p = err_from_is_err_and c.from_residual.result c.from_residual.ensures.1 in rw (p.1, p.2)
    (gathers_fail c.in-Some.item _ c.list.invariant.gathers c.in-Some.ensures c.in_err-part.ensures.tree)

pub list-preserved : goal.list-preserved
list-preserved c =
    let s = c.list.invariant.size in
    let room = s.room in let shorter = s.shorter in let grows = s.grows in
    let q = c.in_ok-part.ensures.size in
    let room' = q.room in let shorter' = q.shorter in let grows' = q.grows in
    record {
      size = record { room = omega arith; shorter = omega arith; grows = omega arith };
      low = let a = c.in_ok-part.ensures.low in let b = c.list.invariant.low in let tall = c.in_ok-push.ensures.size in
          omega arith;
      gathers = gathers_step c.in-Some.item c.list.invariant.gathers c.in-Some.ensures c.in_ok-part.ensures.tree
          shorter' c.in_ok-push.ensures.kids c.in_ok-push.ensures.size;
    }

pub returns-clause-tree : goal.returns-clause-tree
returns-clause-tree c = gathers_end c.list.invariant.gathers c.in_default.ensures
