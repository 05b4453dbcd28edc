use Rattle.std.proofs.Common.{◌≡◌, ◌<◌, length, sym, ap, ◌∙◌, arith}
use Rattle.c_tree.specs.Scopes.{RoutineState}
use Rattle.c_tree.specs.Programs.{numbers_of, is_there}
use Rattle.c_plain_rules.proofs.Backwards.{at_some}
use Rattle.c_plain_rules.proofs.Shown.{routines_count, body_there}
use Rattle.c_finish.proofs.Counting.{low_step, count_zero, count_step, count_behind, filled_push, filled_all}
use Rattle.c_finish.proofs.Counting.{pushed_count, nothing_filled}
use Rattle.c_finish.proofs.numbering.numbers_of_functions.Goals as goal

pub loop-k-init : goal.loop-k-init
loop-k-init c = record {
  filled = λ s h j v e. nothing_filled c.new-table.result.items j v (numbers_of s).1 c.new-table.ensures.items e;
  next = λ s h. count_zero (λ (f : RoutineState). is_there f.body) s.routines;
  count = ap length c.new-table.ensures.items;
  low = omega arith;
}

pub loop-k-preserved : goal.loop-k-preserved
loop-k-preserved c =
    let w = c.args.work.now in
    let k = c.loop-k.k in
    let inv = c.loop-k.invariant in
    record {
      filled = λ s h. filled_push (numbers_of s).1 c.loop-k.table.items c.push.new.self.items c.loop-k.next k
          c.in_ok-push.ensures.items inv.count (inv.filled s h) (inv.next s h);
      next = λ s h.
          let a : k < c.in_ok-n.n = c.loop-k-test.true in
          let b = c.in_ok-n.ensures ∙ ap length c.as_slice.ensures ∙ routines_count w s h in
          let x = at_some s.routines k (omega arith) in
          count_step (λ (f : RoutineState). is_there f.body) s.routines k x.0 c.is_defined-is_there.result c.loop-k.next
          c.one_more-next.result x.1 (sym c.is_defined-is_there.ensures ∙ sym (body_there w s k x.0 h x.1))
          (inv.next s h) c.one_more-next.ensures;
      count = pushed_count c.loop-k.table.items c.push.new.self.items c.loop-k.next k c.in_ok-push.ensures.items
          inv.count;
      low = low_step _ c.loop-k.next c.one_more-next.result k c.one_more-next.ensures inv.low;
    }

pub is_defined-is_there-requires-clause-there : goal.is_defined-is_there-requires-clause-there
is_defined-is_there-requires-clause-there c =
    let a : c.loop-k.k < c.in_ok-n.n = c.loop-k-test.true in
    let b : c.in_ok-n.n ≡ length c.args.work.now.nodes.p.funs = c.in_ok-n.ensures ∙ ap length c.as_slice.ensures in
    omega arith

pub returns : goal.returns
returns c = λ s h.
    let inv = c.loop-k.invariant in
    let n = c.in_ok-n.ensures ∙ ap length c.as_slice.ensures ∙ routines_count c.args.work.now s h in
    let all : c.loop-k.k ≡ length s.routines = omega arith in
    filled_all (numbers_of s).1 c.loop-k.table.items c.loop-k.next (inv.filled s h)
    (λ j le. count_behind (λ (f : RoutineState). is_there f.body) s.routines j (omega (arith, inv.count))
    ∙ ap (numbers_of s).1 (sym all) ∙ inv.next s h)
