use Rattle.std.proofs.Common.{◌≡◌, ◌+◌, ◌-◌, ◌<◌, length, get_or, drop, ap, ◌∙◌, subst, arith}
use Rattle.tac_lower.specs.declared.writes.Written.TheVariants.{Nothing}
use Rattle.tac_lower.specs.Trees.{AreBehind, SparesAll}
use Rattle.tac_lower.specs.Writing.{both}
use Rattle.tac_lower.proofs.Writing.{behind_more, behind_none, item}
use Rattle.tac_lower.proofs.writes.written_behind.Goals as goal

pub loop-left-init : goal.loop-left-init
loop-left-init c =
    let n = behind_none c.args.table.now _ c.args.ks.now Nothing c.new-behind.ensures.items in
    record { least = omega arith; behind = n.0; spares = n.1 }

pub loop-left-preserved : goal.loop-left-preserved
loop-left-preserved c =
    let table = c.args.table.now in
    let ks = c.args.ks.now in
    let i = c.loop-left.left - 1 in
    let lt : i < length ks = omega (arith, c.loop-left.invariant.least, c.loop-left-test.true) in
    let next : c.loop-left.left ≡ i + 1 = omega (arith, c.loop-left-test.true) in
    let more = behind_more table c.loop-left.behind.items _ ks i (get_or ks i 0) _ c.loop-left.w lt (item ks i 0 lt)
    c.in_ok-push.ensures.items (c.and-w.ensures ∙ ap (both c.loop-left.w) c.written_at.ensures)
    (subst (λ n. SparesAll table c.loop-left.w (drop n ks)) next c.loop-left.invariant.spares)
    (subst (λ n. AreBehind table (drop n ks) c.loop-left.behind.items) next c.loop-left.invariant.behind) in
    record {
      least = omega (arith, c.loop-left.invariant.least, c.loop-left-test.true);
      behind = more.0;
      spares = more.1;
    }
