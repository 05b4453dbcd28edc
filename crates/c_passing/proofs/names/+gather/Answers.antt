use Rattle.std.proofs.Common.{◌≡◌, ◌<◌, Some, get_or, sym, ap, subst, ◌∙◌, arith}
use Rattle.std.specs.Prelude.{slice_get}
use Rattle.std.proofs.lemmas.Option.{slice_get-get_or}
use Rattle.std.proofs.lemmas.List.{take_more, take_all}
use Rattle.c_passing.proofs.Naming.{GathersParts, no_parts_gathered, part_gathered, node_gathered}
use Rattle.c_passing.proofs.Levels.{some_levels, kid_within}
use Rattle.c_passing.proofs.names.+gather.Goals as goal

pub loop-kid-init : goal.loop-kid-init
loop-kid-init t c = no_parts_gathered c.args.tree.now c.add_call.new.names

pub loop-kid-preserved : goal.loop-kid-preserved
loop-kid-preserved t c =
    rw (take_more _ c.loop-kid.kid-index 0 c.loop-kid-test.true)
    (part_gathered c.args.tree.now _ c.loop-kid.names _ _ _ c.loop-kid.invariant c.in_ok-gather.ensures)

pub returns : goal.returns
returns t c =
    node_gathered c.args.tree.now c.args.names.now c.add_call.new.names c.loop-kid.names c.node_at-node.result.now
    c.args.k c.node_at-node.ensures c.in_ok-add_call.ensures
    (subst (GathersParts c.args.tree.now c.add_call.new.names c.loop-kid.names)
    (take_all c.loop-kid.kid-index _ c.loop-kid-test.false ∙ c.as_slice-kid-items.ensures) c.loop-kid.invariant)

pub gather-requires : goal.gather-requires
gather-requires t c =
    let n = c.node_at-node.result.now in
    let ks = c.as_slice-kid-items.result.now in
    let i = c.loop-kid.kid-index in
    let kid : slice_get n.kids i ≡ Some (get_or ks i 0) =
    ap (λ xs. slice_get xs i) (sym c.as_slice-kid-items.ensures)
    ∙ slice_get-get_or ks i 0 c.loop-kid-test.true in
    let some : 0 < c.args.levels = some_levels c.args.tree.now c.args.k c.args.levels c.requires in (
      omega arith,
      kid_within c.args.tree.now c.args.k n c.args.levels i
          (get_or ks i 0) c.requires c.node_at-node.ensures kid,
    )
