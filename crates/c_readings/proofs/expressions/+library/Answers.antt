use Rattle.std.proofs.Common.{length, sym, ap, ◌∙◌, arith}
use Rattle.c_tree.specs.declared.syntax.NodeKind.{NodeKind}
use Rattle.c_tree.specs.Syntax.{Syn, node}
use Rattle.c_tree.specs.Expressions.{called_library, called_name}
use Rattle.c_readings.proofs.Kids.{opened}
use Rattle.c_readings.proofs.Within.{deep, kids_within, one_within, part_there}
use Rattle.c_readings.proofs.Calling.{enclosed, not_enclosed, no_name}
use Rattle.c_readings.proofs.expressions.+library.Goals as goal

pub node_at-node-requires : goal.node_at-node-requires
node_at-node-requires t c = part_there c.args.work.now c.args.k c.requires

pub library-requires : goal.library-requires
library-requires t c =
    let w = c.args.work.now in
    let n = c.node_at-node.result.now in
    let some = deep w c.args.k c.requires in (
      omega arith,
      one_within w n.kids c.in-Some.inner (sym c.as_slice.ensures ∙ c.in-Some.ensures)
          (kids_within w c.args.k n c.requires c.node_at-node.ensures),
    )

pub returns-in-Name : goal.returns-in-Name
returns-in-Name t c = λ x p s k.
    let o = opened c.args.work.now c.args.k x c.node_at-node.result.now p c.node_at-node.ensures in
    ap (λ (z : Syn). called_library s (called_name z))
    (o.is ∙ ap (λ (d : NodeKind). node d o.token o.parts) c.in-Name.is)
    ∙ c.named_library.ensures o.token o.parts o.node s k

pub returns-in-Some : goal.returns-in-Some
returns-in-Some t c = λ x p s k.
    let n = c.node_at-node.result.now in
    let w = c.args.work.now in
    let o = opened w c.args.k x n p c.node_at-node.ensures in
    let m = enclosed w o.token n.kids c.in-Some.inner
    (sym c.as_slice.ensures ∙ c.in-Some.ensures) o.parts o.node.parts in
    ap (λ (z : Syn). called_library s (called_name z))
    (o.is ∙ ap (λ (d : NodeKind). node d o.token o.parts) c.in-Parenthesized.is) ∙ ap (called_library s) m.1
    ∙ c.library.ensures m.0 m.2 s k

pub returns-in-None : goal.returns-in-None
returns-in-None t c = λ x p s k.
    let n = c.node_at-node.result.now in
    let w = c.args.work.now in
    let o = opened w c.args.k x n p c.node_at-node.ensures in
    ap (λ (z : Syn). called_library s (called_name z))
    (o.is ∙ ap (λ (d : NodeKind). node d o.token o.parts) c.in-Parenthesized.is)
    ∙ ap (called_library s) (not_enclosed w o.token n.kids
    (λ z. c.in-None.ensures (ap length c.as_slice.ensures ∙ z)) o.parts o.node.parts)

pub returns-in_default : goal.returns-in_default
returns-in_default t c = λ x p s k.
    let n = c.node_at-node.result.now in
    let o = opened c.args.work.now c.args.k x n p c.node_at-node.ensures in
    ap (λ (z : Syn). called_library s (called_name z)) o.is
    ∙ ap (called_library s) (no_name n.kind o.token o.parts c.in_default.not-Name c.in_default.not-Parenthesized)
