use Rattle.std.proofs.lemmas.Result.{err_from_is_err_and}
use Rattle.c_elaborator.specs.declared.work.Work.{Work}
use Rattle.c_elaborator.specs.Items.{context_in}
use Rattle.c_elab.proofs.Ending.{body_typed, body_untyped}
use Rattle.c_readings.proofs.Within.{kids_low, part_there}
use Rattle.c_elab.proofs.bodies.type_body.Goals as goal

pub node_at-node-requires : goal.node_at-node-requires
node_at-node-requires c = part_there c.args.work.now c.args.block c.requires.part

pub all_items-requires : goal.all_items-requires
all_items-requires c = record {
  whole = c.requires.whole;
  context = c.requires.context;
  parts = rw c.as_slice.ensures (kids_low c.args.work.now c.args.block c.node_at-node.result.now c.requires.part
      c.node_at-node.ensures);
}

pub finish_body-requires : goal.finish_body-requires
finish_body-requires c =
    let h = kids_low c.args.work.now c.args.block c.node_at-node.result.now c.requires.part c.node_at-node.ensures in
    let a = c.in_ok-items.ensures h.syntax (rw c.as_slice.ensures h.are) in
    record { whole = a.whole; items = a.there }

pub returns-in_err-items : goal.returns-in_err-items
returns-in_err-items c =
    let q = err_from_is_err_and c.from_residual.result c.from_residual.ensures.1 in λ z p.
    let u : Work = c.args.work.now in
    rw (q.1, q.2) (body_untyped u c.all_items.new.work c.all_items.new.work c.args.k c.args.count
    (context_in u c.args.context) c.args.block z c.node_at-node.result.now _ p c.node_at-node.ensures
    (λ xs a. c.in_err-items.ensures xs (rw c.as_slice.ensures a)))

pub returns : goal.returns
returns c = λ z p.
    let u : Work = c.args.work.now in
    body_typed u c.all_items.new.work c.finish_body.new.work c.args.k c.args.count
    (context_in u c.args.context) c.args.block z c.node_at-node.result.now c.in_ok-items.items c.finish_body.result p
    c.node_at-node.ensures
    (λ xs a. c.in_ok-items.ensures xs (rw c.as_slice.ensures a)) c.finish_body.ensures
