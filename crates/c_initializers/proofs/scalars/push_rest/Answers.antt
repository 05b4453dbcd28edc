use Rattle.std.proofs.Common.{◌-◌, ◌<◌, ap, arith}
use Rattle.std.proofs.lemmas.Result.{on_ok_weaker}
use Rattle.c_tree.specs.Initializers.{scalars_of, tag_scalars, repeat}
use Rattle.c_expressions.specs.Nodes.{type_in}
use Rattle.c_initializers.specs.Rows.{type_steps}
use Rattle.c_initializers.proofs.FitLaws.{next-at, rest-there}
use Rattle.c_initializers.proofs.StepLaws.{one-less}
use Rattle.c_initializers.proofs.RowLaws.{adds-row}
use Rattle.c_initializers.proofs.scalars.push_rest.Goals as goal

pub returns : goal.returns
returns c =
    let w = c.args.work.now in
    let r = c.args.row in
    let l : 1 < r.count = omega (arith, c.requires.some, c.if-row-eq1.false) in
    on_ok_weaker c.push_row.result (λ e. adds-row w c.args.rows.now.items c.push_row.new.rows.items _ _ _ e
    (rest-there w r c.saturating_add-at.result c.requires.there l c.saturating_add-at.ensures)
    (λ s k. ap (repeat (r.count - 1) r.step (scalars_of s (tag_scalars r.tags s) (type_in w.nodes r.of)))
    (next-at w s r c.saturating_add-at.result c.requires.there k l c.saturating_add-at.ensures))
    (let l = one-less r.count (type_steps w r.tags (type_in w.nodes r.of)) c.requires.some in omega arith))
    c.push_row.ensures
