use Rattle.std.proofs.Common.{arith}
use Rattle.std.proofs.lemmas.Result.{on_ok_weaker}
use Rattle.c_tree.specs.Initializers.{scalars_of, tag_scalars}
use Rattle.c_expressions.specs.Nodes.{type_in}
use Rattle.c_initializers.specs.Rows.{row_steps}
use Rattle.c_initializers.proofs.FitLaws.{first-fits}
use Rattle.c_initializers.proofs.StepLaws.{some-steps}
use Rattle.c_initializers.proofs.RowLaws.{walks-both, walks-none, first-part, no-parts}
use Rattle.c_initializers.proofs.scalars.walk.Goals as goal

pub returns-then-row-eq0-clause-walks : goal.returns-then-row-eq0-clause-walks
returns-then-row-eq0-clause-walks c =
    let w = c.args.work.now in
    let r = c.args.row in
    let p = some-steps w r.tags (type_in w.nodes r.of) in
    walks-none w c.args.cursor.now.extents.now c.args.rows.now.items c.args.places.now.items (row_steps w r) _
    (λ s. no-parts r.count r.step r.at (scalars_of s (tag_scalars r.tags s) (type_in w.nodes r.of))
    (omega (arith, c.if-row-eq0.true))) (omega arith)

pub push_parts-requires-clause-fits : goal.push_parts-requires-clause-fits
push_parts-requires-clause-fits c =
    first-fits c.args.work.now c.args.row c.requires.there (omega (arith, c.if-row-eq0.false))

pub returns-clause-walks : goal.returns-clause-walks
returns-clause-walks c =
    let w = c.args.work.now in
    let r = c.args.row in
    on_ok_weaker c.push_parts.result (λ b. walks-both w c.args.cursor.now.extents.now c.args.rows.now.items
    c.push_rest.new.rows.items
    c.push_parts.new.rows.items c.args.places.now.items c.push_parts.new.places.items _ _ _ _ _
    c.in_ok-push_rest.ensures b (λ s. first-part r.count r.step r.at
    (scalars_of s (tag_scalars r.tags s) (type_in w.nodes r.of)) (omega (arith, c.if-row-eq0.false))))
    c.push_parts.ensures.walks
