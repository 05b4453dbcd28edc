use Rattle.std.proofs.Common.{◌∷◌, [], ◌++◌, List, ap, subst, ◌∙◌}
use Rattle.c_initializers.specs.declared.covering.Extent.{Extent}
use Rattle.c_initializers.specs.declared.scalars.Row.{Row}
use Rattle.c_initializers.specs.Rows.{Walks, row_scalars, row_steps}
use Rattle.c_initializers.proofs.FitLaws.{single-there, whole-fits}
use Rattle.c_initializers.proofs.RowLaws.{walked-first, walked-on, last-there, fewer-steps}
use Rattle.c_initializers.proofs.scalars.scalars.Goals as goal

pub steps-init : goal.steps-init
steps-init c = record {
  cursor = c.new-cursor.ensures.is;
  of = c.new-cursor.ensures.of;
  walked = walked-first c.args.work.now c.args.extents.now c.push.new.self.items c.single.result
      c.new-places.result.items c.args.of c.tag_count.result
      (c.in_ok-push.ensures.items ∙ ap (λ (x : List Row). x ++ c.single.result ∷ []) c.new-rows.ensures.items)
      (single-there c.args.work.now c.single.result c.args.of 0 c.tag_count.result c.single.ensures c.requires.there
      (whole-fits c.args.work.now c.args.of c.tag_count.result c.requires.sized c.tag_count.ensures))
      c.new-places.ensures.items c.single.ensures c.tag_count.ensures;
}

pub walk-requires-clause-there : goal.walk-requires-clause-there
walk-requires-clause-there c =
    last-there c.args.work.now c.steps.rows.items c.pop.new.self.items c.in-Some.row c.in-Some.ensures.items
    c.steps.invariant.walked.rows_there

pub steps-preserved : goal.steps-preserved
steps-preserved c =
    let w = c.args.work.now in
    let r = c.in-Some.row in
    let i = c.steps.invariant in
    let h = c.in_ok-walk.ensures in
    record {
      cursor = h.cursor.is;
      of = h.cursor.of ∙ i.of;
      walked = walked-on w c.args.extents.now c.steps.rows.items c.pop.new.self.items c.walk.new.rows.items
          c.steps.places.items c.walk.new.places.items r _ _ c.in-Some.ensures.items i.walked
          (subst (λ (es : List Extent). Walks w es c.pop.new.self.items c.steps.places.items c.walk.new.rows.items
          c.walk.new.places.items (row_steps w r) (λ s. row_scalars w s r)) i.of h.walks);
    }

pub steps-smaller : goal.steps-smaller
steps-smaller c =
    fewer-steps c.args.work.now _ c.steps.rows.items c.pop.new.self.items c.walk.new.rows.items c.steps.places.items
    c.walk.new.places.items c.in-Some.row _ c.in-Some.ensures.items c.in_ok-walk.ensures.walks
