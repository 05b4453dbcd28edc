use Rattle.std.proofs.Common.{sym, ap, ◌∙◌, subst}
use Rattle.std.specs.Prelude.{IsTrue}
use Rattle.tag_mem.specs.Areas.{Area, has, tag_in}
use Rattle.tag_mem.proofs.Kept.{tag_below}
use Rattle.tag_mem.proofs.area.Area.tag.Goals as goal

pub get-requires : goal.get-requires
get-requires c =
    let here = subst (λ (a : Area). IsTrue (has a c.args.at)) (sym c.self.view_is) c.requires in
    tag_below c.self.inside.base c.self.inside.granules.items c.self.inside.tags c.args.at c.self.invariant here

pub returns : goal.returns
returns c = c.get.ensures ∙ ap (λ (a : Area). tag_in a c.args.at) c.self.view_is
