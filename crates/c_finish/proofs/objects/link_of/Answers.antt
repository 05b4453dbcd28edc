use Rattle.std.proofs.Common.{rules, arith, ◌≤◌, ◌^◌, sym, subst, ◌∙◌}
use Rattle.std.proofs.lemmas.Int.{to_z-of_z}
use mir.Syntax.{w64, w128}
use mir.Val.{SFits, of_z, to_z}
use Rattle.c_tree.specs.Programs.{numbers_of}
use Rattle.c_elaborator.specs.Work.{reach_of}
use Rattle.c_finish.proofs.Globals.{link_is, low_near}
use Rattle.c_finish.proofs.objects.link_of.Goals as goal

pub returns : goal.returns
returns c = λ s h.
    let fits : SFits w128 c.args.start.offset = first_of (search rules, grind arith) in
    let r = c.offset_of-offset.result in
    let kept : SFits w64 r = first_of (search rules, grind arith) in
    link_is s c.args.start c.aim_length-known.result c.reach-from.result c.target-target.result
    c.low_of-low.result (to_z w64 (of_z w64 r)) (c.aim_length-known.ensures s h) c.reach-from.ensures
    (c.target-target.ensures (numbers_of s) (c.requires.numbers s h)) c.low_of-low.ensures
    (to_z-of_z w64 r kept ∙ c.offset_of-offset.ensures ∙ to_z-of_z w128 c.args.start.offset fits)

pub low_of-low-requires : goal.low_of-low-requires
low_of-low-requires c = subst (λ r. r.0 ≤ 2 ^ 32) (sym c.reach-from.ensures)
    (low_near c.aim_length-known.result (reach_of c.args.start.bounds) c.args.start.offset c.requires.near)
