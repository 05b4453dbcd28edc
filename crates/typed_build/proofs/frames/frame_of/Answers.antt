use Rattle.std.proofs.Common.{map, sym, subst, ap, ◌∙◌}
use Rattle.obj_mem.specs.Needs.{local_needs}
use Rattle.bounds_place.specs.Rows.{owned_need}
use Rattle.purecap_abi.specs.Frames.{AreLocals, HasFrame}
use Rattle.tac_ir.specs.Costs.{outgoing}
use Rattle.typed_build.proofs.Framing.{frame_fits}
use Rattle.typed_build.proofs.Locals.{are_locals}
use Rattle.typed_build.proofs.frames.frame_of.Goals as goal

pub frame-requires-clause-locals : goal.frame-requires-clause-locals
frame-requires-clause-locals c =
    subst AreLocals (sym c.in_ok-locals.ensures) (are_locals c.args.p.now.types c.args.d.now c.requires.within)

pub returns : goal.returns
returns c =
    let types = c.args.p.now.types in
    let d = c.args.d.now in
    let homes = c.args.homes.now in
    let g = c.in_ok-made.made in
    let given = c.in_ok-made.ensures in
    let count = c.outgoing-outgoing in
    let placed = subst (λ ls. HasFrame ls homes.homes count.result g) c.in_ok-locals.ensures given.frame in
    let has =
    subst (λ n. HasFrame (map owned_need (local_needs types d)) homes.homes n g)
    (count.ensures ∙ ap outgoing c.as_slice.ensures)
    placed in
    frame_fits c.args.p.now d c.args.f.now homes g c.requires.homes c.requires.costs has given.saved
