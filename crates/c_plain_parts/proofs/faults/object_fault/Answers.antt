use Rattle.std.proofs.Common.{◌≡◌, ◌<◌, length, sym, ap, ◌∙◌, arith}
use Rattle.c_plain_parts.proofs.Faulting.{fault_then, fault_else}
use Rattle.c_plain_parts.proofs.Shown.{static_is}
use Rattle.c_types.specs.Members.{is_defined}
use Rattle.c_tree.specs.Scopes.{is_complete}
use Rattle.c_plain_parts.proofs.faults.object_fault.Goals as goal

pub returns-then-is_complete : goal.returns-then-is_complete
returns-then-is_complete c = λ s g h e.
    let w = c.args.work.now in
    let d = static_is w s c.args.k c.global_at-g.result.now g h c.global_at-g.ensures e in
    fault_then s g c.is_defined.result c.object-used.result _ _
    (c.is_defined.ensures w.nodes.p s h.stands ∙ ap is_defined e)
    (c.requires.uses.uses.objects c.args.k c.object-used.result c.object-used.ensures
    ∙ sym (h.used_objects c.args.k g e))
    (ap (is_complete s) (sym d.of) ∙ sym (c.is_complete.ensures s h.stands) ∙ c.if-is_complete.true)
    c.undefined-best.ensures

pub returns-else-is_complete : goal.returns-else-is_complete
returns-else-is_complete c = λ s g h e.
    let w = c.args.work.now in
    let d = static_is w s c.args.k c.global_at-g.result.now g h c.global_at-g.ensures e in
    fault_else s g c.is_defined.result c.object-used.result _ _ _ c.global_at-g.result.now.pos
    (c.is_defined.ensures w.nodes.p s h.stands ∙ ap is_defined e)
    (c.requires.uses.uses.objects c.args.k c.object-used.result c.object-used.ensures
    ∙ sym (h.used_objects c.args.k g e))
    (ap (is_complete s) (sym d.of) ∙ sym (c.is_complete.ensures s h.stands) ∙ c.if-is_complete.false)
    c.undefined-best.ensures c.earlier.ensures d.place

pub object-used-requires : goal.object-used-requires
object-used-requires c =
    let e : length c.args.uses.now.objects.items ≡ length c.args.work.now.nodes.p.globals = c.requires.uses.objects in
    let h : c.args.k < length c.args.work.now.nodes.p.globals = c.requires.there in
    omega arith
