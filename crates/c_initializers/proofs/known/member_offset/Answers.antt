use Rattle.std.proofs.Common.{sym, ap, ◌∙◌}
use Rattle.std.specs.Prelude.{option_map, slice_get}
use Rattle.c_plain_rules.specs.Place.{Place}
use Rattle.c_expressions.specs.Nodes.{type_in}
use Rattle.c_initializers.proofs.PlaceLaws.{member-offset, offset-known}
use Rattle.c_initializers.proofs.known.member_offset.Goals as goal

pub returns-in-Some-offset : goal.returns-in-Some-offset
returns-in-Some-offset c = λ s h.
    let w = c.args.work.now in
    let r = rw c.in-Some.is at c.record_of.ensures in
    offset-known w s (type_in w.nodes c.args.of) c.in-Tagged.tag c.args.k c.in-Some-offset.at c.in-Some.record
    c.in-Tagged.ensures.is (r s h) c.in-Struct.is (c.in-Some-offset.ensures w.nodes.p s h.stands)

pub returns-in_ok-places-in-None-offset : goal.returns-in_ok-places-in-None-offset
returns-in_ok-places-in-None-offset c = λ s h.
    let w = c.args.work.now in
    let r = rw c.in-Some.is at c.record_of.ensures in
    member-offset w s (type_in w.nodes c.args.of) c.in-Tagged.tag c.args.k c.in-Some.record
    c.in_ok-places-in-None-offset.places.items c.in-Tagged.ensures.is (r s h) c.in-Struct.is
    (c.in_ok-places-in-None-offset.ensures.are.are s h)
    ∙ ap (λ ps. option_map (λ (p : Place). p.at) (slice_get ps c.args.k)) (sym c.as_slice.ensures.value)
    ∙ sym c.offset_at.ensures
