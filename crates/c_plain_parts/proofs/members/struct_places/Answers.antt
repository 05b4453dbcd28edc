use Rattle.std.proofs.Common.{◌≡◌, ◌+◌, List, Some, sym, subst}
use Rattle.std.specs.List.{All}
use Rattle.std.proofs.lemmas.List.Elements.{All-push}
use Rattle.cap_layout.specs.Answers.{extent_is}
use Rattle.c_tree.specs.Layout.{Extent, member_offset, behind}
use Rattle.c_tree.specs.Initializers.{next_within}
use Rattle.c_tree.specs.Scopes.{type_extent}
use Rattle.c_tree.specs.Types.{Ty}
use Rattle.c_plain_parts.specs.declared.members.Place.{Place}
use Rattle.c_plain_parts.specs.Members.{IsPlaceThere, IsClose, place_in}
use Rattle.c_plain_parts.proofs.MemberLaws.{PlacedTo, placed-more}
use Rattle.c_plain_parts.proofs.members.struct_places.Goals as goal

pub loop-m-preserved : goal.loop-m-preserved
loop-m-preserved c =
    let n = rw c.in-Some.is at c.next_of.ensures.is in
    let b = rw c.in-Some.is at c.next_of.ensures.close in
    let p = c.in_ok-push-in-Some.ensures.items in
    let w = c.args.work.now in
    record {
      there = subst (λ (xs : List Place). All (IsPlaceThere w) xs) (sym p)
          (All-push (IsPlaceThere w) c.loop-m.places.items c.in-Some.next.place c.loop-m.invariant.there n.0);
      close = subst (λ (xs : List Place). All IsClose xs) (sym p)
          (All-push IsClose c.loop-m.places.items c.in-Some.next.place c.loop-m.invariant.close b);
      are = λ s h.
          let f = subst (λ (u : Ty). (y : Extent)
          × (next_within (extent_is c.loop-m.end) (type_extent s.tags u) ≡ Some y)
          × (place_in w c.in-Some.next.place ≡ (member_offset y (extent_is c.loop-m.end), u))
          × (extent_is c.in-Some.next.end ≡ behind y (extent_is c.loop-m.end))) c.there.ensures.is (n.1 s h) in
          subst (λ (xs : List Place). PlacedTo w s c.args.members.now (c.loop-m.m-index + 1) c.in-Some.next.end xs)
          (sym p)
          (placed-more w s c.args.members.now c.loop-m.m-index _ c.loop-m.end c.in-Some.next c.loop-m.places.items f.0
          c.loop-m-test.true f.1 f.2 f.3 (c.loop-m.invariant.are s h));
    }
