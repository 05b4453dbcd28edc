-- Exact bounds.
use Rattle.std.proofs.Common.{◌≡◌, ◌≤◌, ◌^◌, Bool, true, false, refl}
use Rattle.std.specs.Prelude.{◌&&◌}
use Rattle.std.proofs.lemmas.Bool.{eqb-true, leb-true}
use Rattle.cap_concentrate.specs.Rounding.{least_base, least_top}
use Rattle.image_load.specs.Extents.{Extent, end_of, is_encodable}

pub and_both : (a b : Bool) → (a && b) ≡ true → (a ≡ true) × (b ≡ true)
and_both true b h = (refl, h)
and_both false b h = absurd cc

pub exact_facts : (e : Extent) → is_encodable e ≡ true →
    (end_of e ≤ 2 ^ 64) × (least_base e.0 (end_of e) ≡ e.0) × (least_top e.0 (end_of e) ≡ end_of e)
unfolding is_encodable
exact_facts e h =
    let f = and_both _ _ h in
    let g = and_both _ _ f.0 in
    (leb-true _ _ g.0, eqb-true _ _ g.1, eqb-true _ _ f.1)
