-- The pointer to a whole object.
use Rattle.std.proofs.Common.{◌≡◌, ℕ, true, ◌+◌, ◌%◌, ◌^◌, ◌<◌, ◌≤◌, List, sym, ap, ◌∙◌, subst, arith, Some}
use Rattle.std.specs.Prelude.{slice_get}
use Rattle.cap_concentrate.specs.Rounding.{Encodable}
use Rattle.cap_concentrate.proofs.Encoded.{encoded_decodes}
use Rattle.cap_concentrate.proofs.Owned.{owned_encodable}
use Rattle.cap_ops.specs.declared.capability.TheConstants.{UNSEALED, EXECUTE}
use Rattle.cap_ops.specs.Bounded.{bounded}
use Rattle.cap_ops.specs.Capability.{moved, narrowed_exactly, lacks}
use Rattle.cap_ops.proofs.Laws.{bounded_bounds, bounded_moved, bounded_narrowed_exactly}
use Rattle.obj_mem.specs.Values.{Live, Addresses, capability_of}
use Rattle.obj_mem.specs.Objects.{Shape, base_in, owned_of_shape, whole_pointer}
use Rattle.obj_mem.specs.Pointers.{keeps}
use Rattle.obj_mem.specs.Standing.{IsSpread}
use Rattle.place_inject.specs.Values.{IsHeld}
use Rattle.place_inject.specs.Whole.{WholeFits, WholePointersFit}
use Rattle.place_inject.proofs.Growing.{keeps_by}
use Rattle.place_inject.proofs.Known.{pointer_is}
use Rattle.place_inject.proofs.Reaching.{kept_bounds}

module _ (functions : ℕ) (a : Addresses) (shapes : List Shape) (spread : IsSpread shapes functions a) (o : ℕ)
    (s : Shape)
    (there : slice_get shapes o ≡ Some s) (perms : ℕ) (small : perms < 4096)
    (lack : lacks perms EXECUTE ≡ true) where
  below : s.base + s.owned ≤ 2 ^ 40
  below = (spread.placed o s there).to

  own : Encodable s.base (s.base + s.owned)
  own =
      let p = spread.placed o s there in
      let to = p.to in
      let is = p.owned_is in
      subst (λ n. Encodable s.base (s.base + n)) (sym is) (owned_encodable s.base s.length (omega arith) p.aligned)

  held : IsHeld shapes o 0 s.owned 0 perms
  held =
      let l = below in
      let d = encoded_decodes s.base (s.base + s.owned) s.base own (omega arith) (omega arith) (omega arith) in
      let here : s.base + 0 ≡ s.base = omega arith in
      let at : s.base % 2 ^ 64 ≡ s.base = omega arith in
      record {
        shape = s;
        there = there;
        ordered = omega arith;
        inside = omega arith;
        kept = rw (here, at) (keeps_by s.base (s.base + s.owned) s.base d);
        word = omega arith;
        twelve_bits = small;
        no_execute = lack;
      }

  made : (low high from : ℕ) → Encodable low high → low < 2 ^ 64 → keeps low high from ≡ true → low ≤ s.base
      → s.base + s.owned ≤ high
      → narrowed_exactly (moved (bounded low high perms UNSEALED from) s.base) s.owned ≡ capability_of a
      (base_in shapes) (whole_pointer shapes o perms)
  made low high from enc word kept under over =
      let m = below in
      let there_from = kept_bounds low high perms from kept in
      let there_base = bounded_bounds low high perms UNSEALED s.base enc word under (omega arith) in
      let move = bounded_moved low high perms from s.base there_from.0 there_from.1 there_base.0 there_base.1 in
      let narrow = bounded_narrowed_exactly low high perms s.base s.owned enc word under over own in
      let here : s.base + 0 ≡ s.base = omega arith in
      let at : s.base % 2 ^ 64 ≡ s.base = omega arith in
      let whole : whole_pointer shapes o perms ≡ Live o 0 s.owned 0 perms =
      ap (λ x. Live o 0 (owned_of_shape x) 0 perms) there in
      let is : capability_of a (base_in shapes) (whole_pointer shapes o perms) ≡ bounded s.base
      (s.base + s.owned) perms UNSEALED s.base =
      ap (capability_of a (base_in shapes)) whole ∙ pointer_is a shapes o 0 s.owned 0 perms s there
      ∙ ap (λ x. bounded x (s.base + s.owned) perms UNSEALED (x % 2 ^ 64)) here
      ∙ ap (λ x. bounded s.base (s.base + s.owned) perms UNSEALED x) at in
      ap (λ c. narrowed_exactly c s.owned) move ∙ narrow ∙ sym is

  whole_fits : WholeFits functions a shapes o s perms
  whole_fits = record { known = rw there held; made = made }

pub whole_pointers_fit_law : WholePointersFit
whole_pointers_fit_law functions a shapes spread o s there perms small lack =
    whole_fits functions a shapes spread o s there perms small lack
