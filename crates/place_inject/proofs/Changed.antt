-- The content of one object changes, and all else stays.
use Rattle.std.proofs.Common.{◌≡◌, ℕ, List, sym, ap, ◌∙◌, subst, Some, inl, inr}
use Rattle.std.specs.Prelude.{slice_get, slice_set}
use Rattle.std.proofs.lemmas.Bool.{cases_eq}
use Rattle.std.proofs.lemmas.Option.{slice_get_within, same_Some}
use Rattle.tag_mem.specs.Areas.{Area, IsMemory}
use Rattle.obj_mem.specs.Values.{Addresses}
use Rattle.obj_mem.specs.Objects.{Life, Active, Shape, Content, Memory}
use Rattle.obj_mem.specs.Agreement.{IsNotReturned}
use Rattle.place_inject.specs.Objects.{IsSound, Stands, SameOutside, ObjectsFit}
use Rattle.place_inject.proofs.Puts.{get_here, get_there, set_length}
use Rattle.place_inject.proofs.Kept.{kept_apart}

pub active_stays : (l : Life) → l ≡ Active → IsNotReturned l
active_stays l e = subst IsNotReturned (sym e) tt

module _ (functions : ℕ) (a : Addresses) (m : Memory) (old new : List Area) (f : ObjectsFit functions a m old) where
  pub changed : (k : ℕ) (s : Shape) (c c' : Content) → IsMemory new → slice_get m.shapes k ≡ Some s
      → slice_get m.contents k ≡ Some c → s.life ≡ Active
      → IsSound m.shapes functions s c' → Stands a m.shapes s c' new → SameOutside s.base s.owned old new
      → ObjectsFit functions a (record m { contents = slice_set m.contents k c' }) new
  changed k s c c' areas there has active sound stands same =
      let here : slice_get (slice_set m.contents k c') k ≡ Some c' =
      get_here m.contents k c' (slice_get_within m.contents k c has) in
      record {
        areas = areas;
        spread = f.spread;
        aligned = f.aligned;
        one_each = set_length m.contents k c' ∙ f.one_each;
        sound = λ j t x e g. elim (cases_eq j k) as (λ _. IsSound m.shapes functions t x) [
          | inl same ↦
              let q : c' ≡ x = same_Some c' x (sym here ∙ ap (slice_get (slice_set m.contents k c')) (sym same) ∙ g) in
              let r : s ≡ t = same_Some s t (sym there ∙ ap (slice_get m.shapes) (sym same) ∙ e) in
              rw (← q, ← r) sound
          | inr other ↦ f.sound j t x e (sym (get_there m.contents k j c' other) ∙ g)
        ];
        stands = λ j t x e g l. elim (cases_eq j k) as (λ _. Stands a m.shapes t x new) [
          | inl same ↦
              let q : c' ≡ x = same_Some c' x (sym here ∙ ap (slice_get (slice_set m.contents k c')) (sym same) ∙ g) in
              let r : s ≡ t = same_Some s t (sym there ∙ ap (slice_get m.shapes) (sym same) ∙ e) in
              rw (← q, ← r) stands
          | inr other ↦
              let was = f.stands j t x e (sym (get_there m.contents k j c' other) ∙ g) l in
              let apart = f.spread.apart j k t s e there other (active_stays t.life l) (active_stays s.life active) in
              kept_apart a m.shapes t x s.base s.owned old new (f.aligned j t e) (f.aligned k s there) apart same was
        ];
      }
