-- The slots of a frame's locals, as selection and the machine's frames ask for them.
use Rattle.std.proofs.Common.{◌≡◌, ℕ, zero, suc, ◌+◌, ◌-◌, ◌*◌, ◌/◌, ◌%◌, ◌^◌, ◌<◌, ◌≤◌, List, [], ◌∷◌, map}
use Rattle.std.proofs.Common.{Some, refl, sym, ap, ◌∙◌, arith, inl, inr}
use Rattle.std.specs.Prelude.{slice_get, ◌==◌, if◌then◌else◌}
use Rattle.std.specs.List.{find}
use Rattle.std.proofs.lemmas.Bool.{cases_lt, eq-eqb, ne_eqb}
use Rattle.std.proofs.lemmas.Nat.{pow-add, div-add-mod'}
use Rattle.std.proofs.Math.Pow.{pow-lt}
use Rattle.c_tree.specs.declared.typed.FunDef.{FunDef}
use Rattle.c_tree.specs.declared.typed.Typed.{Typed}
use Rattle.obj_mem.specs.Legal.{ObjectNeed, IsSlot, alignment_of, slot_of}
use Rattle.obj_mem.specs.Needs.{is_object, local_needs}
use Rattle.obj_mem.specs.declared.map.Frame.{Frame}
use Rattle.obj_mem.specs.declared.map.Slot.{Slot}
use Rattle.cheri_c_sem.specs.Modes.{slot_offset}
use Rattle.reg_alloc.specs.declared.places.Places.{Places}
use Rattle.rv_select.specs.Objects.{HasObject}
use Rattle.tac_ir.specs.declared.code.TacFun.{TacFun}
use Rattle.placement.specs.Memories.{local_at}
use Rattle.purecap_abi.specs.Frames.{IsLocal}
use Rattle.bounds_place.specs.Rows.{owned_need}
use Rattle.typed_build.specs.Frames.{FrameFits}
use Rattle.typed_build.proofs.Locals.{each_local}
use Rattle.typed_build.proofs.Coding.{all_get}

-- ---- slots in order

find_in_order : (slots : List Slot) (j : ℕ)
    → ((k : ℕ) (s : Slot) → slice_get slots k ≡ Some s → s.var ≡ j + k) → (var : ℕ)
    → find (λ (s : Slot). s.var == j + var) slots ≡ slice_get slots var
find_in_order [] j h zero = refl
find_in_order [] j h (suc var) = refl
find_in_order (s ∷ ss) j h zero =
    ap (λ b. if b then Some s else find (λ (x : Slot). x.var == j + 0) ss) (eq-eqb s.var (j + 0) (h 0 s refl))
find_in_order (s ∷ ss) j h (suc var) =
    let z : j + suc var ≡ suc j + var = omega arith in
    ap (λ b. if b then Some s else find (λ (x : Slot). x.var == j + suc var) ss)
    (ne_eqb s.var (j + suc var) (λ e. omega (arith, h 0 s refl)))
    ∙ ap (λ n. find (λ (x : Slot). x.var == n) ss) z
    ∙ find_in_order ss (suc j) (λ k x e. omega (arith, h (suc k) x e)) var

-- ---- multiples of 16

granular : (n base : ℕ) → ((k : ℕ) × (n ≡ 2 ^ k)) → 16 ≤ n → base % n ≡ 0 → base % 16 ≡ 0
granular n base p h e =
    let k = p.0 in
    let le : 4 ≤ k = elim (cases_lt k 4) as (λ _. 4 ≤ k)
    [ inl below ↦ absurd (omega (arith, pow-lt below, p.1)) | inr fine ↦ fine ] in
    let s : k ≡ k - 4 + 4 = omega arith in
    let r : n ≡ 2 ^ (k - 4) * 2 ^ 4 = p.1 ∙ ap (λ v. 2 ^ v) s ∙ pow-add 2 (k - 4) 4 in
    let d = div-add-mod' base n in
    let u : base / n * n ≡ base / n * (2 ^ (k - 4) * 2 ^ 4) = ap (λ v. base / n * v) r in
    omega arith

mapped : {A B : Type 0} (f : A → B) (xs : List A) (k : ℕ) (x : A) → slice_get xs k ≡ Some x
    → slice_get (map f xs) k ≡ Some (f x)
mapped f [] k x e = absurd cc
mapped f (y ∷ xs) zero x e = let same : y ≡ x = cc in ap (λ z. Some (f z)) same
mapped f (y ∷ xs) (suc k) x e = mapped f xs k x e

-- ---- of a function's frame

-- where a local is
pub record Lies (o : ObjectNeed) (g : Frame) (var : ℕ) : Type 0 where
  pub slot : Slot
  pub has : slot_of g var ≡ Some slot
  pub is : slice_get g.slots var ≡ Some slot
  pub fits : IsSlot o g slot

module _ (p : Typed) (d : FunDef) (f : TacFun) (l : Places) (g : Frame) (fits : FrameFits p d f l g) (var : ℕ)
    (o : ObjectNeed) (e : slice_get (local_needs p.types d) var ≡ Some o) where
  lies : Lies o g var
  lies =
      let s = fits.legal.has_slot var o e in
      let z : 0 + var ≡ var = omega arith in
      record {
        slot = s.0;
        has = s.1;
        is = sym (find_in_order g.slots 0 (λ k x h. omega (arith, fits.in_order k x h)) var)
            ∙ ap (λ n. find (λ (x : Slot). x.var == n) g.slots) z ∙ s.1;
        fits = s.2;
      }

  pub has_object : HasObject g var
  has_object =
      let x = lies in
      let within = x.fits.within in
      let small = fits.framed.small in
      record { slot = x.slot; is = x.is; named = x.has; near = omega arith; short = omega arith }

  at_is : local_at g var ≡ lies.slot.at
  at_is = ap slot_offset lies.has

  pub local_aligned : local_at g var % 16 ≡ 0
  local_aligned =
      let x = lies in
      let one = all_get IsLocal (map owned_need (local_needs p.types d))
      (each_local p.types (Rattle.std.specs.List.filter is_object d.vars)) var (owned_need o)
      (mapped owned_need (local_needs p.types d) var o e) in
      ap (λ n. n % 16) at_is ∙ granular (alignment_of o) x.slot.at one.power one.least x.fits.aligned

  pub local_past : g.saved ≤ local_at g var
  local_past = let x = lies in let past = x.fits.past_saved in omega (arith, at_is)

  pub local_inside : local_at g var < g.size
  local_inside = let x = lies in omega (arith, at_is, fits.inside var x.slot x.is)
