-- One relocation after the other.
use Rattle.std.proofs.Common.{◌≡◌, ℕ, zero, suc, ◌+◌, ◌<◌, ◌≤◌, ◌^◌, Bool, true, false, cond, List, [], ◌∷◌, length}
use Rattle.std.proofs.Common.{drop, Some, None, Ok, Err, refl, arith, add-one}
use Rattle.std.specs.Prelude.{slice_get, ◌&&◌, ◌%◌}
use Rattle.std.proofs.lemmas.Bool.{eqb-true, leb-true}
use Rattle.std.proofs.lemmas.List.{drop_all}
use Rattle.tag_mem.specs.Areas.{Area}
use Rattle.tag_mem.specs.Memory.{written}
use Rattle.tag_mem.specs.Numbers.{little_bytes}
use Rattle.cap_machine.specs.Rows.{memory_bits}
use Rattle.elf_file.specs.declared.image.Reloc.{Reloc}
use Rattle.image_load.specs.declared.refusal.LoadRefusal.{LoadRefusal}
use Rattle.image_load.specs.declared.refusal.LoadRefusal.TheVariants as refusal
use Rattle.image_load.specs.Judging.{Extent, Judged, end_of, is_encodable, is_place, is_capability, capability_of}
use Rattle.image_load.specs.Judging.{judged_relocs}
use Rattle.image_load.specs.State.{relocated}
use Rattle.image_load.proofs.Exact.{and_both}

-- ---- the list from a place on

pub at_some : {A : Type 0} (xs : List A) (k : ℕ) (x : A) → slice_get xs k ≡ Some x →
    (drop k xs ≡ x ∷ drop (k + 1) xs) × (k < length xs)
at_some [] k x e = absurd cc
at_some (y ∷ ys) zero x e = let h : y ≡ x = cc in (rw h refl, omega arith)
at_some (y ∷ ys) (suc k) x e = let h = at_some ys k x e in (rw add-one (rw add-one at h.0), omega arith)

pub at_none : {A : Type 0} (xs : List A) (k : ℕ) → slice_get xs k ≡ None → drop k xs ≡ []
at_none [] k e = drop_all k [] (omega arith)
at_none (y ∷ ys) zero e = absurd cc
at_none (y ∷ ys) (suc k) e = at_none ys k e

-- ---- judging

pub bad_place : (rs : List Reloc) (k : ℕ) (r : Reloc) (i : Extent) → slice_get rs k ≡ Some r →
    is_place r.place i ≡ false → judged_relocs i (drop k rs) (Ok tt) ≡ Err refusal.Place
unfolding judged_relocs
bad_place rs k r i e h = rw ((at_some rs k r e).0, h) refl

pub bad_bounds : (rs : List Reloc) (k : ℕ) (r : Reloc) (i : Extent) → slice_get rs k ≡ Some r →
    is_place r.place i ≡ true → is_capability r ≡ false → judged_relocs i (drop k rs) (Ok tt) ≡ Err refusal.Bounds
unfolding judged_relocs
bad_bounds rs k r i e h g = rw ((at_some rs k r e).0, h, g) refl

pub good : (rs : List Reloc) (k : ℕ) (r : Reloc) (i : Extent) → slice_get rs k ≡ Some r → is_place r.place i ≡ true →
    is_capability r ≡ true → judged_relocs i (drop k rs) (Ok tt) ≡ judged_relocs i (drop (k + 1) rs) (Ok tt)
unfolding judged_relocs
good rs k r i e h g = rw ((at_some rs k r e).0, h, g) refl

pub done : (rs : List Reloc) (k : ℕ) (i : Extent) → slice_get rs k ≡ None → judged_relocs i (drop k rs) (Ok tt) ≡ Ok tt
unfolding judged_relocs
done rs k i e = rw (at_none rs k e) refl

-- ---- a relocation that is not refused

pub passed : (b : Bool) (x : Judged) (e : LoadRefusal) → cond b x (Err e) ≡ Ok tt → (b ≡ true) × (x ≡ Ok tt)
passed true x e h = (refl, h)
passed false x e h = absurd cc

pub record IsLoadable (r : Reloc) : Type 0 where
  pub even : r.place % 16 ≡ 0
  pub exact : is_encodable (r.base, r.length) ≡ true

loadable_by : (r : Reloc) (i : Extent) → is_place r.place i ≡ true → is_capability r ≡ true → IsLoadable r
unfolding is_place is_capability
loadable_by r i p c = record {
  even = eqb-true _ _ (and_both _ _ (and_both _ _ p).0).0;
  exact = (and_both _ _ (and_both _ _ c).0).1;
}

split_first : (r : Reloc) (rs : List Reloc) (i : Extent) → judged_relocs i (r ∷ rs) (Ok tt) ≡ Ok tt →
    IsLoadable r × (judged_relocs i rs (Ok tt) ≡ Ok tt)
unfolding judged_relocs
split_first r rs i h =
    let a = passed (is_place r.place i) (cond (is_capability r) (judged_relocs i rs (Ok tt)) (Err refusal.Bounds))
    refusal.Place h in
    let b = passed (is_capability r) (judged_relocs i rs (Ok tt)) refusal.Bounds a.1 in
    (loadable_by r i a.0 b.0, b.1)

pub loadable : (rs : List Reloc) (k : ℕ) (r : Reloc) (i : Extent) → slice_get rs k ≡ Some r →
    judged_relocs i (drop k rs) (Ok tt) ≡ Ok tt → IsLoadable r × (judged_relocs i (drop (k + 1) rs) (Ok tt) ≡ Ok tt)
loadable rs k r i e h =
    let one : judged_relocs i (r ∷ drop (k + 1) rs) (Ok tt) ≡ Ok tt = rw (at_some rs k r e).0 at h in
    split_first r (drop (k + 1) rs) i one

-- ---- storing

pub next_stored : (m all : List Area) (rs : List Reloc) (k : ℕ) (r : Reloc) → slice_get rs k ≡ Some r →
    relocated m (drop k rs) ≡ all →
    relocated (written m r.place (little_bytes 16 (memory_bits (capability_of r).fields)) true) (drop (k + 1) rs) ≡ all
unfolding relocated
next_stored m all rs k r e h =
    let one : relocated m (r ∷ drop (k + 1) rs) ≡ all = rw (at_some rs k r e).0 at h in one

pub last_stored : (m : List Area) (rs : List Reloc) (k : ℕ) → slice_get rs k ≡ None → relocated m (drop k rs) ≡ m
unfolding relocated
last_stored m rs k e = rw (at_none rs k e) refl
