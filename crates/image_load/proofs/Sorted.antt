-- The regions of an image that is not refused ascend and do not meet.
use Rattle.std.proofs.Common.{◌≡◌, ◌≢◌, ℕ, zero, suc, ◌+◌, ◌%◌, ◌<◌, ◌≤◌, ◌^◌, ◌⊎◌, inl, inr, Bool, true, false, cond}
use Rattle.std.proofs.Common.{eqb, List, [], ◌∷◌, length, Ok, Err, refl, sym, ap, ◌∙◌, subst, arith}
use Rattle.std.specs.Prelude.{◌&&◌, not, nat_lt}
use Rattle.std.specs.List.{insert, prefix_len}
use Rattle.std.proofs.lemmas.Bool.{eqb-true, leb-true, lt-ltb, ltb-true, ltb-false, false≢true, or_parts}
use Rattle.tag_mem.specs.Regions.{IsRegion, LieFrom}
use Rattle.tag_mem.specs.declared.region.Region.{Region}
use Rattle.elf_file.specs.declared.image.Image.{Image}
use Rattle.elf_file.specs.declared.image.Reloc.{Reloc}
use Rattle.image_load.specs.declared.refusal.LoadRefusal.{LoadRefusal}
use Rattle.image_load.specs.declared.refusal.LoadRefusal.TheVariants as refusal
use Rattle.image_load.specs.Judging.{Extent, Judged, end_of, text_of, initial_of, segments_of, lies_well, segments_fit}
use Rattle.image_load.specs.Judging.{overlap, some_overlap, lies_inside, is_entry, is_encodable, is_place}
use Rattle.image_load.specs.Judging.{is_capability, guard, judged_relocs, then_judged, judged}
use Rattle.image_load.specs.Loading.{Loads}
use Rattle.image_load.specs.State.{region_of, with_region, regions_of}
use Rattle.image_load.proofs.Exact.{and_both}
use Rattle.image_load.proofs.Walk.{passed}

-- ---- extents that lie well and apart

pub record LiesWell (e : Extent) : Type 0 where
  pub base : e.0 % 16 ≡ 0
  pub length : e.1 % 16 ≡ 0
  pub end : end_of e ≤ 2 ^ 40

pub lies_well_is : (e : Extent) → lies_well e ≡ true → LiesWell e
unfolding lies_well
lies_well_is e h =
    let a = and_both _ _ h in
    let b = and_both _ _ a.0 in
    let c = and_both _ _ b.0 in
    record { base = eqb-true _ _ c.0; length = eqb-true _ _ c.1; end = leb-true _ _ a.1 }

-- of two extents that don't overlap, neither empty, one ends before the other
abbrev pub Apart : Extent → ℕ → ℕ → Type 0
Apart a base length = (end_of a ≤ base) ⊎ (base + length ≤ a.0)

overlap_by : (a b : Extent) → nat_lt 0 a.1 ≡ true → nat_lt 0 b.1 ≡ true → nat_lt a.0 (end_of b) ≡ true →
    nat_lt b.0 (end_of a) ≡ true → overlap a b ≡ true
unfolding overlap
overlap_by a b w x y z = rw (w, x, y, z) refl

apart : (a b : Extent) → overlap a b ≡ false → 0 < a.1 → 0 < b.1 → Apart a b.0 b.1
apart a b h one two = by_tests (nat_lt a.0 (end_of b)) (nat_lt b.0 (end_of a)) refl refl
  where
    by_tests : (x y : Bool) → nat_lt a.0 (end_of b) ≡ x → nat_lt b.0 (end_of a) ≡ y → Apart a b.0 b.1
    by_tests false y e f = inr (ltb-false a.0 (end_of b) e)
    by_tests true false e f = inl (ltb-false b.0 (end_of a) f)
    by_tests true true e f = absurd (false≢true (sym h ∙ overlap_by a b (lt-ltb 0 a.1 one) (lt-ltb 0 b.1 two) e f))

-- ---- regions

-- an extent lies apart from all regions, none of which is empty
abbrev pub AllApart : Extent → List Region → Type 0
AllApart e [] = Unit {0}
AllApart e (r ∷ rs) = Apart e r.base r.length × (0 < r.length) × AllApart e rs

apart_inserted : (t : Extent) (rs : List Region) (n : ℕ) (x : Region) → AllApart t rs → Apart t x.base x.length →
    0 < x.length → AllApart t (insert rs n x)
apart_inserted t rs zero x all one two = (one, two, all)
apart_inserted t [] (suc n) x all one two = (one, two, tt)
apart_inserted t (r ∷ rs) (suc n) x all one two = (all.0, all.1, apart_inserted t rs n x all.2 one two)

region_is : (e : Extent) → LiesWell e → IsRegion (region_of e)
region_is e w = record { base = w.base; length = w.length; end = w.end }

inserted : (low : ℕ) (e : Extent) (rs : List Region) → 0 < e.1 → LiesWell e → low ≤ e.0 → LieFrom low rs →
    AllApart e rs → LieFrom low (insert rs (prefix_len (λ r. nat_lt r.base e.0) rs) (region_of e))
inserted low e [] some well from lie all = (from, region_is e well, tt)
inserted low e (r ∷ rs) some well from lie all =
    by_test (nat_lt r.base e.0) refl (λ behind. inserted (r.base + r.length) e rs some well behind lie.2 all.2)
  where
    by_test : (b : Bool) → nat_lt r.base e.0 ≡ b →
        (r.base + r.length ≤ e.0 →
        LieFrom (r.base + r.length) (insert rs (prefix_len (λ r. nat_lt r.base e.0) rs) (region_of e))) →
        LieFrom low (insert (r ∷ rs) (cond (nat_lt r.base e.0) (1 + prefix_len (λ r. nat_lt r.base e.0) rs) 0)
        (region_of e))
    by_test true h again =
        let less = ltb-true r.base e.0 h in
        let place : cond (nat_lt r.base e.0) (1 + prefix_len (λ r. nat_lt r.base e.0) rs) 0
        ≡ suc (prefix_len (λ r. nat_lt r.base e.0) rs) =
        ap (λ b. cond b (1 + prefix_len (λ r. nat_lt r.base e.0) rs) 0) h ∙ omega arith in
        let behind : r.base + r.length ≤ e.0 = elim all.0 [ inl l ↦ omega (arith, l, less) | inr l ↦ l ] in
        subst (λ n. LieFrom low (insert (r ∷ rs) n (region_of e))) (sym place) (lie.0, lie.1, again behind)
    by_test false h again =
        let less = ltb-false r.base e.0 h in
        let place : cond (nat_lt r.base e.0) (1 + prefix_len (λ r. nat_lt r.base e.0) rs) 0 ≡ 0 =
        ap (λ b. cond b (1 + prefix_len (λ r. nat_lt r.base e.0) rs) 0) h in
        let ahead : end_of e ≤ r.base = elim all.0 [ inl l ↦ l | inr l ↦ let n = all.1 in omega (arith, l, n, less) ] in
        subst (λ n. LieFrom low (insert (r ∷ rs) n (region_of e))) (sym place)
        (from, region_is e well, (ahead, lie.1, lie.2))

-- ---- an extent is added, or it is empty

with_by : (e : Extent) (rs : List Region) (P : List Region → Type 0) → (e.1 ≡ 0 → P rs) →
    (0 < e.1 → P (insert rs (prefix_len (λ r. nat_lt r.base e.0) rs) (region_of e))) → P (with_region e rs)
unfolding with_region
with_by e rs P none some = by_test (eqb e.1 0) refl
  where
    by_test : (b : Bool) → eqb e.1 0 ≡ b →
        P (cond (eqb e.1 0) rs (insert rs (prefix_len (λ r. nat_lt r.base e.0) rs) (region_of e)))
    by_test true h = subst (λ b. P (cond b rs (insert rs (prefix_len (λ r. nat_lt r.base e.0) rs) (region_of e))))
        (sym h) (none (eqb-true e.1 0 h))
    by_test false h = subst (λ b. P (cond b rs (insert rs (prefix_len (λ r. nat_lt r.base e.0) rs) (region_of e))))
        (sym h) (some (not_zero e.1 h))
      where
        not_zero : (n : ℕ) → eqb n 0 ≡ false → 0 < n
        not_zero zero g = absurd (false≢true (sym g))
        not_zero (suc n) g = omega arith

lie_with : (e : Extent) (rs : List Region) → LiesWell e → LieFrom 0 rs → (0 < e.1 → AllApart e rs) →
    LieFrom 0 (with_region e rs)
lie_with e rs well lie all = with_by e rs (LieFrom 0) (λ h. lie) (λ h. inserted 0 e rs h well (omega arith) lie (all h))

apart_with : (t e : Extent) (rs : List Region) → 0 < t.1 → overlap t e ≡ false → AllApart t rs →
    AllApart t (with_region e rs)
apart_with t e rs some free all =
    with_by e rs (AllApart t) (λ h. all) (λ h. apart_inserted t rs _ (region_of e) all (apart t e free some h) h)

pub record IsSpread (t d h s : Extent) : Type 0 where
  pub text : LiesWell t
  pub initial : LiesWell d
  pub heap : LiesWell h
  pub stack : LiesWell s
  pub td : overlap t d ≡ false
  pub th : overlap t h ≡ false
  pub ts : overlap t s ≡ false
  pub dh : overlap d h ≡ false
  pub ds : overlap d s ≡ false
  pub hs : overlap h s ≡ false

lie_all : (t d h s : Extent) → IsSpread t d h s → LieFrom 0 (regions_of (t ∷ d ∷ h ∷ s ∷ []))
lie_all t d h s f =
    let r3 = with_region s [] in
    let r2 = with_region h r3 in
    let r1 = with_region d r2 in
    let l3 = lie_with s [] f.stack tt (λ n. tt) in
    let l2 = lie_with h r3 f.heap l3 (λ n. apart_with h s [] n f.hs tt) in
    let l1 = lie_with d r2 f.initial l2 (λ n. apart_with d h r3 n f.dh (apart_with d s [] n f.ds tt)) in
    lie_with t r1 f.text l1 (λ n. apart_with t d r2 n f.td (apart_with t h r3 n f.th (apart_with t s [] n f.ts tt)))

-- ---- what an image keeps that is not refused

not_true : (b : Bool) → not b ≡ true → b ≡ false
not_true false h = refl
not_true true h = absurd (false≢true h)

spread : (t d h s : Extent) → segments_fit t d h s ≡ true → some_overlap t d h s ≡ false → IsSpread t d h s
unfolding segments_fit some_overlap
spread t d h s fit free =
    let a = and_both _ _ fit in
    let b = and_both _ _ a.0 in
    let c = and_both _ _ b.0 in
    let e = and_both _ _ c.0 in
    let f = and_both _ _ e.0 in
    let o5 = or_parts _ _ free in
    let o4 = or_parts _ _ o5.0 in
    let o3 = or_parts _ _ o4.0 in
    let o2 = or_parts _ _ o3.0 in
    let o1 = or_parts _ _ o2.0 in
    record {
      text = lies_well_is t f.0;
      initial = lies_well_is d f.1;
      heap = lies_well_is h e.1;
      stack = lies_well_is s c.1;
      td = o1.0;
      th = o1.1;
      ts = o2.1;
      dh = o3.1;
      ds = o4.1;
      hs = o5.1;
    }

relocs_pass : (a rest : Judged) → then_judged a rest ≡ Ok tt → (a ≡ Ok tt) × (rest ≡ Ok tt)
relocs_pass (Ok u) rest h = (refl, h)
relocs_pass (Err e) rest h = absurd (let g : ◌≡◌ {A = Judged} (Err e) (Ok tt) = h in cc)

pub record IsLoadedWell (i : Image) : Type 0 where
  pub spread : IsSpread (text_of i) (initial_of i) i.heap i.stack
  pub relocs : judged_relocs (initial_of i) i.relocs (Ok tt) ≡ Ok tt
  pub text : is_encodable (text_of i) ≡ true
  pub table : is_encodable i.table ≡ true
  pub stack : is_encodable i.stack ≡ true

pub judged_well : (i : Image) → judged i ≡ Ok tt → IsLoadedWell i
unfolding judged
judged_well i h =
    let a = passed _ _ _ h in
    let b = passed _ _ _ a.1 in
    let c = passed _ _ _ b.1 in
    let d = passed _ _ _ c.1 in
    let e = relocs_pass _ _ d.1 in
    let f = passed _ _ _ e.1 in
    let g = and_both _ _ f.0 in
    let k = and_both _ _ g.0 in
    record { spread = spread _ _ _ _ a.0 (not_true _ b.0); relocs = e.0; text = k.0; table = k.1; stack = g.1 }

pub regions_lie : (i : Image) → judged i ≡ Ok tt → LieFrom 0 (regions_of (segments_of i))
regions_lie i h = lie_all (text_of i) (initial_of i) i.heap i.stack (judged_well i h).spread

-- ---- want of memory is no part of judging

own_guard : (b : Bool) (e : LoadRefusal) (rest : Judged) → e ≢ refusal.NoMemory → rest ≢ Err refusal.NoMemory →
    guard b e rest ≢ Err refusal.NoMemory
own_guard true e rest own later = later
own_guard false e rest own later = λ h. own (let g : ◌≡◌ {A = Judged} (Err e) (Err refusal.NoMemory) = h in cc)

own_relocs : (i : Extent) (rs : List Reloc) → judged_relocs i rs (Ok tt) ≢ Err refusal.NoMemory
unfolding judged_relocs
own_relocs i [] = λ h. let g : ◌≡◌ {A = Judged} (Ok tt) (Err refusal.NoMemory) = h in cc
own_relocs i (r ∷ rs) = own_guard (is_place r.place i) refusal.Place _ (λ h. cc)
    (own_guard (is_capability r) refusal.Bounds _ (λ h. cc) (own_relocs i rs))

own_then : (a rest : Judged) → a ≢ Err refusal.NoMemory → rest ≢ Err refusal.NoMemory →
    then_judged a rest ≢ Err refusal.NoMemory
own_then (Ok u) rest own later = later
own_then (Err e) rest own later = own

judged_own : (i : Image) → judged i ≢ Err refusal.NoMemory
unfolding judged
judged_own i =
    let t = text_of i in
    let d = initial_of i in
    let none : ◌≢◌ {A = Judged} (Ok tt) (Err refusal.NoMemory) = λ h.
    let g : ◌≡◌ {A = Judged} (Ok tt) (Err refusal.NoMemory) = h in cc in
    own_guard (segments_fit t d i.heap i.stack) refusal.Segment _ (λ h. cc)
    (own_guard (not (some_overlap t d i.heap i.stack)) refusal.Overlap _ (λ h. cc)
    (own_guard (lies_inside i.table d) refusal.Overlap _ (λ h. cc)
    (own_guard (is_entry i.entry t) refusal.Entry _ (λ h. cc)
    (own_then _ _ (own_relocs d i.relocs)
    (own_guard (is_encodable t && is_encodable i.table && is_encodable i.stack) refusal.Bounds (Ok tt) (λ h. cc)
    none)))))

pub loads_refused : (i : Image) (e : LoadRefusal) → judged i ≡ Err e → Loads i (Err e)
loads_refused i refusal.Segment h = h
loads_refused i refusal.Overlap h = h
loads_refused i refusal.Place h = h
loads_refused i refusal.Bounds h = h
loads_refused i refusal.Entry h = h
loads_refused i refusal.NoMemory h = absurd (judged_own i h)
