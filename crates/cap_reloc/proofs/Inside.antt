-- Each relocation has its place in the initial data.
use Rattle.std.proofs.Common.{◌≡◌, ℕ, zero, suc, ◌+◌, ◌-◌, ◌*◌, ◌/◌, ◌%◌, ◌^◌, ◌<◌, ◌≤◌, max, Bool, true, false, Option}
use Rattle.std.proofs.Common.{None, List, [], ◌∷◌, ◌++◌, length, get_or, map, Some, refl, ap, ◌∙◌, subst, arith, inl}
use Rattle.std.proofs.Common.{inr}
use Rattle.std.specs.Prelude.{nat_le, slice_get, if◌then◌else◌}
use Rattle.std.specs.List.{All, zip, flat_map}
use Rattle.std.proofs.lemmas.Bool.{cases_lt}
use Rattle.std.proofs.lemmas.List.{length-map}
use Rattle.std.proofs.lemmas.List.Elements.{All-nil, All-append}
use Rattle.std.proofs.lemmas.Nat.{pow-add, div-add-mod'}
use Rattle.std.proofs.Math.Pow.{pow-lt}
use Rattle.cap_concentrate.specs.Rounding.{alignment}
use Rattle.cap_ops.specs.Permissions.{data_permissions, const_permissions}
use Rattle.c_tree.specs.declared.typed.Typed.{Typed}
use Rattle.c_tree.specs.declared.typed.GlobalDef.{GlobalDef}
use Rattle.c_tree.specs.declared.typed.Link.{Link}
use Rattle.c_tree.specs.declared.typed.CType.{CType}
use Rattle.c_tree.specs.Layout.{Extent, extent, size_limit}
use Rattle.c_tree.proofs.Aligned.{IsPower, max_power, alignment_is_power, extent_aligned}
use Rattle.c_tree.specs.WellTyped.{WellTyped, LinkFits}
use Rattle.obj_mem.specs.declared.map.Map.{Map}
use Rattle.obj_mem.specs.Legal.{ObjectNeed, owned_of, alignment_of, AreAligned}
use Rattle.obj_mem.specs.Needs.{nothing_of, need_by, global_need, literal_need, is_const, weight_in, Legal}
use Rattle.obj_mem.specs.Table.{table_length, entry_count}
use Rattle.cap_reloc.specs.declared.whole_pointers.Pointer.{Pointer}
use Rattle.cap_reloc.specs.Begins.{asked_by, IsInside}
use Rattle.cap_reloc.specs.Initial.{AreInitial}
use Rattle.cap_reloc.specs.Pointers.{table_pointers, entries, link_reloc, link_relocs}
use Rattle.obj_mem.proofs.Spread.{objects_are_exact_law}
use Rattle.cap_reloc.proofs.Pairs.{exact_at}
use Rattle.cap_reloc.proofs.Objects.{objects_begin}
use Rattle.cap_reloc.proofs.Under.{owned_least, size_is, table_count, functions_count}

-- ---- alignments are multiples of 16

align_of : ObjectNeed → ℕ
align_of n = n.align

either_align : (b : Bool) (x y : ObjectNeed) → IsPower x.align → IsPower y.align →
    IsPower (align_of (if b then x else y))
unfolding align_of
either_align true x y p q = p
either_align false x y p q = q

need_power : (o : Option Extent) (q : ℕ) → ((x : Extent) → o ≡ Some x → IsPower x.align) →
    IsPower (align_of (need_by o q))
unfolding align_of
need_power None q h = (0, refl)
need_power (Some x) q h =
    either_align (nat_le x.size size_limit) (record { length = x.size; align = x.align; permissions = q })
    (nothing_of q) (h x refl) (0, refl)

sixteen_divides : (n base : ℕ) → IsPower n → 16 ≤ n → base % n ≡ 0 → base % 16 ≡ 0
sixteen_divides n base p h e =
    let k = p.0 in
    let le : 4 ≤ k = elim (cases_lt k 4) as (λ _. 4 ≤ k)
    [ inl below ↦ absurd (omega (arith, pow-lt below, p.1)) | inr fine ↦ fine ] in
    let s : k ≡ k - 4 + 4 = omega arith in
    let r : n ≡ 2 ^ (k - 4) * 2 ^ 4 = p.1 ∙ ap (λ v. 2 ^ v) s ∙ pow-add 2 (k - 4) 4 in
    let d = div-add-mod' base n in
    let u : base / n * n ≡ base / n * (2 ^ (k - 4) * 2 ^ 4) = ap (λ v. base / n * v) r in
    omega arith

granular : (n : ObjectNeed) (base : ℕ) → IsPower n.align → base % alignment_of n ≡ 0 → base % 16 ≡ 0
granular n base p e =
    let q = max_power 16 (max n.align (alignment n.length)) (4, refl)
    (max_power n.align (alignment n.length) p (alignment_is_power n.length)) in
    sixteen_divides (alignment_of n) base q (omega arith) e

aligned_at : {X : Type 0} (need : X → ObjectNeed) (xs : List X) (bs : List ℕ) (k : ℕ) (x : X) →
    AreAligned (map need xs) bs → slice_get xs k ≡ Some x → get_or bs k 0 % alignment_of (need x) ≡ 0
aligned_at need [] bs k x h e = absurd cc
aligned_at need (y ∷ xs) [] k x h e = absurd h
aligned_at need (y ∷ xs) (b ∷ bs) zero x h e = let s : y ≡ x = cc in subst (λ v. b % alignment_of (need v) ≡ 0) s h.0
aligned_at need (y ∷ xs) (b ∷ bs) (suc k) x h e = aligned_at need xs bs k x h.1 e

global_power : (types : List CType) (g : GlobalDef) → IsPower (global_need types g).align
unfolding align_of
global_power types g = need_power (extent types g.of)
    (if is_const types g.of then const_permissions else data_permissions)
    (λ x e. extent_aligned (length types) types g.of x e)

-- ---- lists of relocations

entries_inside : (from size place : ℕ) (cs : List Pointer) → place % 16 ≡ 0 → from ≤ place →
    place + 16 * length cs ≤ from + size → All (IsInside from size) (entries place cs)
unfolding entries
entries_inside from size place [] a b h k d l = absurd (omega arith)
entries_inside from size place (c ∷ cs) a b h zero d l = record { aligned = a; above = b; below = omega arith }
entries_inside from size place (c ∷ cs) a b h (suc k) d l =
    entries_inside from size (place + 16) cs (omega arith) (omega arith) (omega arith) k d (omega arith)

pub all_map : {A B : Type 0} (P : B → Type 0) (f : A → B) (xs : List A) →
    ((k : ℕ) (x : A) → slice_get xs k ≡ Some x → P (f x)) → All P (map f xs)
all_map P f [] h k d l = absurd (omega arith)
all_map P f (x ∷ xs) h zero d l = h 0 x refl
all_map P f (x ∷ xs) h (suc k) d l = all_map P f xs (λ j y e. h (suc j) y e) k d (omega arith)

pub all_pairs : {X B : Type 0} (P : B → Type 0) (f : X × ℕ → List B) (xs : List X) (bs : List ℕ) →
    ((k : ℕ) (x : X) → slice_get xs k ≡ Some x → All P (f (x, get_or bs k 0))) → All P (flat_map f (zip xs bs))
all_pairs P f [] bs h = All-nil P
all_pairs P f (x ∷ xs) [] h = All-nil P
all_pairs P f (x ∷ xs) (b ∷ bs) h =
    All-append P (f (x, b)) (flat_map f (zip xs bs)) (h 0 x refl) (all_pairs P f xs bs (λ k y e. h (suc k) y e))

-- ---- of a program

module _ (p : Typed) (m : Map) (legal : Legal p m) (w : WellTyped p) (table : m.table.1 ≡ table_length (asked_by p))
    (from : ℕ) (all : List ℕ) (initial : AreInitial p m from all) where
  link_inside : (cs : List Pointer) (base owns size : ℕ) (l : Link) → base % 16 ≡ 0 → from ≤ base →
      base + owns ≤ from + length all → base + owns < 2 ^ 64 → size ≤ owns → LinkFits p size l →
      IsInside from (length all) (link_reloc p cs base l)
  link_inside cs base owns size l a b h t n f =
      let i = f.inside in let g = f.aligned in
      record { aligned = omega arith; above = omega arith; below = omega arith }

  links_inside : (cs : List Pointer) (k : ℕ) (g : GlobalDef) → slice_get p.globals k ≡ Some g →
      All (IsInside from (length all)) (link_relocs p cs (g, get_or m.globals k 0))
  links_inside cs k g e =
      let f = w.globals k g e in
      let o = (objects_begin p m legal w from all initial).globals k g e in
      let a = granular (global_need p.types g) (get_or m.globals k 0) (global_power p.types g)
      (aligned_at (global_need p.types) p.globals m.globals k g legal.globals e) in
      let n : f.extent.size ≤ owned_of (global_need p.types g) =
      omega (arith, size_is p w k g e, owned_least (global_need p.types g).length) in
      let x = (exact_at (global_need p.types) p.globals m.globals k g
      (objects_are_exact_law (weight_in p) p m legal).0 e).based.to in
      all_map (IsInside from (length all)) (link_reloc p cs (get_or m.globals k 0)) g.links
      (λ j l i. link_inside cs (get_or m.globals k 0)
      (owned_of (global_need p.types g)) f.extent.size l a o.above o.below (omega arith) n (f.links j l i))

  pub all_inside : All (IsInside from (length all))
      (entries m.table.0 (table_pointers p m) ++ flat_map (link_relocs p (table_pointers p m))
      (zip p.globals m.globals))
  all_inside =
      let n = asked_by p in
      let o = (objects_begin p m legal w from all initial).table in
      let above = o.above in
      let below = o.below in
      let u = owned_least (16 * entry_count n) in
      let c = table_count p m legal in
      let f = functions_count p m legal in
      let fe = legal.entries in
      let a = length-map p.globals (global_need p.types) in
      let b = length-map p.literals literal_need in
      let fits : m.table.0 + 16 * length (table_pointers p m) ≤ from + length all = omega arith in
      All-append (IsInside from (length all)) (entries m.table.0 (table_pointers p m))
      (flat_map (link_relocs p (table_pointers p m)) (zip p.globals m.globals))
      (entries_inside from (length all) m.table.0 (table_pointers p m) legal.table_aligned above fits)
      (all_pairs (IsInside from (length all)) (link_relocs p (table_pointers p m)) p.globals m.globals
      (links_inside (table_pointers p m)))
