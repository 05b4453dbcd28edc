-- Types by their numbers and as trees: the size of each, and whether it is a struct or union that has members.
use Rattle.std.proofs.Common.{◌≡◌, ℕ, zero, suc, ◌+◌, ◌<◌, ◌≤◌, Bool, true, false, List, [], ◌∷◌, ◌++◌, length, get_or}
use Rattle.std.proofs.Common.{Option, Some, None, refl, sym, ap, ◌∙◌, arith, ⊎_elim, length-append}
use Rattle.std.specs.Prelude.{slice_get, slice_index_or}
use Rattle.std.proofs.lemmas.Bool.{false≢true, cases_lt}
use Rattle.std.proofs.lemmas.List.{get_or_past}
use Rattle.std.proofs.lemmas.Option.{slice_get_past, slice_get-get_or}
use Rattle.c_tree.specs.Layout.{Extent, extent, extent_of, extent_within, bare, bare_of, bare_within}
use Rattle.c_tree.specs.Terms.{Program, Tag}
use Rattle.c_tree.specs.TreeLayout.{tree_extent}
use Rattle.c_tree.specs.Types as ty
use Rattle.c_tree.specs.Types.{Ty, Tagged, Const}
use Rattle.c_tree.specs.Typing.{Sound}
use Rattle.c_tree.specs.Views.{grow, forest, type_from, is_some, Shows, IsOrdered}
use Rattle.c_tree.specs.WellTyped.{type_in}
use Rattle.c_tree.specs.declared.typed.CType.{CType}
use Rattle.c_tree.specs.declared.typed.CType.TheVariants as types
use Rattle.c_tree.specs.declared.typed.Typed.{Typed}
use Rattle.c_tree.proofs.Forest.{forest_reads}
use Rattle.c_tree.proofs.ViewLayout.{extent_is}
use Rattle.cheri_c_sem.specs.Types.{is_record, size_of_extent}
use Rattle.value_trees.specs.Types.{TypesAgree}

-- ---- past the lists

grow_length : {N T : Type 0} (make : N → (ℕ → T) → T) (bad : T) (ns : List N) (ts : List T) →
    length (grow make bad ns ts) ≡ length ts + length ns
unfolding grow
grow_length make bad [] ts = omega arith
grow_length make bad (n ∷ ns) ts =
    let v = make n (λ k. slice_index_or ts k bad) in
    omega (arith, grow_length make bad ns (ts ++ v ∷ []), length-append ts (v ∷ []))

pub forest_past : {N T : Type 0} (make : N → (ℕ → T) → T) (bad : T) (ns : List N) (k : ℕ) → length ns ≤ k →
    get_or (forest make bad ns) k bad ≡ bad
forest_past make bad ns k h =
    get_or_past (forest make bad ns) k bad (let z = grow_length make bad ns [] in omega (arith, h, z))

-- ---- structs and unions

abbrev has_members : Option Tag → Bool
has_members None = false
has_members (Some t) = is_some t.members

abbrev pub record_of : List Tag → Ty → Bool
record_of tags (Tagged n) = has_members (slice_get tags n)
record_of tags (Const t) = record_of tags t
record_of tags t = false

-- a struct or union, perhaps qualified
abbrev pub is_struct : Ty → Bool
is_struct (Tagged n) = true
is_struct (Const t) = is_struct t
is_struct t = false

pub record_struct : (tags : List Tag) (t : Ty) → record_of tags t ≡ true → is_struct t ≡ true
record_struct tags (Tagged n) e = refl
record_struct tags (Const t) e = record_struct tags t e
record_struct tags t e = absurd (false≢true e)

module _ (p : Typed) (o : IsOrdered p) (q : Program) (shows : Shows p q) where
  type_past : (t : ℕ) → length p.types ≤ t → type_in p t ≡ ty.Void
  type_past t h = forest_past type_from ty.Void p.types t h

  record_within : (d t : ℕ) → t < d → t < length p.types →
      is_record (bare_within d p.types t) ≡ record_of q.tags (type_in p t)
  unfolding bare_within
  record_within zero t lt there = absurd (omega (arith, lt))
  record_within (suc d) t lt there =
      let c = get_or p.types t types.Void in
      let h = slice_get-get_or p.types t types.Void there in
      let r = forest_reads type_from ty.Void p.types t c h in
      ap (λ z. is_record (bare_of z (bare_within d p.types))) h
      ∙ by c h (λ j. get_or r.seen j ty.Void) r.before
      (λ u l. record_within d u (omega (arith, lt, l)) (omega (arith, there, l)))
      ∙ ap (record_of q.tags) (sym r.is)
    where
      by : (c : CType) → slice_get p.types t ≡ Some c → (go : ℕ → Ty) → ((j : ℕ) → j < t → go j ≡ type_in p j) →
          ((u : ℕ) → u < t → is_record (bare_within d p.types u) ≡ record_of q.tags (type_in p u)) →
          is_record (bare_of (Some c) (bare_within d p.types)) ≡ record_of q.tags (type_from c go)
      by types.Void h go b k = refl
      by (types.Int i n) h go b k = refl
      by (types.Cap s) h go b k = refl
      by (types.Pointer u) h go b k = refl
      by (types.Array u n) h go b k = refl
      by (types.Function u us) h go b k = refl
      by (types.Struct tag ms) h go b k = sym (ap has_members (shows.tags t (types.Struct tag ms) h))
      by (types.Union tag ms) h go b k = sym (ap has_members (shows.tags t (types.Union tag ms) h))
      by (types.Incomplete tag) h go b k =
          let a = shows.tags t (types.Incomplete tag) h in sym (ap has_members a.1 ∙ ap is_some a.2)
      by (types.Const u) h go b k =
          let l = o.types t (types.Const u) h in k u l ∙ ap (record_of q.tags) (sym (b u l))

  bare_past : (d t : ℕ) → length p.types ≤ t → bare_within d p.types t ≡ None
  unfolding bare_within
  bare_past zero t h = refl
  bare_past (suc d) t h = ap (λ z. bare_of z (bare_within d p.types)) (slice_get_past p.types t h)

  pub record_is : (t : ℕ) → is_record (bare p.types t) ≡ record_of q.tags (type_in p t)
  record_is t = ⊎_elim (λ l. record_within (length p.types) t l l)
      (λ h. ap is_record (bare_past (length p.types) t h) ∙ ap (record_of q.tags) (sym (type_past t h)))
      (cases_lt t (length p.types))

  -- ---- sizes

  extent_past : (d t : ℕ) → length p.types ≤ t → extent_within d p.types t ≡ None
  unfolding extent_within
  extent_past zero t h = refl
  extent_past (suc d) t h = ap (λ z. extent_of z (extent_within d p.types)) (slice_get_past p.types t h)

  pub void_extent : (d : ℕ) → tree_extent d q.tags ty.Void ≡ None
  unfolding tree_extent
  void_extent zero = refl
  void_extent (suc d) = refl

  const_extent : (d : ℕ) (t : Ty) → tree_extent (suc d) q.tags (Const t) ≡ tree_extent d q.tags t
  unfolding tree_extent
  const_extent d t = refl

  abbrev pub deep : ℕ → Ty → Option Extent
  deep k t = tree_extent (length p.types + k) q.tags t

  pub extent_at : (k t : ℕ) → extent p.types t ≡ deep k (type_in p t)
  extent_at k t = ⊎_elim (λ l. extent_is p q o shows k t l)
      (λ h. extent_past (length p.types) t h ∙ sym (ap (deep k) (type_past t h) ∙ void_extent (length p.types + k)))
      (cases_lt t (length p.types))

  bare_extent : (t u : ℕ) (s : Ty) → type_in p u ≡ s → type_in p t ≡ ty.bare s → extent p.types t ≡ extent p.types u
  bare_extent t u (Const s) e f =
      let z : length p.types + 1 ≡ suc (length p.types + 0) = omega arith in
      extent_at 0 t ∙ ap (deep 0) f ∙ sym (const_extent (length p.types + 0) s)
      ∙ ap (λ d. tree_extent d q.tags (Const s)) (sym z) ∙ ap (deep 1) (sym e) ∙ sym (extent_at 1 u)
  bare_extent t u s e f = extent_at 0 t ∙ ap (deep 0) (f ∙ sym e) ∙ sym (extent_at 0 u)

  record_bare : (t : Ty) → record_of q.tags (ty.bare t) ≡ record_of q.tags t
  record_bare (Const t) = refl
  record_bare t = refl

  agree : TypesAgree p
  agree = record {
    sizes = λ t u b. ap size_of_extent (⊎_elim
        (λ e. extent_at 0 t ∙ ap (deep 0) e ∙ sym (extent_at 0 u)) (λ e. bare_extent t u (type_in p u) refl e) b);
    records = λ t u b. record_is t ∙ ⊎_elim (λ e. ap (record_of q.tags) e)
        (λ e. ap (record_of q.tags) e ∙ record_bare (type_in p u)) b ∙ sym (record_is u);
  }

pub types_agree : (p : Typed) → Sound p → TypesAgree p
types_agree p h = let t = h.types.types in agree p t.ordered t.program t.shows
