-- What types by their numbers and as trees say alike: which are void, scalars, structs and unions.
use Rattle.std.proofs.Common.{◌≡◌, ℕ, zero, suc, ◌<◌, Bool, true, false, List, length, get_or, Option, Some, None, refl}
use Rattle.std.proofs.Common.{sym, ap, ◌∙◌, arith}
use Rattle.std.specs.Prelude.{slice_get, ◌||◌}
use Rattle.std.proofs.lemmas.Bool.{false≢true}
use Rattle.std.proofs.lemmas.Option.{same_Some, slice_get-get_or}
use Rattle.ck_base.specs.declared.positions.Span.{Span}
use Rattle.c_tree.specs.Layout.{Extent, extent, extent_of, extent_within, bare, bare_of, bare_within}
use Rattle.c_tree.specs.Terms.{Program, Tag}
use Rattle.c_tree.specs.Types as ty
use Rattle.c_tree.specs.Types.{Ty}
use Rattle.c_tree.specs.Views.{type_from, Shows, IsOrdered}
use Rattle.c_tree.specs.WellTyped.{type_in, IsComplete}
use Rattle.c_tree.specs.declared.typed.CType.{CType}
use Rattle.c_tree.specs.declared.typed.CType.TheVariants as types
use Rattle.c_tree.specs.declared.typed.Typed.{Typed}
use Rattle.c_tree.proofs.Forest.{forest_reads}
use Rattle.typing_laws.specs.Valued.{is_plain}
use Rattle.cheri_c_sem.specs.Kinds.{Kind}
use Rattle.cheri_c_sem.specs.Types.{scalar_of, is_record, is_void}

-- the type of the list at a number, which is not `const` where the tree is not
record Stands (p : Typed) (t : ℕ) (s : Ty) : Type 0 where
  node : CType
  there : slice_get p.types t ≡ Some node
  go : ℕ → Ty
  is : s ≡ type_from node go

bare_node : (all : List CType) (d t : ℕ) (c : CType) → slice_get all t ≡ Some c →
    ((f : ℕ → Option CType) → bare_of (Some c) f ≡ Some c) → t < d → bare_within d all t ≡ Some c
unfolding bare_within
bare_node all zero t c h f lt = absurd (omega arith)
bare_node all (suc d) t c h f lt = ap (λ z. bare_of z (bare_within d all)) h ∙ f (bare_within d all)

incomplete_none : (all : List CType) (d t tag : ℕ) → slice_get all t ≡ Some (types.Incomplete tag) →
    extent_within d all t ≡ None
unfolding extent_within
incomplete_none all zero t tag h = refl
incomplete_none all (suc d) t tag h = ap (λ z. extent_of z (extent_within d all)) h

clash : (tags : List Tag) (u tag : ℕ) (g h : Tag) (ms : List (Span × Ty)) → u ≡ tag → slice_get tags u ≡ Some g →
    g.members ≡ Some ms → slice_get tags tag ≡ Some h → h.members ≡ None → ⊥
clash tags u tag g h ms j a b c d =
    let f : g ≡ h = same_Some g h (sym a ∙ ap (slice_get tags) j ∙ c) in
    let z : Some ms ≡ None = sym b ∙ ap (λ (t : Tag). t.members) f ∙ d in absurd cc

module _ (p : Typed) (o : IsOrdered p) where
  node_at : (t : ℕ) → t < length p.types → Stands p t (type_in p t)
  node_at t lt =
      let c = get_or p.types t types.Void in
      let h = slice_get-get_or p.types t types.Void lt in
      let r = forest_reads type_from ty.Void p.types t c h in
      record { node = c; there = h; go = λ j. get_or r.seen j ty.Void; is = r.is }

  bare_at : (t : ℕ) (c : CType) → t < length p.types → slice_get p.types t ≡ Some c →
      ((f : ℕ → Option CType) → bare_of (Some c) f ≡ Some c) → bare p.types t ≡ Some c
  bare_at t c lt h f = bare_node p.types (length p.types) t c h f lt

  pub void_at : (t : ℕ) → t < length p.types → ty.is_void (type_in p t) ≡ true → is_void (bare p.types t) ≡ true
  void_at t lt e = let n = node_at t lt in by n.node n.there n.go (sym (ap ty.is_void n.is) ∙ e)
    where
      by : (c : CType) → slice_get p.types t ≡ Some c → (go : ℕ → Ty) → ty.is_void (type_from c go) ≡ true →
          is_void (bare p.types t) ≡ true
      by types.Void h go q = ap is_void (bare_at t types.Void lt h (λ f. refl))
      by c h go q = absurd (false≢true q)

  pub record IsScalar (t : ℕ) : Type 0 where
    pub kind : Kind
    pub is : scalar_of (bare p.types t) ≡ Some kind
    pub no_record : is_record (bare p.types t) ≡ false

  pub scalar_at : (t : ℕ) → t < length p.types → ty.is_scalar (type_in p t) ≡ true → IsScalar t
  scalar_at t lt e = let n = node_at t lt in by n.node n.there n.go (sym (ap ty.is_scalar n.is) ∙ e)
    where
      of : (c : CType) → slice_get p.types t ≡ Some c → ((f : ℕ → Option CType) → bare_of (Some c) f ≡ Some c) →
          (k : Kind) → scalar_of (Some c) ≡ Some k → is_record (Some c) ≡ false → IsScalar t
      of c h f k q r =
          let b = bare_at t c lt h f in
          record { kind = k; is = ap scalar_of b ∙ q; no_record = ap is_record b ∙ r }

      by : (c : CType) → slice_get p.types t ≡ Some c → (go : ℕ → Ty) → ty.is_scalar (type_from c go) ≡ true →
          IsScalar t
      by (types.Int k n) h go q = of (types.Int k n) h (λ f. refl) _ refl refl
      by (types.Cap s) h go q = of (types.Cap s) h (λ f. refl) _ refl refl
      by (types.Pointer u) h go q = of (types.Pointer u) h (λ f. refl) _ refl refl
      by c h go q = absurd (false≢true q)

  -- what is no struct or union
  pub plain_at : (t : ℕ) → t < length p.types → is_plain (type_in p t) ≡ true → is_record (bare p.types t) ≡ false
  plain_at t lt e = by (ty.is_void (type_in p t)) refl e
    where
      void_record : (c : Option CType) → is_void c ≡ true → is_record c ≡ false
      void_record (Some types.Void) h = refl
      void_record c h = absurd (false≢true h)

      by : (b : Bool) → ty.is_void (type_in p t) ≡ b → (b || ty.is_scalar (type_in p t)) ≡ true →
          is_record (bare p.types t) ≡ false
      by true h g = void_record (bare p.types t) (void_at t lt h)
      by false h g = (scalar_at t lt g).no_record

  pub capability_at : (t : ℕ) → t < length p.types → (s : Bool) → type_in p t ≡ ty.Cap s →
      bare p.types t ≡ Some (types.Cap s)
  capability_at t lt s e = let n = node_at t lt in by n.node n.there n.go (sym n.is ∙ e)
    where
      by : (c : CType) → slice_get p.types t ≡ Some c → (go : ℕ → Ty) → type_from c go ≡ ty.Cap s →
          bare p.types t ≡ Some (types.Cap s)
      by (types.Cap r) h go q =
          let j : r ≡ s = cc in bare_at t (types.Cap r) lt h (λ f. refl) ∙ ap (λ z. Some (types.Cap z)) j
      by c h go q = absurd cc

  module _ (q : Program) (shows : Shows p q) where
    -- a struct or union that is complete at some number has its members at each
    tag_whole : (t n tag : ℕ) (x : Extent) → slice_get p.types t ≡ Some (types.Incomplete tag) →
        n < length p.types → type_in p n ≡ ty.Tagged tag → extent p.types n ≡ Some x → ⊥
    tag_whole t n tag x h lt e w =
        let m = node_at n lt in by m.node m.there m.go (sym m.is ∙ e)
      where
        by : (c : CType) → slice_get p.types n ≡ Some c → (go : ℕ → Ty) → type_from c go ≡ ty.Tagged tag → ⊥
        by (types.Struct u ms) g go i =
            let a = shows.tags t (types.Incomplete tag) h in
            let j : u ≡ tag = cc in
            clash q.tags u tag _ a.0 _ j (shows.tags n (types.Struct u ms) g) refl a.1 a.2
        by (types.Union u ms) g go i =
            let a = shows.tags t (types.Incomplete tag) h in
            let j : u ≡ tag = cc in
            clash q.tags u tag _ a.0 _ j (shows.tags n (types.Union u ms) g) refl a.1 a.2
        by (types.Incomplete u) g go i =
            let z = sym w ∙ incomplete_none p.types (length p.types) n u g in absurd cc
        by c g go i = absurd cc

    pub record_at : (t : ℕ) → t < length p.types → ty.is_tagged (type_in p t) ≡ true → IsComplete p (type_in p t) →
        is_record (bare p.types t) ≡ true
    record_at t lt e w = let n = node_at t lt in by n.node n.there n.go n.is
      where
        by : (c : CType) → slice_get p.types t ≡ Some c → (go : ℕ → Ty) → type_in p t ≡ type_from c go →
            is_record (bare p.types t) ≡ true
        by (types.Struct u ms) h go i = ap is_record (bare_at t (types.Struct u ms) lt h (λ f. refl))
        by (types.Union u ms) h go i = ap is_record (bare_at t (types.Union u ms) lt h (λ f. refl))
        by (types.Incomplete u) h go i =
            absurd (tag_whole t w.1.number u w.0 h w.1.there (w.1.is ∙ i) w.1.extent_is)
        by c h go i = absurd (false≢true (sym (ap ty.is_tagged i) ∙ e))
