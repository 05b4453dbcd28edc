-- Types of a program that are compatible as trees are so by their numbers, and then have one signature.
use Rattle.std.proofs.Common.{◌≡◌, ℕ, zero, suc, ◌<◌, ◌≤◌, ◌==◌, ◌||◌, Bool, true, false, List, [], ◌∷◌}
use Rattle.std.proofs.Common.{length}
use Rattle.std.proofs.Common.{map, Option, Some, None, ◌⊎◌, inl, inr, refl, sym, ap, subst, ◌∙◌, arith}
use Rattle.std.specs.Prelude.{slice_get, slice_index_or}
use Rattle.std.proofs.lemmas.Bool.{and_parts, and_from, eqb-true, false≢true}
use Rattle.std.proofs.lemmas.Option.{slice_get_within}
use Rattle.ck_int.specs.declared.kinds.IntKind.{IntKind}
use Rattle.ck_int.specs.declared.kinds.IntKind.TheVariants as int
use Rattle.c_tree.specs.declared.syntax.RecordKind.TheVariants as record_kinds
use Rattle.c_tree.specs.Layout.{bare, bare_of, bare_within}
use Rattle.c_tree.specs.Terms.{Program, Tag}
use Rattle.c_tree.specs.Types.{Ty, Tys, Void, Int, Cap, Pointer, Array, Tagged, Function, Const, same_kind, same_truth}
use Rattle.c_tree.specs.Types as trees
use Rattle.c_tree.specs.Views.{type_from, tys, Shows, IsOrdered}
use Rattle.c_tree.specs.WellTyped.{type_in}
use Rattle.c_tree.specs.declared.typed.CType.{CType}
use Rattle.c_tree.specs.declared.typed.CType.TheVariants as ctypes
use Rattle.c_tree.specs.declared.typed.FunDef.{FunDef}
use Rattle.c_tree.specs.declared.typed.Member.{Member}
use Rattle.c_tree.specs.declared.typed.Typed.{Typed}
use Rattle.c_tree.proofs.Forest.{forest_reads}
use Rattle.cheri_c_sem.specs.Compatible.{kind_number, same_bool, lengths_agree, all_agree, agree_of, agree_within}
use Rattle.cheri_c_sem.specs.Compatible.{compatible}
use Rattle.cheri_c_sem.specs.Kinds.{Kind, Plain, Capability}
use Rattle.cheri_c_sem.specs.Types.{scalar_of}
use Rattle.placement.proofs.Lists.{below_get}
use Rattle.tac_ir.specs.WellFormed.{kind_or_int, signature_by, signature_of_def}
use Rattle.lower_runs.specs.Fitting.{CallsFit, SoundCallsFit}
use Rattle.lower_runs.proofs.Changes.{same_number}
use Rattle.lower_runs.proofs.Placed.{same_some}

abbrev is_plain : CType → Bool
is_plain (ctypes.Const t) = false
is_plain c = true

plain_bare : (c : CType) (go : ℕ → Option CType) → is_plain c ≡ true → bare_of (Some c) go ≡ Some c
plain_bare (ctypes.Const t) go h = absurd cc
plain_bare c go h = refl

-- a type is behind a `const`, or it is not
record Shut (c : CType) : Type 0 where
  of : ℕ
  is : c ≡ ctypes.Const of

behind : (c : CType) → Shut c ⊎ (is_plain c ≡ true)
behind (ctypes.Const t) = inl (record { of = t; is = refl })
behind c = inr refl

module _ (p : Typed) (o : IsOrdered p) where
  abbrev types : List CType
  types = p.types

  abbrev T : ℕ → Ty
  T = type_in p

  -- ---- behind `const`

  const_below : (t s : ℕ) → slice_get types t ≡ Some (ctypes.Const s) → s < t
  const_below t s e = o.types t (ctypes.Const s) e

  bare_step : (d t : ℕ) (c : Option CType) → slice_get types t ≡ c →
      bare_within (suc d) types t ≡ bare_of c (bare_within d types)
  unfolding bare_within
  bare_step d t c e = ap (λ z. bare_of z (bare_within d types)) e

  -- any number of levels above a type's number is enough
  bare_enough : (d e t : ℕ) → t < d → t < e → bare_within d types t ≡ bare_within e types t
  bare_enough zero e t l m = absurd (omega arith)
  bare_enough (suc d) zero t l m = absurd (omega arith)
  bare_enough (suc d) (suc e) t l m = by (slice_get types t) refl (bare_enough d e)
    where
      open_ : (c : CType) → slice_get types t ≡ Some c → ((s : ℕ) → s < d → s < e →
          bare_within d types s ≡ bare_within e types s) → Shut c ⊎ (is_plain c ≡ true) →
          bare_of (Some c) (bare_within d types) ≡ bare_of (Some c) (bare_within e types)
      open_ c q go (inl h) =
          let lt = const_below t h.of (q ∙ ap Some h.is) in
          subst (λ z. bare_of (Some z) (bare_within d types) ≡ bare_of (Some z) (bare_within e types)) (sym h.is)
          (go h.of (omega arith) (omega arith))
      open_ c q go (inr h) = plain_bare c (bare_within d types) h ∙ sym (plain_bare c (bare_within e types) h)

      by : (c : Option CType) → slice_get types t ≡ c → ((s : ℕ) → s < d → s < e →
          bare_within d types s ≡ bare_within e types s) →
          bare_within (suc d) types t ≡ bare_within (suc e) types t
      by None q go = bare_step d t None q ∙ sym (bare_step e t None q)
      by (Some c) q go = bare_step d t (Some c) q ∙ open_ c q go (behind c) ∙ sym (bare_step e t (Some c) q)

  bare_const_within : (d t s : ℕ) → slice_get types t ≡ Some (ctypes.Const s) → t < d →
      bare_within d types t ≡ bare_within d types s
  bare_const_within zero t s e l = absurd (omega arith)
  bare_const_within (suc d) t s e l =
      let lt = const_below t s e in
      bare_step d t (Some (ctypes.Const s)) e ∙ bare_enough d (suc d) s (omega arith) (omega arith)

  bare_const : (t s : ℕ) → slice_get types t ≡ Some (ctypes.Const s) → bare types t ≡ bare types s
  bare_const t s e = bare_const_within (length types) t s e (slice_get_within types t (ctypes.Const s) e)

  bare_plain_within : (d t : ℕ) (c : CType) → slice_get types t ≡ Some c → is_plain c ≡ true → t < d →
      bare_within d types t ≡ Some c
  bare_plain_within zero t c e h l = absurd (omega arith)
  bare_plain_within (suc d) t c e h l = bare_step d t (Some c) e ∙ plain_bare c (bare_within d types) h

  bare_plain : (t : ℕ) (c : CType) → slice_get types t ≡ Some c → is_plain c ≡ true → bare types t ≡ Some c
  bare_plain t c e h = bare_plain_within (length types) t c e h (slice_get_within types t c e)

  -- ---- signatures

  abbrev IsSame : Option CType → Option CType → Type 0
  IsSame a b = (scalar_of a ≡ scalar_of b) × (signature_by types a ≡ signature_by types b)

  abbrev AreSame : (ℕ → ℕ → Bool) → Type 0
  AreSame f = (t u : ℕ) → f t u ≡ true → IsSame (bare types t) (bare types u)

  abbrev taken : ℕ → Kind
  taken q = kind_or_int (scalar_of (bare types q))

  all_same : (f : ℕ → ℕ → Bool) → AreSame f → (ps qs : List ℕ) → all_agree f ps qs ≡ true →
      map taken ps ≡ map taken qs
  all_same f h [] [] e = refl
  all_same f h [] (q ∷ qs) e = absurd cc
  all_same f h (t ∷ ps) [] e = absurd cc
  all_same f h (t ∷ ps) (u ∷ qs) e =
      let two = and_parts (f t u) (all_agree f ps qs) e in
      ap (λ z. kind_or_int z ∷ map taken ps) (h t u two.0).0
      ∙ ap (λ z. taken u ∷ z) (all_same f h ps qs two.1)

  same_caps : (s r : Bool) → same_bool s r ≡ true → s ≡ r
  same_caps true true h = refl
  same_caps true false h = absurd cc
  same_caps false true h = absurd cc
  same_caps false false h = refl

  same_level : (f g : ℕ → ℕ → Bool) → AreSame f → AreSame g → (a b : Option CType) → agree_of f g a b ≡ true →
      IsSame a b
  same_level f g hf hg (Some (ctypes.Int k n)) (Some (ctypes.Int j m)) e =
      (ap (λ z. Some (Plain z)) (same_number k j (and_parts (kind_number k == kind_number j) (n == m) e).0), refl)
  same_level f g hf hg (Some (ctypes.Cap s)) (Some (ctypes.Cap r)) e =
      (ap (λ z. Some (Capability z)) (same_caps s r e), refl)
  same_level f g hf hg (Some (ctypes.Function t ps)) (Some (ctypes.Function u qs)) e =
      let two = and_parts (f t u) (all_agree g ps qs) e in (
        refl,
        ap (λ z. Some (record { gives = z; params = map taken ps })) (hf t u two.0).0
            ∙ ap (λ z. Some (record { gives = scalar_of (bare types u); params = z })) (all_same g hg ps qs two.1),
      )
  same_level f g hf hg (Some ctypes.Void) (Some ctypes.Void) e = (refl, refl)
  same_level f g hf hg (Some (ctypes.Pointer t)) (Some (ctypes.Pointer u)) e = (refl, refl)
  same_level f g hf hg (Some (ctypes.Array t n)) (Some (ctypes.Array u m)) e = (refl, refl)
  same_level f g hf hg (Some (ctypes.Struct t ms)) (Some (ctypes.Struct u ns)) e = (refl, refl)
  same_level f g hf hg (Some (ctypes.Struct t ms)) (Some (ctypes.Incomplete u)) e = (refl, refl)
  same_level f g hf hg (Some (ctypes.Incomplete t)) (Some (ctypes.Struct u ns)) e = (refl, refl)
  same_level f g hf hg (Some (ctypes.Union t ms)) (Some (ctypes.Union u ns)) e = (refl, refl)
  same_level f g hf hg (Some (ctypes.Union t ms)) (Some (ctypes.Incomplete u)) e = (refl, refl)
  same_level f g hf hg (Some (ctypes.Incomplete t)) (Some (ctypes.Union u ns)) e = (refl, refl)
  same_level f g hf hg (Some (ctypes.Incomplete t)) (Some (ctypes.Incomplete u)) e = (refl, refl)
  same_level f g hf hg (Some (ctypes.Const t)) (Some (ctypes.Const u)) e = (refl, refl)
  same_level f g hf hg a b e = absurd (false≢true e)

  -- at one level, and behind a `const` of each
  module _ (f g : ℕ → ℕ → Bool) where
    shut_open : (s : ℕ) (c : CType) → is_plain c ≡ true → agree_of f g (Some (ctypes.Const s)) (Some c) ≡ true → ⊥
    shut_open s (ctypes.Const r) h k = false≢true h
    shut_open s c h k = false≢true k

    open_shut : (s : ℕ) (c : CType) → is_plain c ≡ true → agree_of f g (Some c) (Some (ctypes.Const s)) ≡ true → ⊥
    open_shut s (ctypes.Const r) h k = false≢true h
    open_shut s c h k = false≢true k

    both_same : AreSame f → AreSame g → (t u : ℕ) (a b : CType) → slice_get types t ≡ Some a →
        slice_get types u ≡ Some b →
        agree_of f g (Some a) (Some b) ≡ true → Shut a ⊎ (is_plain a ≡ true) → Shut b ⊎ (is_plain b ≡ true) →
        IsSame (bare types t) (bare types u)
    both_same hf hg t u a b q r e (inl i) (inl j) =
        let one = hf i.of j.of (subst (λ z. agree_of f g (Some (ctypes.Const i.of)) (Some z) ≡ true) j.is
        (subst (λ z. agree_of f g (Some z) (Some b) ≡ true) i.is e)) in
        subst (λ z. IsSame z (bare types u)) (sym (bare_const t i.of (q ∙ ap Some i.is)))
        (subst (λ z. IsSame (bare types i.of) z) (sym (bare_const u j.of (r ∙ ap Some j.is))) one)
    both_same hf hg t u a b q r e (inl i) (inr j) =
        absurd (shut_open i.of b j (subst (λ z. agree_of f g (Some z) (Some b) ≡ true) i.is e))
    both_same hf hg t u a b q r e (inr i) (inl j) =
        absurd (open_shut j.of a i (subst (λ z. agree_of f g (Some a) (Some z) ≡ true) j.is e))
    both_same hf hg t u a b q r e (inr i) (inr j) =
        subst (λ z. IsSame z (bare types u)) (sym (bare_plain t a q i))
        (subst (λ z. IsSame (Some a) z) (sym (bare_plain u b r j)) (same_level f g hf hg (Some a) (Some b) e))

    own_same : AreSame f → AreSame g → (t u : ℕ) (a b : Option CType) → slice_get types t ≡ a →
        slice_get types u ≡ b → agree_of f g a b ≡ true → IsSame (bare types t) (bare types u)
    own_same hf hg t u None None q r e = absurd (false≢true e)
    own_same hf hg t u None (Some b) q r e = absurd (false≢true e)
    own_same hf hg t u (Some a) None q r e = absurd (none a e)
      where
        none : (a : CType) → agree_of f g (Some a) None ≡ true → ⊥
        none ctypes.Void k = false≢true k
        none a k = false≢true k
    own_same hf hg t u (Some a) (Some b) q r e = both_same hf hg t u a b q r e (behind a) (behind b)

  same_types : (d : ℕ) (loose : Bool) → AreSame (agree_within d types loose)
  unfolding agree_within
  same_types zero loose t u e = absurd cc
  same_types (suc d) true t u e =
      same_level (agree_within d types false) (agree_within d types true) (same_types d false) (same_types d true)
      (bare types t) (bare types u) e
  same_types (suc d) false t u e =
      own_same (agree_within d types false) (agree_within d types true) (same_types d false) (same_types d true) t u
      (slice_get types t) (slice_get types u) refl refl e

  -- ---- trees

  -- a type is made of those that it names
  made_of : (ps : List ℕ) (go : ℕ → Ty) (n : ℕ) → ((j i : ℕ) → slice_get ps j ≡ Some i → i < n) →
      ((j : ℕ) → j < n → go j ≡ T j) → tys (map go ps) ≡ tys (map T ps)
  made_of [] go n h k = refl
  made_of (q ∷ ps) go n h k =
      ap (λ z. trees.also z (tys (map go ps))) (k q (h 0 q refl))
      ∙ ap (λ z. trees.also (T q) z) (made_of ps go n (λ j i e. h (suc j) i e) k)

  made_by : (t : ℕ) (c : CType) → slice_get types t ≡ Some c → (go : ℕ → Ty) → ((j : ℕ) → j < t → go j ≡ T j) →
      type_from c go ≡ type_from c T
  made_by t ctypes.Void e go k = refl
  made_by t (ctypes.Int i n) e go k = refl
  made_by t (ctypes.Cap s) e go k = refl
  made_by t (ctypes.Pointer u) e go k = ap Pointer (k u (o.types t (ctypes.Pointer u) e))
  made_by t (ctypes.Array u n) e go k = ap (λ z. Array z n) (k u (o.types t (ctypes.Array u n) e))
  made_by t (ctypes.Struct tag ms) e go k = refl
  made_by t (ctypes.Union tag ms) e go k = refl
  made_by t (ctypes.Function u ps) e go k =
      let b = o.types t (ctypes.Function u ps) e in
      ap (λ z. Function z (tys (map go ps))) (k u b.0) ∙ ap (Function (T u)) (made_of ps go t b.1 k)
  made_by t (ctypes.Const u) e go k = ap Const (k u (o.types t (ctypes.Const u) e))
  made_by t (ctypes.Incomplete tag) e go k = refl

  made : (t : ℕ) (c : CType) → slice_get types t ≡ Some c → T t ≡ type_from c T
  made t c e =
      let r = forest_reads type_from Void types t c e in
      r.is ∙ made_by t c e (λ j. slice_index_or r.seen j Void) r.before

  -- ---- types that are compatible as trees are so by their numbers

  module _ (q : Program) (s : Shows p q) where
    abbrev agrees : ℕ → ℕ → Bool
    agrees t u = trees.compatible (T t) (T u)

    abbrev many : ℕ
    many = length types

    -- so far, up to a number
    abbrev Follows : (ℕ → ℕ → Bool) → ℕ → Type 0
    Follows f n = (i j : ℕ) → i < n → j < n → i < many → j < many → agrees i j ≡ true → f i j ≡ true

    one_tag : (t u tag : ℕ) (ms ns : List Member) → slice_get types t ≡ Some (ctypes.Struct tag ms) →
        slice_get types u ≡ Some (ctypes.Union tag ns) → ⊥
    one_tag t u tag ms ns e r = kinds (ap (λ (z : Tag). z.kind)
        (same_some _ _ (sym (s.tags t (ctypes.Struct tag ms) e) ∙ s.tags u (ctypes.Union tag ns) r)))
      where
        kinds : record_kinds.Struct ≡ record_kinds.Union → ⊥
        kinds k = cc

    same_numbers : (k j : IntKind) → same_kind k j ≡ true → (kind_number k == kind_number j) ≡ true
    same_numbers int.Bool int.Bool h = refl
    same_numbers int.I8 int.I8 h = refl
    same_numbers int.U8 int.U8 h = refl
    same_numbers int.I16 int.I16 h = refl
    same_numbers int.U16 int.U16 h = refl
    same_numbers int.I32 int.I32 h = refl
    same_numbers int.U32 int.U32 h = refl
    same_numbers int.I64 int.I64 h = refl
    same_numbers int.U64 int.U64 h = refl
    same_numbers k j h = absurd (false≢true h)

    same_truths : (a b : Bool) → same_truth a b ≡ true → same_bool a b ≡ true
    same_truths true b h = h
    same_truths false true h = absurd cc
    same_truths false false h = refl

    turned : (a b c : Bool) → (a || b || c) ≡ true → (b || c || a) ≡ true
    turned true true c h = refl
    turned true false true h = refl
    turned true false false h = refl
    turned false true c h = refl
    turned false false true h = refl
    turned false false false h = absurd cc

    module _ (f g : ℕ → ℕ → Bool) (n : ℕ) (hf : Follows f n) (hg : Follows g n) where
      all_follow : (ps qs : List ℕ) → ((j i : ℕ) → slice_get ps j ≡ Some i → (i < n) × (i < many)) →
          ((j i : ℕ) → slice_get qs j ≡ Some i → (i < n) × (i < many)) →
          trees.all_agree (λ m n. m == n || m == 0 || n == 0) (tys (map T ps)) (tys (map T qs)) ≡ true →
          all_agree g ps qs ≡ true
      all_follow [] [] h k e = refl
      all_follow [] (u ∷ qs) h k e = absurd cc
      all_follow (t ∷ ps) [] h k e = absurd cc
      all_follow (t ∷ ps) (u ∷ qs) h k e =
          let two = and_parts (agrees t u) _ e in
          let a = h 0 t refl in let b = k 0 u refl in
          and_from (g t u) (all_agree g ps qs) (hg t u a.0 b.0 a.1 b.1 two.0)
          (all_follow ps qs (λ j. h (suc j)) (λ j. k (suc j)) two.1)

      level_follows : (t u : ℕ) → t ≤ n → u ≤ n → (a b : CType) → slice_get types t ≡ Some a →
          slice_get types u ≡ Some b → trees.compatible (type_from a T) (type_from b T) ≡ true →
          agree_of f g (Some a) (Some b) ≡ true
      level_follows t u l m ctypes.Void ctypes.Void x y e = refl
      level_follows t u l m (ctypes.Int k i) (ctypes.Int j c) x y e =
          let two = and_parts (same_kind k j) (i == c) e in
          and_from (kind_number k == kind_number j) (i == c) (same_numbers k j two.0) two.1
      level_follows t u l m (ctypes.Cap a) (ctypes.Cap b) x y e = same_truths a b e
      level_follows t u l m (ctypes.Pointer a) (ctypes.Pointer b) x y e =
          let lt = slice_get_within types t _ x in let lu = slice_get_within types u _ y in
          let i = o.types t _ x in let j = o.types u _ y in
          hf a b (omega arith) (omega arith) (omega arith) (omega arith) e
      level_follows t u l m (ctypes.Array a i) (ctypes.Array b j) x y e =
          let lt = slice_get_within types t _ x in let lu = slice_get_within types u _ y in
          let k = o.types t _ x in let c = o.types u _ y in
          let two = and_parts (agrees a b) (i == j || i == 0 || j == 0) e in
          and_from (f a b) (lengths_agree i j)
          (hf a b (omega arith) (omega arith) (omega arith) (omega arith) two.0)
          (turned (i == j) (i == 0) (j == 0) two.1)
      level_follows t u l m (ctypes.Struct a ms) (ctypes.Struct b ns) x y e = e
      level_follows t u l m (ctypes.Struct a ms) (ctypes.Incomplete b) x y e = e
      level_follows t u l m (ctypes.Incomplete a) (ctypes.Struct b ns) x y e = e
      level_follows t u l m (ctypes.Union a ms) (ctypes.Union b ns) x y e = e
      level_follows t u l m (ctypes.Union a ms) (ctypes.Incomplete b) x y e = e
      level_follows t u l m (ctypes.Incomplete a) (ctypes.Union b ns) x y e = e
      level_follows t u l m (ctypes.Incomplete a) (ctypes.Incomplete b) x y e = e
      level_follows t u l m (ctypes.Struct a ms) (ctypes.Union b ns) x y e =
          absurd (one_tag t u a ms ns x (y ∙ ap (λ z. Some (ctypes.Union z ns)) (sym (eqb-true a b e))))
      level_follows t u l m (ctypes.Union a ms) (ctypes.Struct b ns) x y e =
          absurd (one_tag u t a ns ms (y ∙ ap (λ z. Some (ctypes.Struct z ns)) (sym (eqb-true a b e))) x)
      level_follows t u l m (ctypes.Function a ps) (ctypes.Function b qs) x y e =
          let lt = slice_get_within types t _ x in let lu = slice_get_within types u _ y in
          let i = o.types t _ x in let j = o.types u _ y in
          let two = and_parts (agrees a b) _ e in
          let la = i.0 in let lb = j.0 in
          and_from (f a b) (all_agree g ps qs)
          (hf a b (omega arith) (omega arith) (omega arith) (omega arith) two.0)
          (all_follow ps qs (λ c v r. let lv = i.1 c v r in (omega arith, omega arith))
          (λ c v r. let lv = j.1 c v r in (omega arith, omega arith)) two.1)
      level_follows t u l m (ctypes.Const a) (ctypes.Const b) x y e =
          let lt = slice_get_within types t _ x in let lu = slice_get_within types u _ y in
          let i = o.types t _ x in let j = o.types u _ y in
          hf a b (omega arith) (omega arith) (omega arith) (omega arith) e
      level_follows t u l m a b x y e = absurd (false≢true e)

      tree_shut : (i : ℕ) (b : CType) → is_plain b ≡ true →
          trees.compatible (Const (T i)) (type_from b T) ≡ true → ⊥
      tree_shut i (ctypes.Const j) h e = false≢true h
      tree_shut i b h e = false≢true e

      shut_tree : (a : CType) (j : ℕ) → is_plain a ≡ true →
          trees.compatible (type_from a T) (Const (T j)) ≡ true → ⊥
      shut_tree (ctypes.Const i) j h e = false≢true h
      shut_tree a j h e = false≢true e

      loose_follows : ((i j : ℕ) → i < n → j < n → i < many → j < many → agrees i j ≡ true →
          agree_of f g (bare types i) (bare types j) ≡ true) →
          (t u : ℕ) → t ≤ n → u ≤ n → (a b : CType) → slice_get types t ≡ Some a → slice_get types u ≡ Some b →
          trees.compatible (type_from a T) (type_from b T) ≡ true → Shut a ⊎ (is_plain a ≡ true) →
          Shut b ⊎ (is_plain b ≡ true) → agree_of f g (bare types t) (bare types u) ≡ true
      loose_follows again t u l m a b x y e (inl i) (inl j) =
          let xi = x ∙ ap Some i.is in let yj = y ∙ ap Some j.is in
          let lt = slice_get_within types t _ x in let lu = slice_get_within types u _ y in
          let ti = const_below t i.of xi in let uj = const_below u j.of yj in
          subst (λ z. agree_of f g z (bare types u) ≡ true) (sym (bare_const t i.of xi))
          (subst (λ z. agree_of f g (bare types i.of) z ≡ true) (sym (bare_const u j.of yj))
          (again i.of j.of (omega arith) (omega arith) (omega arith) (omega arith)
          (subst (λ z. trees.compatible (Const (T i.of)) (type_from z T) ≡ true) j.is
          (subst (λ z. trees.compatible (type_from z T) (type_from b T) ≡ true) i.is e))))
      loose_follows again t u l m a b x y e (inl i) (inr j) =
          absurd (tree_shut i.of b j (subst (λ z. trees.compatible (type_from z T) (type_from b T) ≡ true) i.is e))
      loose_follows again t u l m a b x y e (inr i) (inl j) =
          absurd (shut_tree a j.of i (subst (λ z. trees.compatible (type_from a T) (type_from z T) ≡ true) j.is e))
      loose_follows again t u l m a b x y e (inr i) (inr j) =
          subst (λ z. agree_of f g z (bare types u) ≡ true) (sym (bare_plain t a x i))
          (subst (λ z. agree_of f g (Some a) z ≡ true) (sym (bare_plain u b y j)) (level_follows t u l m a b x y e))

    all_levels : (n d : ℕ) → n ≤ d →
        Follows (agree_within d types false) n × Follows (agree_within d types true) n
    unfolding agree_within
    all_levels zero d le = ((λ i j li. absurd (omega arith)), (λ i j li. absurd (omega arith)))
    all_levels (suc n) zero le = absurd (omega arith)
    all_levels (suc n) (suc d) le =
        let here = all_levels n d (omega arith) in
        let more = all_levels n (suc d) (omega arith) in (
          (λ t u lt lu mt mu e. let a = below_get types t mt in let b = below_get types u mu in
              subst (λ z. agree_of (agree_within d types false) (agree_within d types true) z (slice_get types u)
              ≡ true)
              (sym a.1)
              (subst (λ z. agree_of (agree_within d types false) (agree_within d types true) (Some a.0) z ≡ true)
              (sym b.1)
              (level_follows (agree_within d types false) (agree_within d types true) n here.0 here.1 t u (omega arith)
              (omega arith) a.0 b.0 a.1 b.1 (trees_are t u a.0 b.0 a.1 b.1 e)))),
          (λ t u lt lu mt mu e. let a = below_get types t mt in let b = below_get types u mu in
              loose_follows (agree_within d types false) (agree_within d types true) n here.0 here.1 more.1 t u
              (omega arith) (omega arith) a.0 b.0 a.1 b.1 (trees_are t u a.0 b.0 a.1 b.1 e) (behind a.0) (behind b.0)),
        )
      where
        trees_are : (t u : ℕ) (a b : CType) → slice_get types t ≡ Some a → slice_get types u ≡ Some b →
            agrees t u ≡ true → trees.compatible (type_from a T) (type_from b T) ≡ true
        trees_are t u a b x y e = subst (λ z. trees.compatible (type_from a T) z ≡ true) (made u b y)
            (subst (λ z. trees.compatible z (T u) ≡ true) (made t a x) e)

    compatible_follows : (t u : ℕ) → t < many → u < many → agrees t u ≡ true → compatible types t u ≡ true
    compatible_follows t u lt lu e = (all_levels many many (omega arith)).0 t u lt lu lt lu e

    -- ---- calls

    pub calls_fit : CallsFit p
    calls_fit = record {
      compatibles = λ f t d e lt h. mapped (λ z. compatible types t z.of) p.funs f d e
          ∙ compatible_follows t d.of lt (o.funs f d e).0 h;
      signatures = λ f t h. let d = found (λ z. compatible types t z.of) p.funs f h in
          ap (signature_of_def p) d.1 ∙ sym (same_types many false t d.0.of d.2).1;
    }
      where
        mapped : (g : FunDef → Bool) (fs : List FunDef) (i : ℕ) (d : FunDef) → slice_get fs i ≡ Some d →
            slice_index_or (map g fs) i false ≡ g d
        mapped g [] i d e = absurd cc
        mapped g (f ∷ fs) zero d e = ap g (same_some f d e)
        mapped g (f ∷ fs) (suc i) d e = mapped g fs i d e

        found : (g : FunDef → Bool) (fs : List FunDef) (i : ℕ) → slice_index_or (map g fs) i false ≡ true →
            (d : FunDef) × (slice_get fs i ≡ Some d) × (g d ≡ true)
        found g [] i h = absurd cc
        found g (f ∷ fs) zero h = (f, refl, h)
        found g (f ∷ fs) (suc i) h = found g fs i h

pub sound_calls_fit : SoundCallsFit
sound_calls_fit p sound =
    let s = sound.types.types in
    calls_fit p s.ordered s.program s.shows
