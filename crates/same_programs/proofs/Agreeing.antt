-- Whether types are compatible is the same at each number that stands for them.
use Rattle.std.proofs.Common.{◌≡◌, ℕ, zero, suc, ◌<◌, ◌≤◌, Bool, true, false, List, [], ◌∷◌, length, get_or, map}
use Rattle.std.proofs.Common.{Option, Some, None, refl, sym, ap, ◌∙◌, arith}
use Rattle.std.specs.Prelude.{slice_get, ◌==◌, ◌&&◌}
use Rattle.std.proofs.lemmas.Option.{slice_get-get_or, slice_get_within}
use Rattle.std.proofs.lemmas.Bool.{eqb-true}
use Rattle.c_tree.specs.declared.syntax.RecordKind.{RecordKind}
use Rattle.c_tree.specs.declared.syntax.RecordKind.TheVariants.{Struct, Union}
use Rattle.c_tree.specs.declared.typed.CType.{CType}
use Rattle.c_tree.specs.declared.typed.CType.TheVariants as ctypes
use Rattle.c_tree.specs.declared.typed.Member.{Member}
use Rattle.c_tree.specs.declared.typed.Typed.{Typed}
use Rattle.c_tree.specs.Types.{Ty}
use Rattle.c_tree.specs.Terms.{Tag, Program}
use Rattle.c_tree.specs.Views.{tys, type_from, types_of, type_at, Shows, IsOrdered}
use Rattle.cheri_c_sem.specs.Compatible.{lengths_agree, all_agree, agree_of, agree_within, compatible}
use Rattle.same_programs.specs.Types.{all_types_agree, types_agree, tree_agree}
use Rattle.same_programs.proofs.Nodes.{type_is}
use Rattle.same_programs.proofs.Types.{bare_is}

module _ (p : Typed) (o : IsOrdered p) (q : Program) (s : Shows p q) where
  abbrev ts : List Ty
  ts = types_of p.types

  abbrev go : ℕ → Ty
  go = type_at ts

  -- agreement of numbers below k with any types of the list is that of what they stand for
  abbrev Same : ℕ → (ℕ → ℕ → Bool) → (Ty → Ty → Bool) → Type 0
  Same k f g = (t u : ℕ) → t < k → t < length p.types → u < length p.types → f t u ≡ g (go t) (go u)

  all_same : (k n : ℕ) (f : ℕ → ℕ → Bool) (g : Ty → Ty → Bool) (xs ys : List ℕ) → Same k f g → k < length p.types →
      n < length p.types → ((j i : ℕ) → slice_get xs j ≡ Some i → i < k) →
      ((j i : ℕ) → slice_get ys j ≡ Some i → i < n) →
      all_agree f xs ys ≡ all_types_agree g (tys (map go xs)) (tys (map go ys))
  all_same k n f g [] [] h there m b c = refl
  all_same k n f g [] (y ∷ ys) h there m b c = refl
  all_same k n f g (x ∷ xs) [] h there m b c = refl
  all_same k n f g (x ∷ xs) (y ∷ ys) h there m b c =
      let l = b 0 x refl in
      let r = c 0 y refl in
      ap (λ z. z && all_agree f xs ys) (h x y (omega arith) (omega arith) (omega arith))
      ∙ ap (λ z. g (go x) (go y) && z) (all_same k n f g xs ys h there m (λ j. b (suc j)) (λ j. c (suc j)))

  kind_of_tag : Option Tag → RecordKind
  kind_of_tag None = Struct
  kind_of_tag (Some t) = t.kind

  unequal : (m n : ℕ) → (m ≡ n → ⊥) → false ≡ (m == n)
  unequal m n h = by (m == n) refl
    where
      by : (b : Bool) → (m == n) ≡ b → false ≡ b
      by false e = refl
      by true e = absurd (h (eqb-true m n e))

  -- a tag is not that of a struct and of a union
  apart : (k n tag tag' : ℕ) (ms ms' : List Member) → slice_get p.types k ≡ Some (ctypes.Struct tag ms) →
      slice_get p.types n ≡ Some (ctypes.Union tag' ms') → tag ≡ tag' → ⊥
  unfolding kind_of_tag
  apart k n tag tag' ms ms' e f z =
      let a = ap kind_of_tag (s.tags k (ctypes.Struct tag ms) e) in
      let c = ap kind_of_tag (s.tags n (ctypes.Union tag' ms') f) in
      let same : kind_of_tag (slice_get q.tags tag) ≡ kind_of_tag (slice_get q.tags tag') =
      ap (λ m. kind_of_tag (slice_get q.tags m)) z in
      let w : Struct ≡ Union = sym a ∙ same ∙ c in
      absurd cc

  level : (k n : ℕ) (f f' : ℕ → ℕ → Bool) (g g' : Ty → Ty → Bool) (c c' : CType) → Same k f g → Same k f' g' →
      slice_get p.types k ≡ Some c → slice_get p.types n ≡ Some c' → k < length p.types →
      n < length p.types → agree_of f f' (Some c) (Some c') ≡ types_agree g g' (type_from c go) (type_from c' go)
  level k n f f' g g' (ctypes.Pointer t) (ctypes.Pointer u) h h' e e' there m =
      let a : t < k = o.types k (ctypes.Pointer t) e in
      let b : u < n = o.types n (ctypes.Pointer u) e' in
      h t u (omega arith) (omega arith) (omega arith)
  level k n f f' g g' (ctypes.Array t x) (ctypes.Array u y) h h' e e' there m =
      let a : t < k = o.types k (ctypes.Array t x) e in
      let b : u < n = o.types n (ctypes.Array u y) e' in
      ap (λ z. z && lengths_agree x y) (h t u (omega arith) (omega arith) (omega arith))
  level k n f f' g g' (ctypes.Const t) (ctypes.Const u) h h' e e' there m =
      let a : t < k = o.types k (ctypes.Const t) e in
      let b : u < n = o.types n (ctypes.Const u) e' in
      h t u (omega arith) (omega arith) (omega arith)
  level k n f f' g g' (ctypes.Function t ps) (ctypes.Function u qs) h h' e e' there m =
      let a = o.types k (ctypes.Function t ps) e in
      let b = o.types n (ctypes.Function u qs) e' in
      let t_before : t < k = a.0 in
      let u_before : u < n = b.0 in
      ap (λ z. z && all_agree f' ps qs) (h t u (omega arith) (omega arith) (omega arith))
      ∙ ap (λ z. g (go t) (go u) && z) (all_same k n f' g' ps qs h' there m a.1 b.1)
  level k n f f' g g' (ctypes.Struct tag ms) (ctypes.Union tag' ms') h h' e e' there m =
      unequal tag tag' (apart k n tag tag' ms ms' e e')
  level k n f f' g g' (ctypes.Union tag ms) (ctypes.Struct tag' ms') h h' e e' there m =
      unequal tag tag' (λ z. apart n k tag' tag ms' ms e' e (sym z))
  level k n f f' g g' ctypes.Void ctypes.Void h h' e e' there m = refl
  level k n f f' g g' (ctypes.Int x y) (ctypes.Int x' y') h h' e e' there m = refl
  level k n f f' g g' (ctypes.Cap x) (ctypes.Cap x') h h' e e' there m = refl
  level k n f f' g g' (ctypes.Struct x ms) (ctypes.Struct x' ms') h h' e e' there m = refl
  level k n f f' g g' (ctypes.Struct x ms) (ctypes.Incomplete x') h h' e e' there m = refl
  level k n f f' g g' (ctypes.Union x ms) (ctypes.Union x' ms') h h' e e' there m = refl
  level k n f f' g g' (ctypes.Union x ms) (ctypes.Incomplete x') h h' e e' there m = refl
  level k n f f' g g' (ctypes.Incomplete x) (ctypes.Struct x' ms') h h' e e' there m = refl
  level k n f f' g g' (ctypes.Incomplete x) (ctypes.Union x' ms') h h' e e' there m = refl
  level k n f f' g g' (ctypes.Incomplete x) (ctypes.Incomplete x') h h' e e' there m = refl
  level k n f f' g g' c c' h h' e e' there m = refl

  within : (d e : ℕ) (loose : Bool) (t u : ℕ) → t < d → t < e → t < length p.types → u < length p.types →
      agree_within d p.types loose t u ≡ tree_agree e loose (go t) (go u)
  unfolding agree_within tree_agree
  within zero e loose t u lt le there m = absurd (omega arith)
  within (suc d) zero loose t u lt le there m = absurd (omega arith)
  within (suc d) (suc e) true t u lt le there m =
      let b = bare_is p o t there in
      let c = bare_is p o u m in
      let here = slice_get_within p.types b.number b.type b.there in
      let other = slice_get_within p.types c.number c.type c.there in
      rw (b.is, b.tree, c.is, c.tree) (level b.number c.number (agree_within d p.types false)
      (agree_within d p.types true) (tree_agree e false) (tree_agree e true) b.type c.type
      (λ x y l. within d e false x y (omega (arith, b.no_later)) (omega (arith, b.no_later)))
      (λ x y l. within d e true x y (omega (arith, b.no_later)) (omega (arith, b.no_later)))
      b.there c.there here other)
  within (suc d) (suc e) false t u lt le there m =
      let c = get_or p.types t ctypes.Void in
      let g : slice_get p.types t ≡ Some c = slice_get-get_or p.types t ctypes.Void there in
      let c' = get_or p.types u ctypes.Void in
      let g' : slice_get p.types u ≡ Some c' = slice_get-get_or p.types u ctypes.Void m in
      rw (g, g', type_is p o t c g, type_is p o u c' g') (level t u (agree_within d p.types false)
      (agree_within d p.types true) (tree_agree e false) (tree_agree e true) c c'
      (λ x y l. within d e false x y (omega arith) (omega arith))
      (λ x y l. within d e true x y (omega arith) (omega arith)) g g' there m)

  pub compatible_is : (d : ℕ) → length p.types ≤ d → (t u : ℕ) → t < length p.types → u < length p.types →
      compatible p.types t u ≡ tree_agree d false (go t) (go u)
  compatible_is d deep t u there m = within (length p.types) d false t u there (omega arith) there m
