-- The types of functions, by their numbers and as trees.
use Rattle.std.proofs.Common.{◌≡◌, ℕ, zero, suc, ◌<◌, Bool, true, List, [], ◌∷◌, map, length, get_or, Option, Some}
use Rattle.std.proofs.Common.{None, refl, sym, ap, ◌∙◌, arith}
use Rattle.std.specs.Prelude.{slice_get, ◌==◌, ◌||◌}
use Rattle.std.proofs.lemmas.Option.{slice_get_within}
use Rattle.c_tree.specs.Layout.{bare, bare_of, bare_within}
use Rattle.c_tree.specs.Types as ty
use Rattle.c_tree.specs.Types.{Ty, Tys, no_types, also, Function, Pointer}
use Rattle.c_tree.specs.Views.{type_from, tys, IsOrdered}
use Rattle.c_tree.specs.WellTyped.{type_in}
use Rattle.c_tree.specs.declared.typed.CType.{CType}
use Rattle.c_tree.specs.declared.typed.CType.TheVariants as types
use Rattle.c_tree.specs.declared.typed.FunDef.{FunDef}
use Rattle.c_tree.specs.declared.typed.Typed.{Typed}
use Rattle.c_tree.proofs.Forest.{forest_reads}
use Rattle.cheri_c_sem.specs.Types.{scalar_of}
use Rattle.tac_ir.specs.Effects.{kind_of}
use Rattle.tac_ir.specs.WellFormed.{signature_by, signature_of, signature_of_def, signature_of_function, kind_or_int}
use Rattle.tac_ir.specs.WellFormed.{same_kind, begins_with, param_kinds, type_of_param}
use Rattle.tac_ir.specs.declared.code.TacKind.{TacKind}
use Rattle.tac_lower.specs.Nodes.{kept_as, or_int}
use Rattle.tac_lower.specs.Signed.{given_kind, taken_kinds, signed, signature_as, NamesType, kept_parameter}
use Rattle.tac_lower.specs.Tables.{kept_by, target_by, given_by}
use Rattle.tac_lower.proofs.Nodes.{agree_kept}
use Rattle.tac_lower.proofs.Typings.{kept_is, type_past}
use Rattle.tac_emit.proofs.Instructions.{same_kind_same}
use Rattle.tac_emit.proofs.Wells.{and_both, and_true}

-- ---- kinds

scalar_is : (c : Option CType) → scalar_of c ≡ given_kind (kept_by c)
scalar_is None = refl
scalar_is (Some types.Void) = refl
scalar_is (Some (types.Int k n)) = refl
scalar_is (Some (types.Cap s)) = refl
scalar_is (Some (types.Pointer t)) = refl
scalar_is (Some (types.Array t n)) = refl
scalar_is (Some (types.Struct tag ms)) = refl
scalar_is (Some (types.Union tag ms)) = refl
scalar_is (Some (types.Function t ps)) = refl
scalar_is (Some (types.Const t)) = refl
scalar_is (Some (types.Incomplete tag)) = refl

or_int_is : (k : Option TacKind) → kind_or_int (given_kind k) ≡ kind_of (or_int k)
or_int_is None = refl
or_int_is (Some k) = refl

-- ---- a type by its number

map_same : (f g : ℕ → Ty) (xs : List ℕ) → ((j a : ℕ) → slice_get xs j ≡ Some a → f a ≡ g a) → map f xs ≡ map g xs
map_same f g [] h = refl
map_same f g (x ∷ xs) h =
    ap (λ z. z ∷ map f xs) (h 0 x refl) ∙ ap (λ z. g x ∷ z) (map_same f g xs (λ j a e. h (suc j) a e))

record IsFunction (p : Typed) (t : ℕ) (r : Ty) (ps : Tys) : Type 0 where
  result : ℕ
  params : List ℕ
  there : slice_get p.types t ≡ Some (types.Function result params)
  gives : type_in p result ≡ r
  takes : tys (map (type_in p) params) ≡ ps

record IsPointer (p : Typed) (t : ℕ) (s : Ty) : Type 0 where
  target : ℕ
  there : slice_get p.types t ≡ Some (types.Pointer target)
  points : type_in p target ≡ s

module _ (p : Typed) (o : IsOrdered p) where
  function_at : (t : ℕ) (r : Ty) (ps : Tys) → type_in p t ≡ Function r ps → IsFunction p t r ps
  function_at t r ps e = start (slice_get p.types t) refl
    where
      by : (c : CType) → slice_get p.types t ≡ Some c → (go : ℕ → Ty) → type_from c go ≡ Function r ps →
          ((j : ℕ) → j < t → go j ≡ type_in p j) → IsFunction p t r ps
      by (types.Function u qs) h go e before =
          let b = o.types t (types.Function u qs) h in
          let gives : go u ≡ r = cc in
          let takes : tys (map go qs) ≡ ps = cc in
          record {
            result = u;
            params = qs;
            there = h;
            gives = sym (before u b.0) ∙ gives;
            takes = ap tys (map_same (type_in p) go qs (λ j a g. sym (before a (b.1 j a g)))) ∙ takes;
          }
      by types.Void h go e before = absurd cc
      by (types.Int k n) h go e before = absurd cc
      by (types.Cap s) h go e before = absurd cc
      by (types.Pointer u) h go e before = absurd cc
      by (types.Array u n) h go e before = absurd cc
      by (types.Struct tag ms) h go e before = absurd cc
      by (types.Union tag ms) h go e before = absurd cc
      by (types.Const u) h go e before = absurd cc
      by (types.Incomplete tag) h go e before = absurd cc

      start : (c : Option CType) → slice_get p.types t ≡ c → IsFunction p t r ps
      start None h = absurd (let q : ty.Void ≡ Function r ps = sym (type_past p o t h) ∙ e in cc)
      start (Some c) h = let q = forest_reads type_from ty.Void p.types t c h in
          by c h (λ j. get_or q.seen j ty.Void) (sym q.is ∙ e) q.before

  pointer_at : (t : ℕ) (s : Ty) → type_in p t ≡ Pointer s → IsPointer p t s
  pointer_at t s e = start (slice_get p.types t) refl
    where
      by : (c : CType) → slice_get p.types t ≡ Some c → (go : ℕ → Ty) → type_from c go ≡ Pointer s →
          ((j : ℕ) → j < t → go j ≡ type_in p j) → IsPointer p t s
      by (types.Pointer u) h go e before =
          let is : go u ≡ s = cc in
          record { target = u; there = h; points = sym (before u (o.types t (types.Pointer u) h)) ∙ is }
      by types.Void h go e before = absurd cc
      by (types.Int k n) h go e before = absurd cc
      by (types.Cap s) h go e before = absurd cc
      by (types.Function u qs) h go e before = absurd cc
      by (types.Array u n) h go e before = absurd cc
      by (types.Struct tag ms) h go e before = absurd cc
      by (types.Union tag ms) h go e before = absurd cc
      by (types.Const u) h go e before = absurd cc
      by (types.Incomplete tag) h go e before = absurd cc

      start : (c : Option CType) → slice_get p.types t ≡ c → IsPointer p t s
      start None h = absurd (let q : ty.Void ≡ Pointer s = sym (type_past p o t h) ∙ e in cc)
      start (Some c) h = let q = forest_reads type_from ty.Void p.types t c h in
          by c h (λ j. get_or q.seen j ty.Void) (sym q.is ∙ e) q.before

  bare_by : (d t : ℕ) (c : CType) → 0 < d → slice_get p.types t ≡ Some c →
      ((go : ℕ → Option CType) → bare_of (Some c) go ≡ Some c) → bare_within d p.types t ≡ Some c
  unfolding bare_within
  bare_by zero t c lt h plain = absurd (omega arith)
  bare_by (suc d) t c lt h plain = ap (λ z. bare_of z (bare_within d p.types)) h ∙ plain (bare_within d p.types)

  bare_is : (t : ℕ) (c : CType) → slice_get p.types t ≡ Some c →
      ((go : ℕ → Option CType) → bare_of (Some c) go ≡ Some c) → bare p.types t ≡ Some c
  bare_is t c h plain = let lt : t < length p.types = slice_get_within p.types t c h in
      bare_by (length p.types) t c (omega arith) h plain

  -- ---- what a function gives and takes

  pub pointed : (t : ℕ) (s : Ty) → type_in p t ≡ Pointer s → NamesType p (target_by (bare p.types t)) s
  pointed t s e =
      let w = pointer_at t s e in
      record {
        type = w.target;
        is = ap target_by (bare_is t (types.Pointer w.target) w.there (λ go. refl));
        names = w.points;
      }

  pub given : (t : ℕ) (r : Ty) (ps : Tys) → type_in p t ≡ Function r ps → NamesType p (given_by (bare p.types t)) r
  given t r ps e =
      let w = function_at t r ps e in
      record {
        type = w.result;
        is = ap given_by (bare_is t (types.Function w.result w.params) w.there (λ go. refl));
        names = w.gives;
      }

  kept_at : (t : ℕ) → scalar_of (bare p.types t) ≡ given_kind (kept_as (type_in p t))
  kept_at t = scalar_is (bare p.types t) ∙ ap given_kind (kept_is p o t)

  params_at : (qs : List ℕ) →
      map (λ q. kind_or_int (scalar_of (bare p.types q))) qs ≡ taken_kinds (tys (map (type_in p) qs))
  params_at [] = refl
  params_at (q ∷ qs) =
      ap (λ z. z ∷ map (λ q. kind_or_int (scalar_of (bare p.types q))) qs)
      (ap kind_or_int (kept_at q) ∙ or_int_is (kept_as (type_in p q)))
      ∙ ap (λ z. kind_of (or_int (kept_as (type_in p q))) ∷ z) (params_at qs)

  pub signature_is : (t : ℕ) (r : Ty) (ps : Tys) → type_in p t ≡ Function r ps →
      signature_of p t ≡ Some (signature_as r ps)
  signature_is t r ps e =
      let w = function_at t r ps e in
      let gives : scalar_of (bare p.types w.result) ≡ given_kind (kept_as r) =
      kept_at w.result ∙ ap (λ z. given_kind (kept_as z)) w.gives in
      let takes : map (λ q. kind_or_int (scalar_of (bare p.types q))) w.params ≡ taken_kinds ps =
      params_at w.params ∙ ap taken_kinds w.takes in
      ap (signature_by p.types) (bare_is t (types.Function w.result w.params) w.there (λ go. refl))
      ∙ ap (λ z. Some (signed z (map (λ q. kind_or_int (scalar_of (bare p.types q))) w.params))) gives
      ∙ ap (λ z. Some (signed (given_kind (kept_as r)) z)) takes

  -- ---- types that agree

  agree_taken : (lengths : ℕ → ℕ → Bool) (ps qs : Tys) → ty.all_agree lengths ps qs ≡ true →
      taken_kinds ps ≡ taken_kinds qs
  agree_taken l no_types no_types h = refl
  agree_taken l (also s ss) (also t ts) h =
      let b = and_both (ty.agree l s t) (ty.all_agree l ss ts) h in
      ap (λ z. kind_of (or_int z) ∷ taken_kinds ss) (agree_kept l s t b.0)
      ∙ ap (λ z. kind_of (or_int (kept_as t)) ∷ z) (agree_taken l ss ts b.1)
  agree_taken l ps qs h = absurd cc

  agree_signed : (lengths : ℕ → ℕ → Bool) (r : Ty) (ps : Tys) (t : ℕ) (s : Ty) → type_in p t ≡ s →
      ty.agree lengths (Function r ps) s ≡ true → signature_of p t ≡ Some (signature_as r ps)
  agree_signed l r ps t (Function s qs) e h =
      let b = and_both (ty.agree l r s) (ty.all_agree l ps qs) h in
      signature_is t s qs e ∙ ap (λ z. Some (signed (given_kind z) (taken_kinds qs))) (sym (agree_kept l r s b.0))
      ∙ ap (λ z. Some (signed (given_kind (kept_as r)) z)) (sym (agree_taken l ps qs b.1))
  agree_signed l r ps t ty.Void e h = absurd cc
  agree_signed l r ps t (ty.Int j n) e h = absurd cc
  agree_signed l r ps t (ty.Cap s) e h = absurd cc
  agree_signed l r ps t (ty.Pointer s) e h = absurd cc
  agree_signed l r ps t (ty.Array s n) e h = absurd cc
  agree_signed l r ps t (ty.Tagged n) e h = absurd cc
  agree_signed l r ps t (ty.Const s) e h = absurd cc

  -- a function that is named, by a type that agrees with its own
  pub named_signature : (n : ℕ) (d : FunDef) (r : Ty) (ps : Tys) → slice_get p.funs n ≡ Some d →
      ty.compatible (Function r ps) (type_in p d.of) ≡ true → signature_of_function p n ≡ Some (signature_as r ps)
  named_signature n d r ps h e =
      ap (signature_of_def p) h ∙ agree_signed (λ m n. m == n || m == 0 || n == 0) r ps d.of (type_in p d.of) refl e

  -- ---- parameters

  param_at : (t : ℕ) → kind_or_int (scalar_of (bare p.types t)) ≡ kind_of (or_int (kept_as (type_in p t)))
  param_at t = ap kind_or_int (kept_at t) ∙ or_int_is (kept_as (type_in p t))

  begins_by : (d : FunDef) (xs : List ℕ) (ks : List TacKind) →
      ((j x : ℕ) → slice_get xs j ≡ Some x → slice_get ks j ≡ Some (kept_parameter p d x))
      → begins_with ks (map (λ x. kind_or_int (scalar_of (bare p.types (type_of_param (slice_get d.vars x))))) xs)
      ≡ true
  begins_by d [] [] h = refl
  begins_by d [] (k ∷ ks) h = refl
  begins_by d (x ∷ xs) [] h = absurd (let q : None ≡ Some (kept_parameter p d x) = h 0 x refl in cc)
  begins_by d (x ∷ xs) (k ∷ ks) h =
      let t = type_of_param (slice_get d.vars x) in
      let e : k ≡ kept_parameter p d x = some_kind k (kept_parameter p d x) (h 0 x refl) in
      and_true (same_kind (kind_of k) (kind_or_int (scalar_of (bare p.types t))))
      (begins_with ks (map (λ x. kind_or_int (scalar_of (bare p.types (type_of_param (slice_get d.vars x))))) xs))
      (ap (λ z. same_kind z (kind_or_int (scalar_of (bare p.types t)))) (ap kind_of e)
      ∙ ap (λ z. same_kind (kind_of (kept_parameter p d x)) z) (param_at t)
      ∙ same_kind_same (kind_of (kept_parameter p d x)))
      (begins_by d xs ks (λ j y f. h (suc j) y f))
    where
      some_kind : (a b : TacKind) → Some a ≡ Some b → a ≡ b
      some_kind a b q = cc

  -- temps that have the parameters' kinds in their order are the parameters
  pub begins : (d : FunDef) (ks : List TacKind) →
      ((j x : ℕ) → slice_get d.params j ≡ Some x → slice_get ks j ≡ Some (kept_parameter p d x)) →
      begins_with ks (param_kinds p d) ≡ true
  begins d ks h = begins_by d d.params ks h
