-- What functions take and give, by their types and by their definitions.
use Rattle.std.proofs.Common.{◌≡◌, ℕ, zero, suc, ◌+◌, ◌<◌, true, List, [], ◌∷◌, length, map, get_or, Option, Some, None}
use Rattle.std.proofs.Common.{refl, sym, ap, subst, ◌∙◌, arith}
use Rattle.std.specs.Prelude.{slice_get}
use Rattle.std.proofs.lemmas.List.{length-map}
use Rattle.std.proofs.lemmas.Option.{same_Some, slice_get-get_or}
use Rattle.c_tree.specs.Layout.{bare, bare_of, bare_within}
use Rattle.c_tree.specs.Types as ty
use Rattle.c_tree.specs.Types.{Ty, Tys, no_types, also, count, adjusted}
use Rattle.c_tree.specs.Typing.{Sound}
use Rattle.c_tree.specs.Views.{type_from, tys, IsOrdered}
use Rattle.c_tree.specs.WellTyped.{type_in, ParametersFit, WellTyped}
use Rattle.c_tree.specs.declared.typed.CType.{CType}
use Rattle.c_tree.specs.declared.typed.CType.TheVariants as types
use Rattle.c_tree.specs.declared.typed.FunDef.{FunDef}
use Rattle.c_tree.specs.declared.typed.Typed.{Typed}
use Rattle.c_tree.specs.declared.typed.VarDef.{VarDef}
use Rattle.c_tree.proofs.Forest.{forest_reads}
use Rattle.typing_laws.proofs.Sound.{well_typed}
use Rattle.typing_laws.proofs.values.Whole.{parameters_fit}
use Rattle.cheri_c_sem.specs.Kinds.{Kind}
use Rattle.cheri_c_sem.specs.Types.{scalar_of}
use Rattle.tac_ir.specs.Meaning.{kinds_of}
use Rattle.tac_ir.specs.WellFormed.{Signature, begins_with, int_result, kind_or_int, signature_by, signature_of}
use Rattle.tac_ir.specs.WellFormed.{signature_of_def, signature_of_function, type_of_param, param_kinds, is_well_formed}
use Rattle.tac_ir.specs.WellFormed.{functions_fit}
use Rattle.tac_ir.specs.declared.code.Tac.{Tac}
use Rattle.tac_ir.specs.declared.code.TacFun.{TacFun}
use Rattle.lower_forms.specs.Forms.{MainGives}
use Rattle.lower_forms.specs.Laws.{ParametersAreTaken, MainGivesInt}
use Rattle.lower_forms.proofs.Scalars.{kind_as, kind_is, parameter_kind}
use Rattle.lower_forms.proofs.Naming.{functions_at, function_there, parts_of}

next : (i k : ℕ) → i + suc k ≡ i + 1 + k
next i k = omega arith

none_before : (k : ℕ) → 0 + k ≡ k
none_before k = omega arith

map_same : (f g : ℕ → Ty) (xs : List ℕ) → ((j a : ℕ) → slice_get xs j ≡ Some a → f a ≡ g a) → map f xs ≡ map g xs
map_same f g [] h = refl
map_same f g (x ∷ xs) h =
    ap (λ z. z ∷ map f xs) (h 0 x refl) ∙ ap (λ z. g x ∷ z) (map_same f g xs (λ j a e. h (suc j) a e))

counted : (f : ℕ → Ty) (qs : List ℕ) → count (tys (map f qs)) ≡ length qs
counted f [] = refl
counted f (q ∷ qs) = omega (arith, counted f qs)

function_parts : (r s : Ty) (ps qs : Tys) → ty.Function r ps ≡ ty.Function s qs → (r ≡ s) × (ps ≡ qs)
function_parts r s ps qs e = (cc, cc)

-- the numbers of what a function's type names
record IsFunction (p : Typed) (t : ℕ) (r : Ty) (ps : Tys) : Type 0 where
  result : ℕ
  params : List ℕ
  there : bare p.types t ≡ Some (types.Function result params)
  result_there : result < length p.types
  params_there : (j q : ℕ) → slice_get params j ≡ Some q → q < length p.types
  gives : type_in p result ≡ r
  takes : tys (map (type_in p) params) ≡ ps

module _ (p : Typed) (o : IsOrdered p) where
  abbrev kind_at : ℕ → Kind
  kind_at t = kind_or_int (scalar_of (bare p.types t))

  bare_by : (d t : ℕ) (c : CType) → 0 < d → slice_get p.types t ≡ Some c →
      ((go : ℕ → Option CType) → bare_of (Some c) go ≡ Some c) → bare_within d p.types t ≡ Some c
  unfolding bare_within
  bare_by zero t c lt h plain = absurd (omega (arith, lt))
  bare_by (suc d) t c lt h plain = ap (λ z. bare_of z (bare_within d p.types)) h ∙ plain (bare_within d p.types)

  function_at : (t : ℕ) (r : Ty) (ps : Tys) → t < length p.types → type_in p t ≡ ty.Function r ps → IsFunction p t r ps
  function_at t r ps lt e =
      let c = get_or p.types t types.Void in
      let h = slice_get-get_or p.types t types.Void lt in
      let n = forest_reads type_from ty.Void p.types t c h in
      by c h (λ j. get_or n.seen j ty.Void) (sym n.is ∙ e) n.before
    where
      by : (c : CType) → slice_get p.types t ≡ Some c → (go : ℕ → Ty) → type_from c go ≡ ty.Function r ps →
          ((j : ℕ) → j < t → go j ≡ type_in p j) → IsFunction p t r ps
      by (types.Function u qs) h go e before =
          let b = o.types t (types.Function u qs) h in
          let parts = function_parts _ r _ ps e in
          record {
            result = u;
            params = qs;
            there = bare_by (length p.types) t (types.Function u qs) (omega (arith, lt)) h (λ go. refl);
            result_there = let l = b.0 in omega (arith, lt, l);
            params_there = λ j q i. let l = b.1 j q i in omega (arith, lt, l);
            gives = sym (before u b.0) ∙ parts.0;
            takes = ap tys (map_same (type_in p) go qs (λ j a i. sym (before a (b.1 j a i)))) ∙ parts.1;
          }
      by c h go e before = absurd cc

  -- ---- parameters

  all_kinds : (d : FunDef) (qs : List ℕ) (vs : List VarDef) (xs : List ℕ) (i : ℕ) →
      ((j q : ℕ) → slice_get qs j ≡ Some q → q < length p.types) → ParametersFit p (tys (map (type_in p) qs)) vs →
      length xs ≡ length qs → ((k : ℕ) → k < length xs → slice_get xs k ≡ Some (i + k)) →
      ((k : ℕ) → slice_get d.vars (i + k) ≡ slice_get vs k) →
      ((k : ℕ) (v : VarDef) → slice_get vs k ≡ Some v → v.of < length p.types) →
      ((k : ℕ) (v : VarDef) → k < length xs → slice_get vs k ≡ Some v → adjusted (type_in p v.of) ≡ type_in p v.of) →
      map kind_at qs ≡ map (λ x. kind_at (type_of_param (slice_get d.vars x))) xs
  all_kinds d [] vs [] i there f e at is typed plain = refl
  all_kinds d [] vs (x ∷ xs) i there f e at is typed plain = absurd (omega (arith, e))
  all_kinds d (q ∷ qs) [] xs i there f e at is typed plain = absurd f
  all_kinds d (q ∷ qs) (v ∷ vs) [] i there f e at is typed plain = absurd (omega (arith, e))
  all_kinds d (q ∷ qs) (v ∷ vs) (x ∷ xs) i there f e at is typed plain =
      let a : x ≡ i + 0 = same_Some x (i + 0) (at 0 (omega arith)) in
      let b : slice_get d.vars x ≡ Some v = ap (slice_get d.vars) a ∙ is 0 in
      let c : kind_at q ≡ kind_at (type_of_param (slice_get d.vars x)) =
      ap kind_or_int (kind_is p o q (there 0 q refl) ∙ parameter_kind (type_in p q) (type_in p v.of) f.0
      (plain 0 v (omega arith) refl) ∙ sym (kind_is p o v.of (typed 0 v refl)))
      ∙ ap (λ o. kind_at (type_of_param o)) (sym b) in
      let r = all_kinds d qs vs xs (i + 1) (λ j q h. there (suc j) q h) f.1 (omega (arith, e))
      (λ k l. at (suc k) (omega (arith, l)) ∙ ap Some (next i k))
      (λ k. ap (slice_get d.vars) (sym (next i k)) ∙ is (suc k)) (λ k v h. typed (suc k) v h)
      (λ k v l h. plain (suc k) v (omega (arith, l)) h) in
      ap (λ z. z ∷ map kind_at qs) c
      ∙ ap (λ z. kind_at (type_of_param (slice_get d.vars x)) ∷ z) r

  -- ---- signatures

  signed : (t : ℕ) (r : Ty) (ps : Tys) (f : IsFunction p t r ps) →
      signature_of p t ≡ Some (record { gives = scalar_of (bare p.types f.result); params = map kind_at f.params })
  signed t r ps f = ap (signature_by p.types) f.there

module _ (p : Typed) (h : Sound p) where
  abbrev w : WellTyped p
  w = well_typed p h

  abbrev o : IsOrdered p
  o = w.ordered

  -- a function by its number, with its signature
  record IsSigned (fun : ℕ) (x : Signature) : Type 0 where
    definition : FunDef
    there : slice_get p.funs fun ≡ Some definition
    params : x.params ≡ param_kinds p definition

  is_signed : (fun : ℕ) (x : Signature) → signature_of_function p fun ≡ Some x → IsSigned fun x
  is_signed fun x e = by (slice_get p.funs fun) refl e
    where
      by : (m : Option FunDef) → slice_get p.funs fun ≡ m → signature_of_def p m ≡ Some x → IsSigned fun x
      by None i e = absurd cc
      by (Some d) i e =
          let fits = w.funs fun d i in
          let f = function_at p o d.of fits.result fits.takes (o.funs fun d i).0 fits.type_is in
          let s = same_Some x _ (sym e ∙ signed p o d.of fits.result fits.takes f) in
          let n : length d.params ≡ length f.params =
          fits.params_count ∙ ap count (sym f.takes) ∙ counted (type_in p) f.params in
          let k = all_kinds p o d f.params d.vars d.params 0 f.params_there
          (subst (λ ts. ParametersFit p ts d.vars) (sym f.takes) fits.params_fit) n
          (λ k l. fits.params_first k l ∙ ap Some (sym (none_before k))) (λ k. ap (slice_get d.vars) (none_before k))
          (λ k v q. o.vars fun k d v i q) (λ k v l q. parameters_fit p h fun d i k v l q) in
          record { definition = d; there = i; params = ap (λ (x : Signature). x.params) s ∙ k }

  -- ---- `main`

  nothing : (qs : List ℕ) → tys (map (type_in p) qs) ≡ no_types → qs ≡ []
  nothing [] e = refl
  nothing (q ∷ qs) e = absurd cc

  main_gives : MainGives p
  main_gives =
      let m = w.main in
      let f = function_at p o m.main.of ty.int no_types (o.funs p.main m.main m.there).0 m.type_is in
      let g = kind_is p o f.result f.result_there ∙ ap kind_as f.gives in
      ap (signature_of_def p) m.there ∙ signed p o m.main.of ty.int no_types f
      ∙ ap (λ z. Some (record { gives = z; params = map (kind_at p o) f.params })) g
      ∙ ap (λ (qs : List ℕ). Some (record { gives = Some int_result; params = map (kind_at p o) qs }))
      (nothing f.params f.takes)

  -- ---- well formed code

  module _ (t : Tac) (formed : functions_fit p p.funs t.funs ≡ true) where
    begins : (fun : ℕ) (x : Signature) → signature_of_function p fun ≡ Some x →
        begins_with (kinds_of (slice_get t.funs fun)) x.params ≡ true
    begins fun x e =
        let s = is_signed fun x e in
        let f = function_there p p.funs t.funs fun s.definition formed s.there in
        let parts = parts_of p s.definition f.0
        (functions_at p p.funs t.funs fun s.definition f.0 formed s.there f.1) in
        ap (λ m. begins_with (kinds_of m) x.params) f.1 ∙ ap (begins_with _) s.params ∙ parts.begins

    counts : (fun : ℕ) (f : TacFun) (x : Signature) → slice_get t.funs fun ≡ Some f →
        signature_of_function p fun ≡ Some x → f.params ≡ length x.params
    counts fun f x at e =
        let s = is_signed fun x e in
        let parts = parts_of p s.definition f (functions_at p p.funs t.funs fun s.definition f formed s.there at) in
        parts.count ∙ sym (ap length s.params ∙ length-map s.definition.params _)

pub parameters_are_taken : ParametersAreTaken
unfolding is_well_formed
parameters_are_taken p h t formed = record {
  begins = begins p h t formed;
  counts = counts p h t formed;
  main_takes = λ f at. counts p h t formed p.main f _ at (main_gives p h);
}

pub main_gives_int : MainGivesInt
main_gives_int p h = main_gives p h
