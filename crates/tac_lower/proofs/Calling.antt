-- Calls: the function that is named, the arguments so far, and intrinsics.
use Rattle.std.proofs.Common.{◌≡◌, ℕ, suc, ◌+◌, ◌-◌, ◌*◌, ◌<◌, ◌≤◌, ⊎_elim, Bool, true, false, List, [], ◌∷◌}
use Rattle.std.proofs.Common.{◌++◌, map, length, take, get_or, Option, Some, None, IfSome, refl, sym, ap, ◌∙◌, subst}
use Rattle.std.proofs.Common.{arith, unwrap_or, length-append}
use Rattle.std.specs.Prelude.{slice_get, ◌==◌, ◌||◌}
use Rattle.std.proofs.lemmas.List.{map-append, take_more}
use Rattle.std.proofs.lemmas.List.Sums.{sum_by-append, sum_by-cons, sum_by-take-le}
use Rattle.ck_int.specs.declared.kinds.IntKind.TheVariants as int
use Rattle.c_tree.specs.declared.typed.Expr.{Expr}
use Rattle.c_tree.specs.declared.typed.ExprKind.TheVariants as exprs
use Rattle.c_tree.specs.declared.typed.FunDef.{FunDef}
use Rattle.c_tree.specs.declared.typed.Typed.{Typed}
use Rattle.c_tree.specs.Expressions.{given_type}
use Rattle.c_tree.specs.Libraries.{Asked, Given}
use Rattle.c_tree.specs.Terms.{terms, type_of}
use Rattle.c_tree.specs.Types as ty
use Rattle.c_tree.specs.Types.{Ty, Tys, Function, Pointer}
use Rattle.c_tree.specs.WellTyped.{type_in, AllAskedFit, list_of, Decays, holds}
use Rattle.tac_ir.specs.Costs.{places_cost, service_cost}
use Rattle.tac_ir.specs.declared.code.LibOp.{LibOp}
use Rattle.tac_ir.specs.declared.code.LibOp.TheVariants as lib
use Rattle.tac_ir.specs.WellFormed.{signature_of, signature_of_function}
use Rattle.tac_ir.specs.declared.code.TacKind.{TacKind}
use Rattle.tac_ir.specs.declared.code.TacKind.TheVariants as kinds
use Rattle.tac_lower.specs.declared.calls.Intrinsic.{Intrinsic}
use Rattle.tac_lower.specs.declared.calls.Intrinsic.TheVariants as intrinsics
use Rattle.tac_lower.specs.declared.calls.Service.TheVariants as services
use Rattle.tac_lower.specs.declared.context.Home.{Home}
use Rattle.tac_emit.specs.declared.emitter.Emitter.{Emitter}
use Rattle.tac_lower.specs.declared.types.TypeFacts.{TypeFacts}
use Rattle.tac_lower.specs.Copied.{copies_in, all_copies_in}
use Rattle.tac_emit.specs.Emitted.{HasKind, HasCapability, HasRoom}
use Rattle.tac_lower.specs.Nodes.{expression, kind_in, scalar_in, kept_as, or_int, weight_in, weights_in, IsTyped}
use Rattle.tac_lower.specs.Scenes.{Ready, Scene, Lowered, frame_of}
use Rattle.tac_lower.specs.Services.{ServiceAsks, IntrinsicFits}
use Rattle.tac_lower.specs.Spent.{Spends, SpendsOperand}
use Rattle.tac_lower.specs.Signed.{HaveKinds, ResultFits, NamesType, signature_as}
use Rattle.tac_lower.proofs.Nodes.{decays, decay_node, fun_node}
use Rattle.tac_lower.proofs.Scening.{kept_lowered, lowered_none, lowered_then}
use Rattle.tac_lower.proofs.Services.{work_fits, address_fits, bounds_fit}
use Rattle.tac_lower.proofs.Spending.{nothing, after, within}
use Rattle.tac_lower.proofs.Steps.{heavy}
use Rattle.tac_lower.proofs.Signatures.{named_signature, signature_is}
use Rattle.tac_emit.proofs.Wells.{as_int}

-- ---- the function that is named

pointer_same : (s t : Ty) → Pointer s ≡ Pointer t → s ≡ t
pointer_same s t e = cc

-- an array agrees with no function
pub no_array : (lengths : ℕ → ℕ → Bool) (u t : Ty) (m : ℕ) → ty.is_function t ≡ true →
    ty.agree lengths (ty.Array u m) t ≡ true → ⊥
no_array l u (Function r ps) m f h = cc
no_array l u ty.Void m f h = cc
no_array l u (ty.Int j n) m f h = cc
no_array l u (ty.Cap s) m f h = cc
no_array l u (Pointer s) m f h = cc
no_array l u (ty.Array s n) m f h = cc
no_array l u (ty.Tagged n) m f h = cc
no_array l u (ty.Const s) m f h = cc

module _ (p : Typed) (d : FunDef) (types : List TypeFacts) (ready : Ready p types) where
  -- where a function's name decays to a pointer to a function, the function has that signature
  named_by : (n : ℕ) (g : FunDef) (s of : Ty) (r : Ty) (ps : Tys) → slice_get p.funs n ≡ Some g →
      ty.compatible s (type_in p g.of) ≡ true → Decays s of → of ≡ Pointer (Function r ps)
      → signature_of_function p n ≡ Some (signature_as r ps)
  named_by n g s of r ps there agrees w is =
      ⊎_elim (λ (x : (u : Ty) × (m : ℕ) × (s ≡ ty.Array u m) × (of ≡ Pointer u)).
      absurd (no_array (λ m n. m == n || m == 0 || n == 0) x.0 (type_in p g.of) x.1 (ready.funs n g there)
      (subst (λ z. ty.compatible z (type_in p g.of) ≡ true) x.2 agrees)))
      (λ (x : holds (ty.is_function s) × (of ≡ Pointer s)).
      named_signature p ready.ordered n g r ps there
      (subst (λ z. ty.compatible z (type_in p g.of) ≡ true) (pointer_same s (Function r ps) (sym x.1 ∙ is)) agrees))
      w

  pub named : (f a n : ℕ) (e x : Expr) (r : Ty) (ps : Tys) → IsTyped (frame_of p d) f → slice_get p.exprs f ≡ Some e →
      e.kind ≡ exprs.Decay a → slice_get p.exprs a ≡ Some x → x.kind ≡ exprs.Fun n
      → type_of (expression p f) ≡ Pointer (Function r ps) → signature_of_function p n ≡ Some (signature_as r ps)
  named f a n e x r ps w at is there kind of =
      let o = ready.ordered in
      let node = decay_node (frame_of p d) o f e at w a is in
      let fun = fun_node (frame_of p d) o a x there node.operands.operand n kind in
      named_by n fun.fun (type_of (expression p a)) (type_of (expression p f)) r ps fun.there fun.agrees
      (decays (frame_of p d) o f e at w a is) of

-- what is called is in a temp with a pointer
pub called_value : (p : Typed) (f : ℕ) {e : Emitter} {t : ℕ} {r : Ty} {ps : Tys} →
    type_of (expression p f) ≡ Pointer (Function r ps) → HasKind e t (kind_in p f) → HasCapability e t
called_value p f {e = e} {t = t} of h =
    record { kind = kinds.Cap false; has = subst (λ z. HasKind e t z) (ap (λ z. or_int (kept_as z)) of) h; is = refl }

-- a function's type, by its number
pub named_type : {p : Typed} {types : List TypeFacts} {target : Option ℕ} {r : Ty} {ps : Tys} {t : ℕ} → Ready p types →
    NamesType p target (Function r ps) → t ≡ unwrap_or target 0
    → signature_of p t ≡ Some (signature_as r ps)
named_type {p = p} {r = r} {ps = ps} ready n q =
    subst (λ z. signature_of p z ≡ Some (signature_as r ps)) (sym (q ∙ ap (λ z. unwrap_or z 0) n.is))
    (signature_is p ready.ordered n.type r ps n.names)

-- ---- intrinsics

module _ (p : Typed) (e : Emitter) where
  first_kind : (args ts : List ℕ) (a : ℕ) (kind : TacKind) → HaveKinds e ts (map (kind_in p) args) →
      a ≡ unwrap_or (slice_get ts 0) 0 → (k : TacKind) → HasKind e a k
      → ((x : ℕ) → slice_get args 0 ≡ Some x → kind ≡ kind_in p x) → (args ≡ [] → ⊥) → HasKind e a kind
  first_kind [] ts a kind h q k w f n = absurd (n refl)
  first_kind (x ∷ args) [] a kind h q k w f n = absurd h
  first_kind (x ∷ args) (t ∷ ts) a kind h q k w f n =
      subst (λ z. HasKind e z kind) (sym q) (subst (λ z. HasKind e t z) (sym (f x refl)) h.0)

  asks_one : (takes : List Asked) (gives : Given) (args : List ℕ) →
      ServiceAsks (services.Intrinsic intrinsics.Address) takes gives →
      AllAskedFit takes (terms (map (expression p) args)) → args ≡ [] → ⊥
  asks_one takes gives args s h n =
      subst (λ z. AllAskedFit z (terms (map (expression p) []))) s.0
      (subst (λ z. AllAskedFit takes (terms (map (expression p) z))) n h)

  module _ (takes : List Asked) (gives : Given) (args ts : List ℕ) (k a : ℕ) (b : Option ℕ) (kind : TacKind)
      (h : AllAskedFit takes (terms (map (expression p) args)))
      (q : type_of (expression p k) ≡ given_type gives (list_of (terms (map (expression p) args))))
      (g : HaveKinds e ts (map (kind_in p) args)) (a_is : a ≡ unwrap_or (slice_get ts 0) 0)
      (b_is : b ≡ slice_get ts 1) (kind_is : (x : ℕ) → slice_get args 0 ≡ Some x → kind ≡ kind_in p x) where
    by_kind : (i : Intrinsic) (to : ℕ) → ServiceAsks (services.Intrinsic i) takes gives → HasKind e to (kind_in p k) →
        IntrinsicFits e i kind to a b
    by_kind intrinsics.Address to s r =
        let w = address_fits p e takes gives args ts k to a b h q g r a_is b_is s in
        (first_kind args ts a kind g a_is w.0.kind w.0.has kind_is (asks_one takes gives args s h), w.1)
    by_kind (intrinsics.Bounds exact) to s r =
        let w = bounds_fit p e takes gives args ts k to a b h q g r a_is b_is exact s in
        (w.0, as_int e (unwrap_or b 0) (kinds.Int int.U64) w.1 refl)
    by_kind (intrinsics.Work op) to s r = work_fits p e takes gives args ts k to a b h q g r a_is b_is op s

    result_kind : (to : ℕ) (s : Option TacKind) → ResultFits e (Some to) s → HasKind e to (or_int s)
    result_kind to None r = absurd r
    result_kind to (Some j) r = r

    pub intrinsic_fits : (i : Intrinsic) (to : Option ℕ) → ServiceAsks (services.Intrinsic i) takes gives →
        ResultFits e to (scalar_in p k) → IfSome to (λ t. IntrinsicFits e i kind t a b)
    intrinsic_fits i None s r = tt
    intrinsic_fits i (Some t) s r = by_kind i t s (result_kind t (scalar_in p k) r)

-- ---- the arguments so far

pub have_kept : (a b : Emitter) (ts : List ℕ) (ks : List TacKind) →
    ((t : ℕ) (k : TacKind) → HasKind a t k → HasKind b t k) → HaveKinds a ts ks → HaveKinds b ts ks
have_kept a b [] [] f h = tt
have_kept a b [] (k ∷ ks) f h = absurd h
have_kept a b (t ∷ ts) [] f h = absurd h
have_kept a b (t ∷ ts) (k ∷ ks) f h = (f t k h.0, have_kept a b ts ks f h.1)

pub have_more : (e : Emitter) (ts : List ℕ) (ks : List TacKind) (t : ℕ) (k : TacKind) → HaveKinds e ts ks →
    HasKind e t k → HaveKinds e (ts ++ t ∷ []) (ks ++ k ∷ [])
have_more e [] [] t k h g = (g, tt)
have_more e [] (j ∷ ks) t k h g = absurd h
have_more e (u ∷ ts) [] t k h g = absurd h
have_more e (u ∷ ts) (j ∷ ks) t k h g = (h.0, have_more e ts ks t k h.1 g)

-- so many arguments have their values in temps
pub record ArgumentsTo (fixed : ℕ) (p : Typed) (d : FunDef) (types : List TypeFacts) (homes : List Home)
    (old new : Emitter) (args ts : List ℕ) : Type 0 where
  pub kinds : HaveKinds new ts (map (kind_in p) args)
  pub lowered : Lowered p d types homes old new (4 * weights_in p args)
  pub spends : Spends fixed old new (2 * weights_in p args - length args) (32 * weights_in p args - 21 * length args)
      (all_copies_in p args)

-- each weighs 1 at least
pub weights_heavy : (p : Typed) (args : List ℕ) → length args ≤ weights_in p args
weights_heavy p [] = omega arith
weights_heavy p (x ∷ args) =
    omega (arith, heavy (expression p x), weights_heavy p args, sum_by-cons (λ j. weight_in p j) x args)

pub kinds_count : (p : Typed) (e : Emitter) (ts args : List ℕ) → HaveKinds e ts (map (kind_in p) args) →
    length ts ≡ length args
kinds_count p e [] [] h = refl
kinds_count p e [] (x ∷ args) h = absurd h
kinds_count p e (t ∷ ts) [] h = absurd h
kinds_count p e (t ∷ ts) (x ∷ args) h = ap suc (kinds_count p e ts args h.1)

pub places_small : (n : ℕ) → places_cost n ≤ 6 * n
places_small n = omega arith

pub service_small : (op : LibOp) → service_cost op ≤ 34
service_small lib.PutChar = omega arith
service_small lib.GetChar = omega arith
service_small lib.Malloc = omega arith
service_small lib.Exit = omega arith

module _ {fixed : ℕ} {p : Typed} {d : FunDef} {types : List TypeFacts} {homes : List Home} where
  pub arguments_none : {a : Emitter} → Scene p d types homes a → ArgumentsTo fixed p d types homes a a [] []
  arguments_none {a = a} s =
      record {
        kinds = tt;
        lowered = lowered_none p d types homes a (4 * weights_in p []) s;
        spends = within nothing (omega arith) (omega arith) (omega arith);
      }

  pub arguments_more : {a b c : Emitter} {args ts : List ℕ} (x t : ℕ) → ArgumentsTo fixed p d types homes a b args ts →
      HasKind c t (kind_in p x) → Lowered p d types homes b c (4 * weight_in p x) →
      SpendsOperand fixed (weight_in p x) (copies_in p x) b c
      → ArgumentsTo fixed p d types homes a c (args ++ x ∷ []) (ts ++ t ∷ [])
  arguments_more {a = a} {b = b} {c = c} {args = args} {ts = ts} x t h k l s = record {
    kinds =
        subst (λ z. HaveKinds c (ts ++ t ∷ []) z) (sym (map-append (kind_in p) args (x ∷ [])))
        (have_more c ts (map (kind_in p) args) t (kind_in p x)
        (have_kept b c ts (map (kind_in p) args)
        (λ u j g. kept_lowered p d types homes b c u j (4 * weight_in p x) g l) h.kinds) k);
    lowered = lowered_then p d types homes a b c (4 * weights_in p args) (4 * weight_in p x)
        (4 * weights_in p (args ++ x ∷ [])) h.lowered l weight;
    spends = within (after h.spends s) (omega (arith, more, count, many, heavy (expression p x)))
        (omega (arith, more, count, many, heavy (expression p x))) (omega (arith, copied));
  }
    where
      many : length args ≤ weights_in p args
      many = weights_heavy p args

      count : length (args ++ x ∷ []) ≡ length args + 1
      count = length-append args (x ∷ [])

      copied : all_copies_in p (args ++ x ∷ []) ≡ all_copies_in p args + copies_in p x
      copied = let e = sum_by-append (λ j. copies_in p j) args (x ∷ []) in
          let f = sum_by-cons (λ j. copies_in p j) x [] in omega (arith, e, f)

      more : weights_in p (args ++ x ∷ []) ≡ weights_in p args + weight_in p x
      more = let e = sum_by-append (λ j. weight_in p j) args (x ∷ []) in
          let f = sum_by-cons (λ j. weight_in p j) x [] in omega (arith, e, f)

      weight : 4 * weights_in p args + 4 * weight_in p x ≤ 4 * weights_in p (args ++ x ∷ [])
      weight = let e = sum_by-append (λ j. weight_in p j) args (x ∷ []) in
          let f = sum_by-cons (λ j. weight_in p j) x [] in omega (arith, e, f)

  pub argument_room : {a b : Emitter} {ts : List ℕ} (args : List ℕ) (i x : ℕ) → HasRoom a (4 * weights_in p args) →
      ArgumentsTo fixed p d types homes a b (take i args) ts → i < length args →
      HasRoom b (4 * weight_in p (get_or args i x))
  argument_room args i x h f lt =
      let e : take (i + 1) args ≡ take i args ++ get_or args i x ∷ [] = take_more args i x lt in
      let le = sum_by-take-le (λ j. weight_in p j) args (i + 1) in
      let q = sum_by-append (λ j. weight_in p j) (take i args) (get_or args i x ∷ []) in
      let w = sum_by-cons (λ j. weight_in p j) (get_or args i x) [] in
      let same = ap (λ z. weights_in p z) e in
      record {
        temps = omega (arith, h.temps, f.lowered.adds.temps, le, q, w, same);
        labels = omega (arith, h.labels, f.lowered.adds.labels, le, q, w, same);
      }
