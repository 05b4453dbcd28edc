-- What well-formed code says of an instruction of a function.
use Rattle.std.proofs.Common.{◌≡◌, ◌≤◌, arith, ℕ, zero, suc, Bool, true, false, List, [], ◌∷◌, ◌++◌, length, Option}
use Rattle.std.proofs.Common.{Some, None}
use Rattle.std.proofs.Common.{refl, ap, subst}
use Rattle.std.specs.Prelude.{slice_get, ◌&&◌, ◌==◌, nat_le}
use Rattle.std.proofs.lemmas.Bool.{and_parts, eqb-true, leb-true}
use Rattle.c_tree.specs.declared.typed.FunDef.{FunDef}
use Rattle.c_tree.specs.declared.typed.Typed.{Typed}
use Rattle.tac_ir.specs.WellFormed.{all_of, begins_with, ends_well, function_fits, functions_fit, instruction_fits}
use Rattle.tac_ir.specs.Meaning.{code_of}
use Rattle.tac_ir.specs.WellFormed.{is_well_formed, labels_differ, param_kinds, turns_fit}
use Rattle.tac_ir.specs.WellFormed.{Signature, all_have, call_fits, has, signature_of_def, signature_of_function}
use Rattle.cheri_c_sem.specs.Kinds.{Kind}
use Rattle.tac_ir.specs.declared.code.TacKind.{TacKind}
use Rattle.tac_ir.specs.declared.code.Tac.{Tac}
use Rattle.tac_ir.specs.declared.code.TacFun.{TacFun}
use Rattle.tac_ir.specs.declared.code.TacInstr.{TacInstr}
use Rattle.image_runs.specs.Asked.{IsAt}

module _ (p : Typed) where
  pub record Fitting (ds : List FunDef) (fun : ℕ) (f : TacFun) : Type 0 where
    pub function : FunDef
    pub there : slice_get ds fun ≡ Some function
    pub fits : function_fits p function f ≡ true

  fitting : (ds : List FunDef) (fs : List TacFun) (k : ℕ) (f : TacFun) → functions_fit p ds fs ≡ true
      → slice_get fs k ≡ Some f → Fitting ds k f
  fitting [] [] k f e q = cc
  fitting [] (h ∷ fs) k f e q = absurd (let z : false ≡ true = e in cc)
  fitting (d ∷ ds) [] k f e q = cc
  fitting (d ∷ ds) (h ∷ fs) zero f e q =
      let same : h ≡ f = cc in record {
        function = d;
        there = refl;
        fits = subst (λ y. function_fits p d y ≡ true) same (and_parts (function_fits p d h) _ e).0;
      }
  fitting (d ∷ ds) (h ∷ fs) (suc k) f e q =
      let x = fitting ds fs k f (and_parts (function_fits p d h) _ e).1 q in
      record { function = x.function; there = x.there; fits = x.fits }

  pub formed_at : (t : Tac) (k : ℕ) (f : TacFun) → is_well_formed t p ≡ true → slice_get t.funs k ≡ Some f
      → Fitting p.funs k f
  unfolding is_well_formed
  formed_at t k f e q = fitting p.funs t.funs k f e q

  all_at : (test : TacInstr → Bool) (before : List TacInstr) (i : TacInstr) (rest : List TacInstr)
      → all_of test (before ++ i ∷ rest) ≡ true → test i ≡ true
  all_at test [] i rest e = (and_parts (test i) _ e).0
  all_at test (x ∷ before) i rest e = all_at test before i rest (and_parts (test x) _ e).1

  -- what is asked of the code of a function
  pub record Parts (d : FunDef) (f : TacFun) : Type 0 where
    pub each : all_of (instruction_fits p d f.kinds f.code) f.code ≡ true
    pub labels : labels_differ f.code ≡ true
    pub turned : turns_fit false f.code ≡ true
    pub few : f.params ≤ length f.kinds
    pub kinds : length f.kinds ≡ f.temps

  pub parts_of : (d : FunDef) (f : TacFun) → function_fits p d f ≡ true → Parts d f
  parts_of d f e =
      let turns = and_parts (f.params == length d.params && nat_le f.params f.temps && length f.kinds == f.temps
      && begins_with f.kinds (param_kinds p d) && all_of (instruction_fits p d f.kinds f.code) f.code
      && labels_differ f.code && ends_well f.code) _ e in
      let ends = and_parts _ (ends_well f.code) turns.0 in
      let labels = and_parts _ (labels_differ f.code) ends.0 in
      let fits = and_parts _ (all_of (instruction_fits p d f.kinds f.code) f.code) labels.0 in
      let begins = and_parts _ (begins_with f.kinds (param_kinds p d)) fits.0 in
      let kinds = and_parts _ (length f.kinds == f.temps) begins.0 in
      let temps = and_parts (f.params == length d.params) (nat_le f.params f.temps) kinds.0 in
      let le = leb-true f.params f.temps temps.1 in
      let same = eqb-true (length f.kinds) f.temps kinds.1 in
      record { each = fits.1; labels = labels.1; turned = turns.1; few = omega (arith, same); kinds = same }

  pub instruction_at : (d : FunDef) (f : TacFun) (i : TacInstr) (rest : List TacInstr) → function_fits p d f ≡ true
      → IsAt f i rest → instruction_fits p d f.kinds f.code i ≡ true
  instruction_at d f i rest e at =
      all_at (instruction_fits p d f.kinds f.code) at.before i rest
      (subst (λ z. all_of (instruction_fits p d f.kinds f.code) z ≡ true) at.is (parts_of d f e).each)

  pub turned_at : (t : Tac) (k : ℕ) → is_well_formed t p ≡ true → (o : Option TacFun) → slice_get t.funs k ≡ o
      → turns_fit false (code_of o) ≡ true
  turned_at t k e None q = refl
  turned_at t k e (Some f) q = let x = formed_at t k f e q in (parts_of x.function f x.fits).turned

  -- each function has its code
  pub record Coded (fs : List TacFun) (k : ℕ) : Type 0 where
    pub f : TacFun
    pub is : slice_get fs k ≡ Some f

  coded : (ds : List FunDef) (fs : List TacFun) (k : ℕ) (d : FunDef) → functions_fit p ds fs ≡ true
      → slice_get ds k ≡ Some d → Coded fs k
  coded [] fs k d e q = cc
  coded (x ∷ ds) [] k d e q = absurd (let z : false ≡ true = e in cc)
  coded (x ∷ ds) (h ∷ fs) zero d e q = record { f = h; is = refl }
  coded (x ∷ ds) (h ∷ fs) (suc k) d e q =
      let y = coded ds fs k d (and_parts (function_fits p x h) _ e).1 q in record { f = y.f; is = y.is }

  by_signature : (t : Tac) (k : ℕ) (x : Signature) → functions_fit p p.funs t.funs ≡ true → (o : Option FunDef)
      → slice_get p.funs k ≡ o → signature_of_def p o ≡ Some x → Coded t.funs k
  by_signature t k x e None q h = cc
  by_signature t k x e (Some d) q h = coded p.funs t.funs k d e q

  pub code_there : (t : Tac) (k : ℕ) (x : Signature) → is_well_formed t p ≡ true
      → signature_of_function p k ≡ Some x → Coded t.funs k
  unfolding is_well_formed
  code_there t k x e h = by_signature t k x e (slice_get p.funs k) refl h

  -- a call has as many arguments as its type has parameters
  pub record Taken (o : Option Signature) (args : List ℕ) : Type 0 where
    pub of : Signature
    pub is : o ≡ Some of
    pub same : length args ≡ length of.params

  have_length : (test : ℕ → Kind → Bool) (ts : List ℕ) (ks : List Kind) → all_have test ts ks ≡ true
      → length ts ≡ length ks
  have_length test [] [] e = refl
  have_length test [] (k ∷ ks) e = cc
  have_length test (t ∷ ts) [] e = cc
  have_length test (t ∷ ts) (k ∷ ks) e = ap suc (have_length test ts ks (and_parts (test t k) _ e).1)

  pub taken : (d : FunDef) (kinds : List TacKind) (code : List TacInstr) (o : Option Signature) (to : Option ℕ)
      (args : List ℕ) → call_fits p d kinds code o to args ≡ true → Taken o args
  taken d kinds code None to args e = cc
  taken d kinds code (Some x) to args e =
      record {
        of = x;
        is = refl;
        same = have_length (has p d kinds code) args x.params
            (and_parts (all_have (has p d kinds code) args x.params) _ e).0;
      }
