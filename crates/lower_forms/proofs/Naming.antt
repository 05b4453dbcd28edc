-- What well formed code names is there.
use Rattle.std.proofs.Common.{◌≡◌, ℕ, zero, suc, ◌<◌, ◌≤◌, Bool, true, false, List, [], ◌∷◌, length, Option, Some}
use Rattle.std.proofs.Common.{None, get_or, refl, ap, subst, ◌⊎◌, inl, inr}
use Rattle.std.specs.Prelude.{◌==◌, ◌&&◌, nat_le, slice_get}
use Rattle.std.proofs.lemmas.Bool.{and_parts, eqb-true, leb-true, ltb-true}
use Rattle.std.proofs.lemmas.Option.{same_Some, slice_get_cases}
use Rattle.c_tree.specs.declared.typed.FunDef.{FunDef}
use Rattle.c_tree.specs.declared.typed.Typed.{Typed}
use Rattle.cheri_c_sem.specs.Kinds.{Kind}
use Rattle.cheri_c_sem.specs.Programs.{lengths_of}
use Rattle.tac_ir.specs.WellFormed as form
use Rattle.tac_ir.specs.WellFormed.{all_have, all_of, functions_fit, function_fits, begins_with, param_kinds}
use Rattle.tac_ir.specs.WellFormed.{instruction_fits, labels_differ, ends_well, turns_fit, is_well_formed, word}
use Rattle.tac_ir.specs.WellFormed.{signature_of_def, signature_of_function}
use Rattle.tac_ir.specs.declared.code.LibOp.TheVariants as lib
use Rattle.tac_ir.specs.declared.code.TacFun.{TacFun}
use Rattle.tac_ir.specs.declared.code.TacInstr.{TacInstr}
use Rattle.tac_ir.specs.declared.code.TacInstr.TheVariants as instr
use Rattle.tac_live.proofs.Numbered.{numbered_function, names_its_temps}
use Rattle.lower_forms.specs.Forms.{IsThere, IsNamed, objects_of}
use Rattle.lower_forms.specs.Laws.{CodeIsNamed}

-- ---- functions

pub functions_at : (p : Typed) (ds : List FunDef) (fs : List TacFun) (k : ℕ) (d : FunDef) (f : TacFun) →
    functions_fit p ds fs ≡ true → slice_get ds k ≡ Some d → slice_get fs k ≡ Some f → function_fits p d f ≡ true
functions_at p [] fs k d f h a b = absurd cc
functions_at p (x ∷ ds) [] k d f h a b = absurd cc
functions_at p (x ∷ ds) (y ∷ fs) zero d f h a b =
    subst (λ d. function_fits p d f ≡ true) (same_Some x d a)
    (subst (λ f. function_fits p x f ≡ true) (same_Some y f b) (and_parts (function_fits p x y) _ h).0)
functions_at p (x ∷ ds) (y ∷ fs) (suc k) d f h a b =
    functions_at p ds fs k d f (and_parts (function_fits p x y) _ h).1 a b

-- the code of each function is there
pub function_there : (p : Typed) (ds : List FunDef) (fs : List TacFun) (k : ℕ) (d : FunDef) →
    functions_fit p ds fs ≡ true → slice_get ds k ≡ Some d → (f : TacFun) × (slice_get fs k ≡ Some f)
function_there p [] fs k d h a = absurd cc
function_there p (x ∷ ds) [] k d h a = absurd cc
function_there p (x ∷ ds) (y ∷ fs) zero d h a = (y, refl)
function_there p (x ∷ ds) (y ∷ fs) (suc k) d h a =
    function_there p ds fs k d (and_parts (function_fits p x y) _ h).1 a

-- and each code is of one
pub definition_there : (p : Typed) (ds : List FunDef) (fs : List TacFun) (k : ℕ) (f : TacFun) →
    functions_fit p ds fs ≡ true → slice_get fs k ≡ Some f → (d : FunDef) × (slice_get ds k ≡ Some d)
definition_there p [] [] k f h b = absurd cc
definition_there p [] (y ∷ fs) k f h b = absurd cc
definition_there p (x ∷ ds) [] k f h b = absurd cc
definition_there p (x ∷ ds) (y ∷ fs) zero f h b = (x, refl)
definition_there p (x ∷ ds) (y ∷ fs) (suc k) f h b =
    definition_there p ds fs k f (and_parts (function_fits p x y) _ h).1 b

-- what is asked of one
pub record Parts (p : Typed) (d : FunDef) (f : TacFun) : Type 0 where
  pub count : f.params ≡ length d.params
  pub params : f.params ≤ f.temps
  pub kinds : length f.kinds ≡ f.temps
  pub begins : begins_with f.kinds (param_kinds p d) ≡ true
  pub each : all_of (instruction_fits p d f.kinds f.code) f.code ≡ true

pub parts_of : (p : Typed) (d : FunDef) (f : TacFun) → function_fits p d f ≡ true → Parts p d f
parts_of p d f e =
    let turns = and_parts (f.params == length d.params && nat_le f.params f.temps && length f.kinds == f.temps
    && begins_with f.kinds (param_kinds p d) && all_of (instruction_fits p d f.kinds f.code) f.code
    && labels_differ f.code && ends_well f.code) _ e in
    let ends = and_parts _ (ends_well f.code) turns.0 in
    let labels = and_parts _ (labels_differ f.code) ends.0 in
    let fits = and_parts _ (all_of (instruction_fits p d f.kinds f.code) f.code) labels.0 in
    let begins = and_parts _ (begins_with f.kinds (param_kinds p d)) fits.0 in
    let kinds = and_parts _ (length f.kinds == f.temps) begins.0 in
    let temps = and_parts (f.params == length d.params) (nat_le f.params f.temps) kinds.0 in
    record {
      count = eqb-true f.params (length d.params) temps.0;
      params = leb-true f.params f.temps temps.1;
      kinds = eqb-true (length f.kinds) f.temps kinds.1;
      begins = begins.1;
      each = fits.1;
    }

pub fits_at : (test : TacInstr → Bool) (is : List TacInstr) (j : ℕ) (i : TacInstr) → all_of test is ≡ true →
    slice_get is j ≡ Some i → test i ≡ true
fits_at test [] j i h e = absurd cc
fits_at test (x ∷ is) zero i h e = subst (λ y. test y ≡ true) (same_Some x i e) (and_parts (test x) _ h).0
fits_at test (x ∷ is) (suc j) i h e = fits_at test is j i (and_parts (test x) _ h).1 e

-- ---- instructions

have_length : (has : ℕ → Kind → Bool) (ts : List ℕ) (ks : List Kind) → all_have has ts ks ≡ true →
    length ts ≡ length ks
have_length has [] [] h = refl
have_length has [] (k ∷ ks) h = absurd cc
have_length has (t ∷ ts) [] h = absurd cc
have_length has (t ∷ ts) (k ∷ ks) h = ap suc (have_length has ts ks (and_parts (has t k) _ h).1)

module _ (p : Typed) (d : FunDef) (f : TacFun) where
  -- what is called is a function of the program
  called : (to : Option ℕ) (fun : ℕ) (args : List ℕ) →
      form.call_fits p d f.kinds f.code (signature_of_function p fun) to args ≡ true → fun < length p.funs
  called to fun args h = by_function (slice_get_cases p.funs fun).1
    where
      by_function : ((x : FunDef) × (fun < length p.funs) × (slice_get p.funs fun ≡ Some x) ×
          (get_or p.funs fun x ≡ x)) ⊎ ((length p.funs ≤ fun) × (slice_get p.funs fun ≡ None)) → fun < length p.funs
      by_function (inl x) = x.1
      by_function (inr past) =
          let none : false ≡ true = subst
          (λ (o : Option FunDef). form.call_fits p d f.kinds f.code (signature_of_def p o) to args ≡ true) past.1 h in
          absurd cc

  is_there : (i : TacInstr) → instruction_fits p d f.kinds f.code i ≡ true → IsThere p d i
  is_there (instr.Local to var) h = ltb-true var (length (lengths_of p d.vars)) (and_parts _ _ h).1
  is_there (instr.Zero var) h = ltb-true var (length (lengths_of p d.vars)) h
  is_there (instr.Global to number literal) h = ltb-true number (objects_of p literal) (and_parts _ _ h).1
  is_there (instr.Function to fun) h = ltb-true fun (length p.funs) (and_parts _ _ h).1
  is_there (instr.Call to fun args) h = called to fun args h
  is_there (instr.Lib lib.Malloc to args) h =
      have_length (form.has p d f.kinds f.code) args (word ∷ []) (and_parts _ _ h).0
  is_there i h = tt

  named : function_fits p d f ≡ true → IsNamed p d f
  named h =
      let x = parts_of p d f h in record {
        kinds = x.kinds;
        params = x.params;
        count = x.count;
        temps = λ i at k n. names_its_temps f (numbered_function p d f h) k (suc at.0) (i, (at.0, refl, at.1), n);
        there = λ i at. is_there i (fits_at (instruction_fits p d f.kinds f.code) f.code at.0 i x.each at.1);
      }

pub code_is_named : CodeIsNamed
unfolding is_well_formed
code_is_named p t h k d f a b = named p d f (functions_at p p.funs t.funs k d f h a b)
