-- The parameters of a function as it is run, and the copies of those that come by a pointer.
use Rattle.std.proofs.Common.{◌≡◌, ℕ, zero, suc, ◌+◌, ◌≤◌, Bool, true, false, List, [], ◌∷◌, ◌++◌, length, take, drop}
use Rattle.std.proofs.Common.{Some, refl, sym, ap, subst, ◌∙◌, inl, inr, ◌⊎◌, arith}
use Rattle.std.specs.Prelude.{slice_get, map, flat_map, if◌then◌else◌, ◌==◌, ◌||◌}
use Rattle.std.proofs.lemmas.Bool.{false≢true}
use Rattle.c_tree.specs.Types.{Ty, Pointer, Array, Tagged, Function, Const, Tys, no_types, also, bare, in_signature}
use Rattle.c_tree.specs.Types.{is_tagged, count}
use Rattle.c_tree.specs.Terms.{Variable, Routine, numbers_from}
use Rattle.c_tree.specs.WellTyped.{holds}
use Rattle.c_tree.specs.Passed.{Names, by_pointer, passed, all_passed, hidden_of, passed_variable, result_types}
use Rattle.c_tree.specs.Passed.{result_variable, result_pointer, written_params, passed_param, copied_param}
use Rattle.c_tree.specs.Passed.{copied_params, named_variables, passed_routine}
use Rattle.typing_laws.proofs.Agreeing.{refines, refines_self}
use Rattle.typing_laws.proofs.Pointers.{passed_result, passed_takes, passed_taken, passed_function, count_passed}
use Rattle.typing_laws.proofs.Pointers.{bare_agrees, tagged_agrees, passed_agree}
use Rattle.typing_laws.proofs.PassedHidden.{Holds}
use Rattle.typing_laws.proofs.PassedVariables.{numbers_length, params_there, copies_there}

-- ---- copies

-- from two numbers on there are the pointers to parameters and their copies
abbrev pub CopiesHold : List Variable → ℕ → ℕ → List Variable → Type 0
CopiesHold vars k j [] = Unit {0}
CopiesHold vars k j (v ∷ vs) =
    ((by_pointer v.of ≡ true) × (w : Variable) × (slice_get vars k ≡ Some w) × (w.of ≡ Pointer (bare v.of)) ×
    (slice_get vars j ≡ Some v) × CopiesHold vars (k + 1) (j + 1) vs)
    ⊎ ((by_pointer v.of ≡ false) × CopiesHold vars (k + 1) j vs)

holds_cons : (vars : List Variable) (n : ℕ) (x : Variable) (xs : List Variable) → Holds vars n (x ∷ xs) →
    (slice_get vars n ≡ Some x) × Holds vars (n + 1) xs
holds_cons vars n x xs h =
    (ap (slice_get vars) (omega arith) ∙ h 0 x refl, λ j v e. ap (slice_get vars) (omega arith) ∙ h (suc j) v e)

copies_hold : (vars : List Variable) (k j : ℕ) (vs : List Variable) → Holds vars k (map passed_param vs) →
    Holds vars j (flat_map copied_param vs) → CopiesHold vars k j vs
copies_hold vars k j [] h g = tt
copies_hold vars k j (v ∷ vs) h g =
    let a = holds_cons vars k (passed_param v) (map passed_param vs) h in
    by (by_pointer v.of) refl a.0 g (λ g. copies_hold vars (k + 1) (j + 1) vs a.1 g)
    (λ g. copies_hold vars (k + 1) j vs a.1 g)
  where
    by : (b : Bool) → by_pointer v.of ≡ b →
        slice_get vars k ≡ Some (if b then record v { of = Pointer (bare v.of); simple = true }
        else passed_variable v) → Holds vars j ((if b then v ∷ [] else []) ++ flat_map copied_param vs) →
        (Holds vars (j + 1) (flat_map copied_param vs) → CopiesHold vars (k + 1) (j + 1) vs) →
        (Holds vars j (flat_map copied_param vs) → CopiesHold vars (k + 1) j vs) → CopiesHold vars k j (v ∷ vs)
    by true e p c f g = let d = holds_cons vars j v (flat_map copied_param vs) c in
        inl (e, record v { of = Pointer (bare v.of); simple = true }, p, refl, d.0, f d.1)
    by false e p c f g = inr (e, g c)

pub all_copies_hold : (names : Names) (f : Routine) → length f.params ≤ length f.vars →
    CopiesHold (passed_routine names f).vars (length (result_pointer f)) (length (result_pointer f) + length f.params)
    (written_params f)
all_copies_hold names f enough =
    copies_hold (passed_routine names f).vars (length (result_pointer f)) (length (result_pointer f) + length f.params)
    (written_params f) (params_there names f enough) (copies_there names f enough)

-- ---- types of parameters

-- the first variables are parameters of these types
abbrev pub VariablesFit : Tys → List Variable → Type 0
VariablesFit no_types vs = Unit {0}
VariablesFit (also t ts) (v ∷ vs) = holds (refines (in_signature v.of) t) × VariablesFit ts vs
VariablesFit (also t ts) [] = ⊥

-- which have no qualifiers of their own
abbrev pub AllBare : Tys → Type 0
AllBare no_types = Unit {0}
AllBare (also t ts) = (bare t ≡ t) × AllBare ts

-- a function as it is written: its parameters are its first variables
pub record Written (f : Routine) (r : Ty) (ps : Tys) : Type 0 where
  pub is : f.of ≡ Function r ps
  pub params : f.params ≡ numbers_from 0 (count ps)
  pub fit : VariablesFit ps f.vars
  pub bare : AllBare ps

enough_of : (ts : Tys) (vs : List Variable) → VariablesFit ts vs → count ts ≤ length vs
enough_of no_types vs h = omega arith
enough_of (also t ts) (v ∷ vs) h = let e = enough_of ts vs h.1 in omega (arith, e)
enough_of (also t ts) [] h = absurd h

pub written_count : (f : Routine) (r : Ty) (ps : Tys) → Written f r ps → length f.params ≡ count ps
written_count f r ps w = ap length w.params ∙ numbers_length 0 (count ps)

pub written_enough : (f : Routine) (r : Ty) (ps : Tys) → Written f r ps → length f.params ≤ length f.vars
written_enough f r ps w = let e = enough_of ps f.vars w.fit in let c = written_count f r ps w in omega (arith, e, c)

-- a parameter that comes by a pointer is one of those that the type says
signature_tagged : (u : Ty) → is_tagged (in_signature u) ≡ by_pointer u
signature_tagged (Function r ps) = refl
signature_tagged (Array t n) = refl
signature_tagged u = refl

signature_passed : (u : Ty) → in_signature (passed u) ≡ passed (in_signature u)
signature_passed (Function r ps) = ap in_signature (passed_function r ps) ∙ ap Pointer (sym (passed_function r ps))
signature_passed u = refl

signature_pointer : (u : Ty) → by_pointer u ≡ true → bare (in_signature u) ≡ bare u
signature_pointer (Tagged n) e = refl
signature_pointer (Const (Tagged n)) e = refl
signature_pointer u e = absurd (false≢true e)

abbrev lengths : ℕ → ℕ → Bool
lengths m n = m == n || m == 0

pointers_agree : (u t : Ty) → refines (in_signature u) t ≡ true → bare t ≡ t → by_pointer u ≡ by_pointer t
pointers_agree u t e q = sym (signature_tagged u) ∙ tagged_agrees lengths (in_signature u) t e ∙ ap is_tagged (sym q)

param_fits : (v : Variable) (t : Ty) → refines (in_signature v.of) t ≡ true → bare t ≡ t →
    refines (in_signature (passed_param v).of) (passed_taken t) ≡ true
param_fits v t e q = by (by_pointer v.of) (by_pointer t) (pointers_agree v.of t e q) refl
  where
    by : (b c : Bool) → b ≡ c → by_pointer v.of ≡ b →
        refines (in_signature (if b then record v { of = Pointer (bare v.of); simple = true }
        else passed_variable v).of) (if c then Pointer (bare t) else passed t) ≡ true
    by true true i p = ap (λ s. refines s (bare t)) (sym (signature_pointer v.of p))
        ∙ bare_agrees lengths (in_signature v.of) t e
    by false false i p = ap (λ s. refines s (passed t)) (signature_passed v.of)
        ∙ passed_agree lengths (in_signature v.of) t e
    by true false i p = absurd (false≢true (sym i))
    by false true i p = absurd (false≢true i)

params_fit : (ts : Tys) (vs : List Variable) (n : ℕ) → n ≡ count ts → VariablesFit ts vs → AllBare ts →
    VariablesFit (all_passed ts) (map passed_param (take n vs))
params_fit no_types vs n c h b = tt
params_fit (also t ts) [] n c h b = absurd h
params_fit (also t ts) (v ∷ vs) zero c h b = absurd (omega (arith, c))
params_fit (also t ts) (v ∷ vs) (suc n) c h b = (param_fits v t h.0 b.0, params_fit ts vs n (omega (arith, c)) h.1 b.1)

fit_append : (ts : Tys) (xs ys : List Variable) → VariablesFit ts xs → VariablesFit ts (xs ++ ys)
fit_append no_types xs ys h = tt
fit_append (also t ts) [] ys h = absurd h
fit_append (also t ts) (x ∷ xs) ys h = (h.0, fit_append ts xs ys h.1)

-- ---- the function as it is run

pub passed_type : (f : Routine) (r : Ty) (ps : Tys) → Written f r ps →
    passed f.of ≡ Function (passed_result r) (passed_takes r ps)
passed_type f r ps w = ap passed w.is ∙ passed_function r ps

pub passed_fit : (names : Names) (f : Routine) (r : Ty) (ps : Tys) → Written f r ps →
    VariablesFit (passed_takes r ps) (passed_routine names f).vars
passed_fit names f r ps w =
    let as_run = map passed_param (written_params f) in
    let others = map passed_variable (drop (length f.params) f.vars) in
    let ts = passed_takes r ps in
    fit_append ts (named_variables f) (hidden_of names f.body)
    (fit_append ts (result_pointer f ++ as_run ++ copied_params f) others
    (fit_append ts (result_pointer f ++ as_run) (copied_params f)
    (subst (λ t. VariablesFit ts (map (result_variable f) (result_types t) ++ as_run)) (sym w.is)
    (by (by_pointer r) (params_fit ps f.vars (length f.params) (written_count f r ps w) w.fit w.bare)))))
  where
    by : (b : Bool) → VariablesFit (all_passed ps) (map passed_param (written_params f)) →
        VariablesFit (if b then also (Pointer (bare r)) (all_passed ps) else all_passed ps)
        (map (result_variable f) (if b then Pointer (bare r) ∷ [] else []) ++ map passed_param (written_params f))
    by true h = (refines_self (Pointer (bare r)), h)
    by false h = h

pub passed_count : (f : Routine) (r : Ty) (ps : Tys) → Written f r ps →
    count (passed_takes r ps) ≡ length (result_pointer f) + length f.params
passed_count f r ps w = by (by_pointer r)
    ∙ ap (λ t. length (map (result_variable f) (result_types t)) + count ps) (sym w.is)
    ∙ ap (λ n. length (result_pointer f) + n) (sym (written_count f r ps w))
  where
    by : (b : Bool) → count (if b then also (Pointer (bare r)) (all_passed ps) else all_passed ps)
        ≡ length (map (result_variable f) (if b then Pointer (bare r) ∷ [] else [])) + count ps
    by true = let c = count_passed ps in omega (arith, c)
    by false = let c = count_passed ps in omega (arith, c)

pub passed_params : (names : Names) (f : Routine) (r : Ty) (ps : Tys) → Written f r ps →
    (passed_routine names f).params ≡ numbers_from 0 (count (passed_takes r ps))
passed_params names f r ps w = ap (numbers_from 0) (sym (passed_count f r ps w))
