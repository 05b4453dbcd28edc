-- The variables of a function that have names, as they are listed.
use Rattle.std.proofs.Common.{◌≡◌, ℕ, zero, suc, ◌+◌, ◌-◌, ◌<◌, ◌≤◌, Bool, true, false, List, [], ◌∷◌, ◌++◌, length}
use Rattle.std.proofs.Common.{get_or, take, drop, map, Some, None, refl, sym, ap, subst, ◌∙◌, ⊎_elim, arith}
use Rattle.std.proofs.Common.{length-append, append_assoc}
use Rattle.std.specs.Prelude.{slice_get, flat_map, nat_lt}
use Rattle.std.proofs.lemmas.Bool.{lt-ltb, ltb-true}
use Rattle.std.proofs.lemmas.List.{append-nil, map-append, length-map, take-map, drop-map, take_more, take_all}
use Rattle.std.proofs.lemmas.List.{length-take-le, length-drop}
use Rattle.std.proofs.lemmas.Option.{slice_get-map, slice_get-get_or}
use Rattle.c_tree.specs.declared.typed.VarDef.{VarDef}
use Rattle.c_tree.specs.declared.typed.FunDef.{FunDef}
use Rattle.c_tree.specs.Types.{Ty, Void, Int, Cap, Pointer, Array, Tagged, Function, Const, bare}
use Rattle.c_tree.specs.Terms.{Variable, Routine}
use Rattle.c_tree.specs.Views.{variable_of}
use Rattle.c_tree.specs.Passed.{by_pointer, passed, result_variable, passed_variable, passed_param, copied_param}
use Rattle.c_tree.specs.Passed.{copied_params, result_pointer, written_params, named_variables, param_number}
use Rattle.c_tree.specs.Passed.{variable_number}
use Rattle.c_copy.proofs.Items.{get-push}
use Rattle.c_passing.proofs.Within.{taken}
use Rattle.c_passing.specs.declared.functions.Whole.{Whole}
use Rattle.c_passing.specs.declared.functions.Standing.{Standing}
use Rattle.c_passing.specs.Numbered.{IsGivenIn}
use Rattle.c_passing.specs.Routines.{written_routine, written_variable, AreRun, IsRun, IsNamed, named_so_far}
use Rattle.c_passing.specs.Routines.{AddsParam, HasParams, HasLocals}
use Rattle.c_passing.proofs.Hiding.{hidden_push}
use Rattle.passing_steps.specs.Numbered.{type_in}
use Rattle.passing_steps.proofs.Ordering.{vars_push}

-- ---- variables as they are run

pub run_push : (w : Whole) (xs ys : List VarDef) (v : VarDef) (vs : List Variable) (x : Variable) → AreRun w xs vs →
    IsRun w v x → ys ≡ xs ++ v ∷ [] → AreRun w ys (vs ++ x ∷ [])
run_push w xs ys v vs x h i e = record {
  count = let l = h.count in ap length e ∙ omega (arith, length-append xs (v ∷ []), length-append vs (x ∷ []));
  is = λ ts f. ap (map (variable_of ts)) e ∙ map-append (variable_of ts) xs (v ∷ [])
      ∙ ap (λ zs. zs ++ variable_of ts v ∷ []) (h.is ts f) ∙ ap (λ z. vs ++ z ∷ []) (i.is ts f);
  typed = λ t. vars_push (length w.types.now.list.items) xs ys v (h.typed t) (i.typed t) e;
}

pub none_run : (w : Whole) (xs : List VarDef) → xs ≡ [] → AreRun w xs []
none_run w xs e = rw e (record { count = refl; is = λ ts f. refl; typed = λ t k v g. absurd cc })

pub run_same : (w : Whole) (xs : List VarDef) (vs us : List Variable) → vs ≡ us → AreRun w xs vs → AreRun w xs us
run_same w xs vs us e h = subst (AreRun w xs) e h

-- what goes by a pointer stays what it is
pub pointed_same : (t : Ty) → by_pointer t ≡ true → passed t ≡ t
pointed_same (Tagged n) e = refl
pointed_same Void e = absurd cc
pointed_same (Int k n) e = absurd cc
pointed_same (Cap s) e = absurd cc
pointed_same (Pointer t) e = absurd cc
pointed_same (Array t n) e = absurd cc
pointed_same (Function r ps) e = absurd cc
pointed_same (Const (Tagged n)) e = refl
pointed_same (Const Void) e = absurd cc
pointed_same (Const (Int k n)) e = absurd cc
pointed_same (Const (Cap s)) e = absurd cc
pointed_same (Const (Pointer t)) e = absurd cc
pointed_same (Const (Array t n)) e = absurd cc
pointed_same (Const (Function r ps)) e = absurd cc
pointed_same (Const (Const t)) e = absurd cc

pub copied_same : (v : Variable) → by_pointer v.of ≡ true → passed_variable v ≡ v
copied_same v e = ap (λ t. record v { of = t }) (pointed_same v.of e)

-- ---- numbers

-- the list that has one number more
pub numbers_push : (P : ℕ → ℕ → Type 0) (xs ys : List ℕ) (n i : ℕ) → ys ≡ xs ++ n ∷ [] → length xs ≡ i →
    ((k m : ℕ) → slice_get xs k ≡ Some m → P k m) → P i n → (k m : ℕ) → slice_get ys k ≡ Some m → P k m
numbers_push P xs ys n i e l h p k m g =
    ⊎_elim (λ a. h k m a) (λ b. let q : k ≡ i = b.0 ∙ l in rw (q, ← b.1) p)
    (get-push xs n k m (ap (λ zs. slice_get zs k) (sym e) ∙ g))

not_less : (a b : ℕ) → b ≤ a → nat_lt a b ≡ false
not_less a b le = by (nat_lt a b) refl
  where
    by : (c : Bool) → nat_lt a b ≡ c → nat_lt a b ≡ false
    by true e = absurd (let l : a < b = ltb-true a b e in omega arith)
    by false e = e

-- ---- the written parameters

params_length : (w : Whole) (f : FunDef) → length f.params ≤ length f.vars →
    length (written_params (written_routine w f)) ≡ length f.params
params_length w f le =
    length-take-le (length f.params) (map (written_variable w) f.vars)
    (let l = length-map f.vars (written_variable w) in omega arith)

param_at : (w : Whole) (f : FunDef) (k : ℕ) (v : VarDef) → slice_get f.vars k ≡ Some v →
    slice_get (map (written_variable w) f.vars) k ≡ Some (written_variable w v)
param_at w f k v e = slice_get-map (written_variable w) f.vars k ∙ rw e refl

get_take : {A : Type 0} (xs : List A) (n k : ℕ) (x : A) → k < n → slice_get xs k ≡ Some x →
    slice_get (take n xs) k ≡ Some x
get_take [] n k x lt e = absurd cc
get_take (y ∷ ys) zero k x lt e = absurd (omega arith)
get_take (y ∷ ys) (suc n) zero x lt e = e
get_take (y ∷ ys) (suc n) (suc k) x lt e = get_take ys n k x (omega arith) e

take_next : {A : Type 0} (xs : List A) (k : ℕ) (x : A) → slice_get xs k ≡ Some x → take (suc k) xs ≡ take k xs ++ x ∷ []
take_next [] k x e = absurd cc
take_next (y ∷ ys) zero x e = let q : y ≡ x = cc in rw q refl
take_next (y ∷ ys) (suc k) x e = ap (λ zs. y ∷ zs) (take_next ys k x e)

-- the written parameters up to one
params_next : (w : Whole) (f : FunDef) (k : ℕ) (v : VarDef) → slice_get f.vars k ≡ Some v → k < length f.params →
    take (k + 1) (written_params (written_routine w f))
    ≡ take k (written_params (written_routine w f)) ++ written_variable w v ∷ []
params_next w f k v e lt =
    let one : k + 1 ≡ suc k = omega arith in
    ap (λ n. take n (written_params (written_routine w f))) one
    ∙ take_next (written_params (written_routine w f)) k (written_variable w v)
    (get_take (map (written_variable w) f.vars) (length f.params) k (written_variable w v) lt (param_at w f k v e))

copied_next : (w : Whole) (f : FunDef) (k : ℕ) (v : VarDef) → slice_get f.vars k ≡ Some v → k < length f.params →
    flat_map copied_param (take (k + 1) (written_params (written_routine w f)))
    ≡ flat_map copied_param (take k (written_params (written_routine w f))) ++ copied_param (written_variable w v)
copied_next w f k v e lt =
    ap (flat_map copied_param) (params_next w f k v e lt)
    ∙ hidden_push copied_param (take k (written_params (written_routine w f))) (written_variable w v)

so_far_next : (w : Whole) (f : FunDef) (k : ℕ) (v : VarDef) → slice_get f.vars k ≡ Some v → k < length f.params →
    named_so_far (written_routine w f) (k + 1)
    ≡ named_so_far (written_routine w f) k ++ copied_param (written_variable w v)
so_far_next w f k v e lt =
    let r = written_routine w f in
    let rp = result_pointer r in
    let mp = map passed_param (written_params r) in
    let cp = flat_map copied_param (take k (written_params r)) in
    let c = copied_param (written_variable w v) in
    ap (λ zs. (rp ++ mp) ++ zs) (copied_next w f k v e lt) ∙ sym (append_assoc (rp ++ mp) cp c)

so_far_length : (w : Whole) (f : FunDef) (k : ℕ) → length f.params ≤ length f.vars →
    length (named_so_far (written_routine w f) k)
    ≡ length (result_pointer (written_routine w f))
    + (length f.params + length (flat_map copied_param (take k (written_params (written_routine w f)))))
so_far_length w f k le =
    let r = written_routine w f in
    let rp = result_pointer r in
    let mp = map passed_param (written_params r) in
    let cp = flat_map copied_param (take k (written_params r)) in
    let m : length mp ≡ length f.params = length-map (written_params r) passed_param ∙ params_length w f le in
    omega (arith, length-append (rp ++ mp) cp, length-append rp mp)

-- ---- the first numbers

pub begins_named : (w : Whole) (f : FunDef) (params : List VarDef) (s : Standing) → HasParams w f params →
    s.before ≡ length (result_pointer (written_routine w f)) → s.copied ≡ 0 → s.numbers.items ≡ [] →
    AreRun w s.vars.items (result_pointer (written_routine w f) ++ map passed_param (map (written_variable w) params)) →
    IsNamed w f 0 s (named_so_far (written_routine w f) 0)
begins_named w f params s h b c n v =
    let r = written_routine w f in
    let rp = result_pointer r in
    let same : map (written_variable w) params ≡ written_params r =
    ap (map (written_variable w)) h.0 ∙ sym (take-map (written_variable w) (length f.params) f.vars) in
    let all : rp ++ map passed_param (map (written_variable w) params) ≡ named_so_far r 0 =
    ap (λ zs. rp ++ map passed_param zs) same ∙ sym (append-nil (rp ++ map passed_param (written_params r))) in
    record {
      before = b;
      copied = c;
      count = ap length n;
      numbers = λ i x e. absurd (let q : slice_get [] i ≡ Some x = ap (λ zs. slice_get zs i) (sym n) ∙ e in cc);
      vars = run_same w s.vars.items (rp ++ map passed_param (map (written_variable w) params))
          (named_so_far r 0) all v;
    }

-- ---- parameters

param_is : (w : Whole) (f : FunDef) (k : ℕ) (v : VarDef) → slice_get f.vars k ≡ Some v → k < length f.params →
    variable_number (written_routine w f) k ≡ param_number (written_routine w f) k (Some (written_variable w v))
param_is w f k v e lt =
    let c : nat_lt k (length f.params) ≡ true = lt-ltb k (length f.params) lt in
    rw (c, param_at w f k v e) refl

pointed_number : (r : Routine) (k : ℕ) (v : Variable) → by_pointer v.of ≡ true →
    param_number r k (Some v) ≡ length (result_pointer r)
    + (length r.params + length (flat_map copied_param (take k (written_params r))))
pointed_number r k v e = rw e refl

plain_number : (r : Routine) (k : ℕ) (v : Variable) → by_pointer v.of ≡ false →
    param_number r k (Some v) ≡ length (result_pointer r) + k
plain_number r k v e = rw e refl

pointed_copied : (v : Variable) → by_pointer v.of ≡ true → copied_param v ≡ v ∷ []
pointed_copied v e = rw e refl

plain_copied : (v : Variable) → by_pointer v.of ≡ false → copied_param v ≡ []
plain_copied v e = rw e refl

-- a parameter that comes by a pointer
pub pointed_added : (w : Whole) (old new : Standing) (v local : VarDef) (k at : ℕ) →
    by_pointer (written_variable w v).of ≡ true → at ≡ length old.vars.items →
    IsRun w local (passed_variable (written_variable w v)) →
    new.before ≡ old.before → new.copied ≡ old.copied + 1 → new.numbers.items ≡ old.numbers.items ++ at ∷ [] →
    new.vars.items ≡ old.vars.items ++ local ∷ [] → AddsParam w old new v k
pointed_added w old new v local k at p a run b c n vs = λ f e lt le h.
    let r = written_routine w f in
    let x = written_variable w v in
    let more : named_so_far r (k + 1) ≡ named_so_far r k ++ x ∷ [] =
    so_far_next w f k v e lt ∙ ap (λ zs. named_so_far r k ++ zs) (pointed_copied x p) in
    let cps = flat_map copied_param (take k (written_params r)) in
    let copied : flat_map copied_param (take (k + 1) (written_params r)) ≡ cps ++ x ∷ [] =
    copied_next w f k v e lt ∙ ap (λ zs. cps ++ zs) (pointed_copied x p) in
    let number : variable_number r k ≡ at =
    param_is w f k v e lt ∙ pointed_number r k x p ∙ sym (so_far_length w f k le) ∙ sym h.vars.count ∙ sym a in
    record {
      before = b ∙ h.before;
      copied = let d = h.copied in
          let more : old.copied + 1 ≡ length (cps ++ x ∷ []) = omega (arith, length-append cps (x ∷ [])) in
          c ∙ more ∙ ap length (sym copied);
      count = let l = h.count in ap length n ∙ omega (arith, length-append old.numbers.items (at ∷ []));
      numbers = numbers_push (λ i m. variable_number r i ≡ m) old.numbers.items new.numbers.items at k n h.count
          h.numbers number;
      vars =
          run_same w new.vars.items (named_so_far r k ++ x ∷ []) (named_so_far r (k + 1)) (sym more)
          (run_push w old.vars.items new.vars.items local (named_so_far r k) x h.vars
          (record { is = λ ts g. run.is ts g ∙ copied_same x p; typed = run.typed }) vs);
    }

-- another one
pub plain_added : (w : Whole) (old new : Standing) (v : VarDef) (k at : ℕ) →
    by_pointer (written_variable w v).of ≡ false → at ≡ k + old.before → new.before ≡ old.before →
    new.copied ≡ old.copied → new.numbers.items ≡ old.numbers.items ++ at ∷ [] →
    new.vars ≡ old.vars → AddsParam w old new v k
plain_added w old new v k at p a b c n vs = λ f e lt le h.
    let r = written_routine w f in
    let x = written_variable w v in
    let more : named_so_far r (k + 1) ≡ named_so_far r k =
    so_far_next w f k v e lt ∙ ap (λ zs. named_so_far r k ++ zs) (plain_copied x p)
    ∙ append-nil (named_so_far r k) in
    let cps = flat_map copied_param (take k (written_params r)) in
    let copied : flat_map copied_param (take (k + 1) (written_params r)) ≡ cps =
    copied_next w f k v e lt ∙ ap (λ zs. cps ++ zs) (plain_copied x p) ∙ append-nil cps in
    let before = h.before in
    let number : variable_number r k ≡ at = param_is w f k v e lt ∙ plain_number r k x p ∙ omega arith in
    record {
      before = b ∙ h.before;
      copied = c ∙ h.copied ∙ ap length (sym copied);
      count = let l = h.count in ap length n ∙ omega (arith, length-append old.numbers.items (at ∷ []));
      numbers = numbers_push (λ i m. variable_number r i ≡ m) old.numbers.items new.numbers.items at k n h.count
          h.numbers number;
      vars = run_same w new.vars.items (named_so_far r k) (named_so_far r (k + 1)) (sym more) (rw vs h.vars);
    }

-- ---- the other locals

-- those so far, where the first `i` other locals stand too
abbrev pub named_with : Whole → FunDef → ℕ → List Variable
named_with w f i = named_so_far (written_routine w f) (length f.params)
    ++ map passed_variable (map (written_variable w) (take i (drop (length f.params) f.vars)))

pub no_locals_named : (w : Whole) (f : FunDef) (s : Standing) →
    IsNamed w f (length f.params) s (named_so_far (written_routine w f) (length f.params)) →
    IsNamed w f (length f.params + 0) s (named_with w f 0)
no_locals_named w f s h =
    let z : length f.params ≡ length f.params + 0 = omega arith in
    subst (λ k. IsNamed w f k s (named_with w f 0)) z
    (subst (IsNamed w f (length f.params) s)
    (sym (append-nil (named_so_far (written_routine w f) (length f.params)))) h)

all_params : (w : Whole) (f : FunDef) (k : ℕ) → length f.params ≤ length f.vars → length f.params ≤ k →
    take k (written_params (written_routine w f)) ≡ written_params (written_routine w f)
all_params w f k le more =
    take_all k (written_params (written_routine w f)) (let l = params_length w f le in omega arith)

pub local_added : (w : Whole) (f : FunDef) (locals : List VarDef) (old new : Standing) (d v local : VarDef) (i at : ℕ) →
    HasLocals w f locals → i < length locals → v ≡ get_or locals i d → at ≡ length old.vars.items →
    IsRun w local (passed_variable (written_variable w v)) →
    new.before ≡ old.before → new.copied ≡ old.copied → new.numbers.items ≡ old.numbers.items ++ at ∷ [] →
    new.vars.items ≡ old.vars.items ++ local ∷ [] →
    IsNamed w f (length f.params + i) old (named_with w f i) →
    IsNamed w f (length f.params + (i + 1)) new (named_with w f (i + 1))
local_added w f locals old new d v local i at hl lt item a run b c n vs h =
    let r = written_routine w f in
    let g = written_variable w in
    let m = length f.params in
    let others = drop m f.vars in
    let le : m ≤ length f.vars = hl.1 in
    let within : i < length others = subst (λ (zs : List VarDef). i < length zs) hl.0 lt in
    let same : get_or others i d ≡ v = ap (λ (zs : List VarDef). get_or zs i d) (sym hl.0) ∙ sym item in
    let cut : take (i + 1) others ≡ take i others ++ v ∷ [] =
    take_more others i d within ∙ ap (λ z. take i others ++ z ∷ []) same in
    let so_far = named_so_far r m in
    let us = map passed_variable (map g (take i others)) in
    let grown : map passed_variable (map g (take (i + 1) others)) ≡ us ++ passed_variable (g v) ∷ [] =
    ap (λ zs. map passed_variable (map g zs)) cut ∙ ap (map passed_variable) (map-append g (take i others) (v ∷ []))
    ∙ map-append passed_variable (map g (take i others)) (g v ∷ []) in
    let more : named_with w f (i + 1) ≡ named_with w f i ++ passed_variable (g v) ∷ [] =
    ap (λ zs. so_far ++ zs) grown ∙ sym (append_assoc so_far us (passed_variable (g v) ∷ [])) in
    let taken : length (take i others) ≡ i = length-take-le i others (omega arith) in
    let us_length : length us ≡ i =
    length-map (map g (take i others)) passed_variable ∙ length-map (take i others) g ∙ taken in
    let params = all_params w f m le (omega arith) in
    let cps : length (flat_map copied_param (take m (written_params r))) ≡ length (copied_params r) =
    ap (λ zs. length (flat_map copied_param zs)) params in
    let count : length old.vars.items ≡ length (result_pointer r) + length (copied_params r) + (m + i) =
    let x = h.vars.count in let y = so_far_length w f m le in omega (arith, length-append so_far us) in
    let big : nat_lt (m + i) m ≡ false = not_less (m + i) m (omega arith) in
    let number : variable_number r (m + i) ≡ at = rw big (sym (a ∙ count)) in
    let later : m + (i + 1) ≡ (m + i) + 1 = omega arith in
    let all : IsNamed w f ((m + i) + 1) new (named_with w f (i + 1)) = record {
      before = b ∙ h.before;
      copied =
          c ∙ h.copied ∙ ap (λ zs. length (flat_map copied_param zs))
          (all_params w f (m + i) le (omega arith) ∙ sym (all_params w f ((m + i) + 1) le (omega arith)));
      count = let l = h.count in ap length n ∙ omega (arith, length-append old.numbers.items (at ∷ []));
      numbers = numbers_push (λ j x. variable_number r j ≡ x) old.numbers.items new.numbers.items at
          (m + i) n h.count h.numbers number;
      vars = run_same w new.vars.items (named_with w f i ++ passed_variable (g v) ∷ []) (named_with w f (i + 1))
          (sym more) (run_push w old.vars.items new.vars.items local (named_with w f i)
          (passed_variable (g v)) h.vars run vs);
    } in
    subst (λ k. IsNamed w f k new (named_with w f (i + 1))) (sym later) all

-- all of them
pub all_named : (w : Whole) (f : FunDef) (locals : List VarDef) (s : Standing) (i : ℕ) → HasLocals w f locals →
    length locals ≤ i → i ≤ length locals → IsNamed w f (length f.params + i) s (named_with w f i) →
    IsNamed w f (length f.vars) s (named_variables (written_routine w f))
all_named w f locals s i hl past within h =
    let r = written_routine w f in
    let g = written_variable w in
    let m = length f.params in
    let others = drop m f.vars in
    let rp = result_pointer r in
    let mp = map passed_param (written_params r) in
    let le : m ≤ length f.vars = hl.1 in
    let size : length locals ≡ length f.vars - m = ap length hl.0 ∙ length-drop m f.vars in
    let end : m + i ≡ length f.vars = omega arith in
    let whole : take i others ≡ others = take_all i others (subst (λ (zs : List VarDef). length zs ≤ i) hl.0 past) in
    let rest : map passed_variable (map g (take i others)) ≡ map passed_variable (drop m (map g f.vars)) =
    ap (λ zs. map passed_variable (map g zs)) whole ∙ ap (map passed_variable) (sym (drop-map g m f.vars)) in
    let cp : flat_map copied_param (take m (written_params r)) ≡ copied_params r =
    ap (flat_map copied_param) (all_params w f m le (omega arith)) in
    let x = map passed_variable (drop m (map g f.vars)) in
    let is : named_with w f i ≡ named_variables r =
    ap (λ zs. named_so_far r m ++ zs) rest ∙ ap (λ zs. ((rp ++ mp) ++ zs) ++ x) cp in
    subst (λ k. IsNamed w f k s (named_variables r)) end (subst (IsNamed w f (m + i) s) is h)

-- ---- one variable as it is run

pub local_run : (w : Whole) (v : VarDef) (n : ℕ) → get_or w.types.now.numbers.items v.of 0 ≡ n →
    IsRun w (record v { of = n }) (passed_variable (written_variable w v))
local_run w v n g = record {
  is = λ ts f. ap (λ t. record (written_variable w v) { of = t })
      (f.types.numbers v.of n g);
  typed = λ t. t.numbers v.of n g;
}

pub param_pointed : (w : Whole) (v : VarDef) (n : ℕ) → by_pointer (written_variable w v).of ≡ true →
    get_or w.types.now.pointers.items v.of 0 ≡ n →
    IsRun w (record v { of = n; simple = true }) (passed_param (written_variable w v))
param_pointed w v n p g =
    record {
      is = λ ts f. rw p (ap (λ t. record (written_variable w v) { of = t; simple = true })
          (f.types.pointers v.of n g p));
      typed = λ t. t.pointers v.of n g;
    }

pub param_plain : (w : Whole) (v x : VarDef) → by_pointer (written_variable w v).of ≡ false →
    IsRun w x (passed_variable (written_variable w v)) → IsRun w x (passed_param (written_variable w v))
param_plain w v x p h = record { is = λ ts f. h.is ts f ∙ sym (plainly (written_variable w v) p); typed = h.typed }
  where
    plainly : (u : Variable) → by_pointer u.of ≡ false → passed_param u ≡ passed_variable u
    plainly u e = rw e refl

-- ---- the result by a pointer

pub no_result : (w : Whole) (f : FunDef) → IsGivenIn w.program.now.types f.of None →
    result_pointer (written_routine w f) ≡ []
no_result w f h = ap (map (result_variable (written_routine w f))) h

pub one_result : (w : Whole) (f : FunDef) (k : ℕ) → IsGivenIn w.program.now.types f.of (Some k) →
    result_pointer (written_routine w f) ≡ result_variable (written_routine w f)
    (Pointer (bare (type_in w.program.now.types k))) ∷ []
one_result w f k h = ap (map (result_variable (written_routine w f))) h.0

pub result_run : (w : Whole) (f : FunDef) (k n : ℕ) (xs ys : List VarDef) →
    IsGivenIn w.program.now.types f.of (Some k) → get_or w.types.now.pointers.items k 0 ≡ n → xs ≡ [] →
    ys ≡ xs ++ record { name = f.name; pos = f.pos; of = n; simple = true } ∷ [] →
    AreRun w ys (result_pointer (written_routine w f))
result_run w f k n xs ys h g e q =
    let r = written_routine w f in
    let v : VarDef = record { name = f.name; pos = f.pos; of = n; simple = true } in
    let one : IsRun w v (result_variable r (Pointer (bare (type_in w.program.now.types k)))) =
    record {
      is = λ ts t. ap (λ z. result_variable r z) (t.types.pointers k n g h.1);
      typed = λ t. t.pointers k n g;
    } in
    run_same w ys ([] ++ result_variable r (Pointer (bare (type_in w.program.now.types k))) ∷ []) (result_pointer r)
    (sym (one_result w f k h)) (run_push w xs ys v [] _ (none_run w xs e) one q)

-- ---- loops

pub params_turn : (w : Whole) (params : List VarDef) (i : ℕ) (d v x : VarDef) (xs ys : List VarDef)
    (vs : List Variable) → i < length params → v ≡ get_or params i d → IsRun w x (passed_param (written_variable w v)) →
    ys ≡ xs ++ x ∷ [] →
    AreRun w xs (vs ++ map passed_param (map (written_variable w) (take i params))) →
    AreRun w ys (vs ++ map passed_param (map (written_variable w) (take (i + 1) params)))
params_turn w params i d v x xs ys vs lt q h e all =
    let g = written_variable w in
    let us = map passed_param (map g (take i params)) in
    let cut : take (i + 1) params ≡ take i params ++ v ∷ [] =
    take_more params i d lt ∙ ap (λ z. take i params ++ z ∷ []) (sym q) in
    let grown : map passed_param (map g (take (i + 1) params)) ≡ us ++ passed_param (g v) ∷ [] =
    ap (λ zs. map passed_param (map g zs)) cut ∙ ap (map passed_param) (map-append g (take i params) (v ∷ []))
    ∙ map-append passed_param (map g (take i params)) (g v ∷ []) in
    run_same w ys ((vs ++ us) ++ passed_param (g v) ∷ []) (vs ++ map passed_param (map g (take (i + 1) params)))
    (append_assoc vs us (passed_param (g v) ∷ []) ∙ ap (λ zs. vs ++ zs) (sym grown))
    (run_push w xs ys x (vs ++ us) (passed_param (g v)) all h e)

pub no_params_run : (w : Whole) (xs : List VarDef) (vs : List Variable) → AreRun w xs vs → AreRun w xs (vs ++ [])
no_params_run w xs vs h = run_same w xs vs (vs ++ []) (sym (append-nil vs)) h

pub param_turn : (w : Whole) (params : List VarDef) (old now new : Standing) (d v : VarDef) (k at : ℕ) →
    k < length params → at ≡ k → v ≡ get_or params k d → AddsParam w now new v at →
    ((f : FunDef) → HasParams w f params → IsNamed w f 0 old (named_so_far (written_routine w f) 0) →
    IsNamed w f k now (named_so_far (written_routine w f) k)) →
    (f : FunDef) → HasParams w f params → IsNamed w f 0 old (named_so_far (written_routine w f) 0) →
    IsNamed w f (k + 1) new (named_so_far (written_routine w f) (k + 1))
param_turn w params old now new d v k at lt same q added h f hp start =
    let add : AddsParam w now new v k = subst (λ n. AddsParam w now new v n) same added in
    let m = length f.params in
    let size : length params ≡ m = ap length hp.0 ∙ length-take-le m f.vars hp.1 in
    let within : k < m = omega arith in
    let there : slice_get (take m f.vars) k ≡ Some v =
    ap (λ (zs : List VarDef). slice_get zs k) (sym hp.0) ∙ slice_get-get_or params k d lt ∙ ap Some (sym q) in
    add f (taken m f.vars k v there) within hp.1 (h f hp start)
