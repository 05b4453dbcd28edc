-- The variables of a function as it is run: what stands at each of their numbers.
use Rattle.std.proofs.Common.{◌≡◌, ℕ, zero, suc, ◌+◌, ◌-◌, ◌<◌, ◌≤◌, Bool, true, false, List, [], ◌∷◌, ◌++◌, length}
use Rattle.std.proofs.Common.{take, drop, Some, refl, sym, ap, subst, ◌∙◌, ⊎_elim, arith}
use Rattle.std.specs.Prelude.{slice_get, map, option_map, flat_map, if◌then◌else◌}
use Rattle.std.proofs.lemmas.Bool.{false≢true, cases_lt, lt-ltb, le-ltb}
use Rattle.std.proofs.lemmas.List.{length-append, length-map, length-take-le, length-drop}
use Rattle.std.proofs.lemmas.Option.{same_Some, slice_get_within, slice_get-map}
use Rattle.c_tree.specs.Types.{Ty, Pointer, Function, Tys, bare, is_scalar}
use Rattle.c_tree.specs.Terms.{Variable, Routine, numbers_from}
use Rattle.c_tree.specs.Passed.{Names, by_pointer, passed, hidden_of, passed_variable, result_types, result_variable}
use Rattle.c_tree.specs.Passed.{result_pointer, written_params, passed_param, copied_param, copied_params}
use Rattle.c_tree.specs.Passed.{named_variables, param_number, variable_number, passed_routine}
use Rattle.typing_laws.proofs.Pointers.{pointer_stays, bare_scalar_passed}
use Rattle.typing_laws.proofs.PassedHidden.{Holds, get_left, get_right, holds_append, holds_front, holds_behind}
use Rattle.typing_laws.proofs.PassedHidden.{holds_at}
use Rattle.typing_laws.proofs.PassedHidden.{ActionCalls, hidden_fit, hidden_plain}

-- ---- lists

get_take : {A : Type 0} (n : ℕ) (xs : List A) (k : ℕ) → k < n → slice_get (take n xs) k ≡ slice_get xs k
get_take zero xs k l = absurd (omega (arith, l))
get_take (suc n) [] k l = refl
get_take (suc n) (x ∷ xs) zero l = refl
get_take (suc n) (x ∷ xs) (suc k) l = get_take n xs k (omega (arith, l))

pub from_take : {A : Type 0} (n : ℕ) (xs : List A) (k : ℕ) (x : A) → slice_get (take n xs) k ≡ Some x →
    slice_get xs k ≡ Some x
from_take zero xs k x e = absurd cc
from_take (suc n) [] k x e = absurd cc
from_take (suc n) (y ∷ xs) zero x e = e
from_take (suc n) (y ∷ xs) (suc k) x e = from_take n xs k x e

get_drop : {A : Type 0} (n : ℕ) (xs : List A) (j k : ℕ) → k ≡ n + j → slice_get (drop n xs) j ≡ slice_get xs k
get_drop zero xs j k e = ap (slice_get xs) (omega (arith, e))
get_drop (suc n) [] j k e = refl
get_drop (suc n) (x ∷ xs) j zero e = absurd (omega (arith, e))
get_drop (suc n) (x ∷ xs) j (suc k) e = get_drop n xs j k (omega (arith, e))

mapped : {A B : Type 0} (v : A → B) (xs : List A) (k : ℕ) (x : A) → slice_get xs k ≡ Some x →
    slice_get (map v xs) k ≡ Some (v x)
mapped v xs k x e = slice_get-map v xs k ∙ ap (option_map v) e

item_below : {A : Type 0} (xs : List A) (k : ℕ) → k < length xs → (x : A) × (slice_get xs k ≡ Some x)
item_below [] k l = absurd (omega (arith, l))
item_below (x ∷ xs) zero l = (x, refl)
item_below (x ∷ xs) (suc k) l = item_below xs k (omega (arith, l))

pub numbers_at : (a n k : ℕ) → k < n → slice_get (numbers_from a n) k ≡ Some (a + k)
numbers_at a zero k l = absurd (omega (arith, l))
numbers_at a (suc n) zero l = ap Some (omega arith)
numbers_at a (suc n) (suc k) l = numbers_at (a + 1) n k (omega (arith, l)) ∙ ap Some (omega arith)

pub numbers_length : (a n : ℕ) → length (numbers_from a n) ≡ n
numbers_length a zero = refl
numbers_length a (suc n) = ap suc (numbers_length (a + 1) n)

-- numbers that are below one
abbrev pub AllBelow : ℕ → List ℕ → Type 0
AllBelow n ks = (j k : ℕ) → slice_get ks j ≡ Some k → k < n

below_append : (n : ℕ) (xs ys : List ℕ) → AllBelow n xs → AllBelow n ys → AllBelow n (xs ++ ys)
below_append n [] ys f g j k e = g j k e
below_append n (x ∷ xs) ys f g zero k e = f 0 k e
below_append n (x ∷ xs) ys f g (suc j) k e = below_append n xs ys (λ i k q. f (suc i) k q) g j k e

below_map : (n m : ℕ) (v : ℕ → ℕ) (xs : List ℕ) → ((k : ℕ) → k < n → v k < m) → AllBelow n xs → AllBelow m (map v xs)
below_map n m v [] f g j k e = absurd cc
below_map n m v (x ∷ xs) f g zero k e = subst (λ k. k < m) (same_Some (v x) k e) (f x (g 0 x refl))
below_map n m v (x ∷ xs) f g (suc j) k e = below_map n m v xs f (λ i k q. g (suc i) k q) j k e

numbers_below : (m a n : ℕ) → a + n ≤ m → AllBelow m (numbers_from a n)
numbers_below m a zero l j k e = absurd cc
numbers_below m a (suc n) l zero k e = let s = same_Some a k e in omega (arith, s, l)
numbers_below m a (suc n) l (suc j) k e = numbers_below m (a + 1) n (omega (arith, l)) j k e

-- ---- what goes by a pointer

pub copy_kept : (v : Variable) → by_pointer v.of ≡ true → passed_variable v ≡ v
copy_kept v e = ap (λ t. let w : Variable = record v { of = t } in w) (pointer_stays v.of e)

pub param_plain : (v : Variable) → by_pointer v.of ≡ false → passed_param v ≡ passed_variable v
param_plain v e = ap (λ b. if b then record v { of = Pointer (bare v.of); simple = true } else passed_variable v) e

-- ---- what holds of each variable

abbrev pub Each : (Variable → Type 0) → List Variable → Type 0
Each P vs = (k : ℕ) (v : Variable) → slice_get vs k ≡ Some v → P v

module _ (P : Variable → Type 0) where
  each_none : Each P []
  each_none k v e = absurd cc

  each_append : (xs ys : List Variable) → Each P xs → Each P ys → Each P (xs ++ ys)
  each_append [] ys f g k v e = g k v e
  each_append (x ∷ xs) ys f g zero v e = f 0 v e
  each_append (x ∷ xs) ys f g (suc k) v e = each_append xs ys (λ k v q. f (suc k) v q) g k v e

  pub each_map : {A : Type 0} (w : A → Variable) (xs : List A) → ((k : ℕ) (x : A) → slice_get xs k ≡ Some x → P (w x)) →
      Each P (map w xs)
  each_map w [] f k v e = absurd cc
  each_map w (x ∷ xs) f zero v e = subst P (same_Some (w x) v e) (f 0 x refl)
  each_map w (x ∷ xs) f (suc k) v e = each_map w xs (λ k x q. f (suc k) x q) k v e

  each_flat : (w : Variable → List Variable) (xs : List Variable) →
      ((k : ℕ) (x : Variable) → slice_get xs k ≡ Some x → Each P (w x)) → Each P (flat_map w xs)
  each_flat w [] f k v e = absurd cc
  each_flat w (x ∷ xs) f k v e =
      each_append (w x) (flat_map w xs) (f 0 x refl) (each_flat w xs (λ k x q. f (suc k) x q)) k v e

  each_if : (b : Bool) (x : Variable) → (b ≡ true → P x) → Each P (if b then x ∷ [] else [])
  each_if true x f zero v e = subst P (same_Some x v e) (f refl)
  each_if true x f (suc k) v e = absurd cc
  each_if false x f k v e = absurd cc

  either : (b : Bool) (x y : Variable) → (b ≡ true → P x) → (b ≡ false → P y) → P (if b then x else y)
  either true x y f g = f refl
  either false x y f g = g refl

-- ---- numbers of variables

-- a copied parameter stands behind the copied ones before it
copied_at : (xs : List Variable) (k : ℕ) (v : Variable) → slice_get xs k ≡ Some v → by_pointer v.of ≡ true →
    slice_get (flat_map copied_param xs) (length (flat_map copied_param (take k xs))) ≡ Some v
copied_at [] k v e b = absurd cc
copied_at (x ∷ xs) zero v e b =
    let s = same_Some x v e in
    get_left (copied_param x) (flat_map copied_param xs) 0 v
    (ap (λ (x : Variable). slice_get (copied_param x) 0) s ∙ ap (λ b. slice_get (if b then v ∷ [] else []) 0) b)
copied_at (x ∷ xs) (suc k) v e b =
    get_right (copied_param x) (flat_map copied_param xs) (length (copied_param x ++ flat_map copied_param (take k xs)))
    (length (flat_map copied_param (take k xs)))
    (length-append (copied_param x) (flat_map copied_param (take k xs)))
    ∙ copied_at xs k v e b

module _ (names : Names) (f : Routine) (enough : length f.params ≤ length f.vars) where
  abbrev vars : List Variable
  vars = (passed_routine names f).vars

  abbrev as_run : List Variable
  as_run = map passed_param (written_params f)

  abbrev others : List Variable
  others = map passed_variable (drop (length f.params) f.vars)

  params_count : length as_run ≡ length f.params
  params_count = length-map (written_params f) passed_param ∙ length-take-le (length f.params) f.vars enough

  pub holds_body : Holds vars (length (named_variables f)) (hidden_of names f.body)
  holds_body = holds_behind (named_variables f) (hidden_of names f.body)

  named : Holds vars 0 (named_variables f)
  named = holds_front (named_variables f) (hidden_of names f.body)

  pub params_there : Holds vars (length (result_pointer f)) as_run
  params_there =
      let a = holds_append vars 0 (result_pointer f ++ as_run ++ copied_params f) others named in
      let b = holds_append vars 0 (result_pointer f ++ as_run) (copied_params f) a.0 in
      let c = holds_append vars 0 (result_pointer f) as_run b.0 in
      holds_at vars (0 + length (result_pointer f)) (length (result_pointer f)) as_run (omega arith) c.1

  pub copies_there : Holds vars (length (result_pointer f) + length f.params) (copied_params f)
  copies_there =
      let a = holds_append vars 0 (result_pointer f ++ as_run ++ copied_params f) others named in
      let b = holds_append vars 0 (result_pointer f ++ as_run) (copied_params f) a.0 in
      let e = length-append (result_pointer f) as_run in
      holds_at vars (0 + length (result_pointer f ++ as_run)) (length (result_pointer f) + length f.params)
      (copied_params f) (omega (arith, e, params_count)) b.1

  pub others_there : Holds vars (length (result_pointer f) + length f.params + length (copied_params f)) others
  others_there =
      let a = holds_append vars 0 (result_pointer f ++ as_run ++ copied_params f) others named in
      let d = length-append (result_pointer f ++ as_run) (copied_params f) in
      let e = length-append (result_pointer f) as_run in
      holds_at vars (0 + length (result_pointer f ++ as_run ++ copied_params f))
      (length (result_pointer f) + length f.params + length (copied_params f)) others
      (omega (arith, d, e, params_count)) a.1

  -- how many there are
  pub named_count : length (named_variables f) ≡ length (result_pointer f) + length (copied_params f) + length f.vars
  named_count =
      let c = length-append (result_pointer f ++ as_run ++ copied_params f) others in
      let d = length-append (result_pointer f ++ as_run) (copied_params f) in
      let e = length-append (result_pointer f) as_run in
      let g : length others ≡ length f.vars - length f.params =
      length-map (drop (length f.params) f.vars) passed_variable ∙ length-drop (length f.params) f.vars in
      omega (arith, c, d, e, g, params_count, enough)

  pub vars_count : length vars ≡ length (named_variables f) + length (hidden_of names f.body)
  vars_count = length-append (named_variables f) (hidden_of names f.body)

  param_numbered : (k : ℕ) (v : Variable) → k < length f.params → slice_get f.vars k ≡ Some v →
      variable_number f k ≡ param_number f k (Some v)
  param_numbered k v l e =
      ap (λ b. if b then param_number f k (slice_get f.vars k)
      else length (result_pointer f) + length (copied_params f) + k) (lt-ltb k (length f.params) l)
      ∙ ap (param_number f k) e

  pub other_numbered : (k : ℕ) → length f.params ≤ k →
      variable_number f k ≡ length (result_pointer f) + length (copied_params f) + k
  other_numbered k l = ap (λ b. if b then param_number f k (slice_get f.vars k)
      else length (result_pointer f) + length (copied_params f) + k) (le-ltb k (length f.params) l)

  abbrev before : ℕ → ℕ
  before k = length (flat_map copied_param (take k (written_params f)))

  param_there : (k : ℕ) (v : Variable) → k < length f.params → slice_get f.vars k ≡ Some v → (b : Bool) →
      by_pointer v.of ≡ b → slice_get vars (variable_number f k) ≡ Some (passed_variable v)
  param_there k v l e true b =
      let n : variable_number f k ≡ length (result_pointer f) + length f.params + before k =
      param_numbered k v l e ∙ ap (λ b. length (result_pointer f) + (if b then length f.params + before k else k)) b
      ∙ omega arith in
      let w : slice_get (written_params f) k ≡ Some v = get_take (length f.params) f.vars k l ∙ e in
      ap (slice_get vars) n ∙ copies_there (before k) v (copied_at (written_params f) k v w b)
      ∙ ap Some (sym (copy_kept v b))
  param_there k v l e false b =
      let n : variable_number f k ≡ length (result_pointer f) + k =
      param_numbered k v l e ∙ ap (λ b. length (result_pointer f)
      + (if b then length f.params + before k else k)) b in
      let w : slice_get (written_params f) k ≡ Some v = get_take (length f.params) f.vars k l ∙ e in
      ap (slice_get vars) n ∙ params_there k (passed_param v) (mapped passed_param (written_params f) k v w)
      ∙ ap Some (param_plain v b)

  -- a written variable, also a parameter that is copied
  pub variable_there : (k : ℕ) (v : Variable) → slice_get f.vars k ≡ Some v →
      slice_get vars (variable_number f k) ≡ Some (passed_variable v)
  variable_there k v e =
      ⊎_elim (λ l. param_there k v l e (by_pointer v.of) refl)
      (λ l.
      let j = k - length f.params in
      let is : k ≡ length f.params + j = omega (arith, l) in
      let d : slice_get (drop (length f.params) f.vars) j ≡ Some v = get_drop (length f.params) f.vars j k is ∙ e in
      let n : variable_number f k ≡ length (result_pointer f) + length f.params + length (copied_params f) + j =
      other_numbered k l ∙ omega (arith, is) in
      ap (slice_get vars) n ∙ others_there j (passed_variable v)
      (mapped passed_variable (drop (length f.params) f.vars) j v d))
      (cases_lt k (length f.params))

  -- the numbers that a block declares
  pub renumbered_below : (ks : List ℕ) → AllBelow (length f.vars) ks →
      AllBelow (length vars) (map (variable_number f) ks)
  renumbered_below ks h = below_map (length f.vars) (length vars) (variable_number f) ks
      (λ k l. let v = item_below f.vars k l in
      slice_get_within vars (variable_number f k) (passed_variable v.0) (variable_there k v.0 v.1)) h

  pub opened_below : (ks : List ℕ) → AllBelow (length f.vars) ks →
      AllBelow (length vars) (numbers_from (length (result_pointer f) + length f.params) (length (copied_params f))
      ++ map (variable_number f) ks ++ numbers_from (length (named_variables f))
      (length (hidden_of names f.body)))
  opened_below ks h =
      let copied = numbers_from (length (result_pointer f) + length f.params) (length (copied_params f)) in
      let renumbered = map (variable_number f) ks in
      below_append (length vars) (copied ++ renumbered)
      (numbers_from (length (named_variables f)) (length (hidden_of names f.body)))
      (below_append (length vars) copied renumbered
      (numbers_below (length vars) (length (result_pointer f) + length f.params) (length (copied_params f))
      (omega (arith, vars_count, named_count, enough))) (renumbered_below ks h))
      (numbers_below (length vars) (length (named_variables f)) (length (hidden_of names f.body))
      (omega (arith, vars_count)))

-- ---- the result's pointer

pub result_there : (names : Names) (f : Routine) (r : Ty) (ps : Tys) → f.of ≡ Function r ps → by_pointer r ≡ true →
    slice_get (passed_routine names f).vars 0 ≡ Some (result_variable f (Pointer (bare r)))
result_there names f r ps is b =
    let as_run = map passed_param (written_params f) in
    let others = map passed_variable (drop (length f.params) f.vars) in
    let e : result_types f.of ≡ Pointer (bare r) ∷ [] =
    ap result_types is ∙ ap (λ b. if b then Pointer (bare r) ∷ [] else []) b in
    let v = result_variable f (Pointer (bare r)) in
    let first : slice_get (result_pointer f) 0 ≡ Some v = ap (λ ts. slice_get (map (result_variable f) ts) 0) e in
    get_left (named_variables f) (hidden_of names f.body) 0 v
    (get_left (result_pointer f ++ as_run ++ copied_params f) others 0 v
    (get_left (result_pointer f ++ as_run) (copied_params f) 0 v (get_left (result_pointer f) as_run 0 v first)))

-- ---- each of them

-- what holds of the result's pointer, of each written variable, of each parameter that is a pointer to one, and of each
-- hidden local
pub every_variable : (P : Variable → Type 0) (names : Names) (f : Routine) →
    ((r : Ty) (ps : Tys) → f.of ≡ Function r ps → P (result_variable f (Pointer (bare r)))) →
    ((k : ℕ) (v : Variable) → slice_get f.vars k ≡ Some v → P (passed_variable v)) →
    ((k : ℕ) (v : Variable) → slice_get f.vars k ≡ Some v → P (record v { of = Pointer (bare v.of); simple = true })) →
    Each P (hidden_of names f.body) →
    Each P (passed_routine names f).vars
every_variable P names f result written param hidden =
    let as_run = map passed_param (written_params f) in
    let others = map passed_variable (drop (length f.params) f.vars) in
    let within = λ (k : ℕ) (v : Variable) (e : slice_get (written_params f) k ≡ Some v).
    from_take (length f.params) f.vars k v e in
    let in_written : (k : ℕ) (v : Variable) → slice_get (written_params f) k ≡ Some v → P (passed_variable v) =
    λ k v e. written k v (within k v e) in
    each_append P (named_variables f) (hidden_of names f.body)
    (each_append P (result_pointer f ++ as_run ++ copied_params f) others
    (each_append P (result_pointer f ++ as_run) (copied_params f)
    (each_append P (result_pointer f) as_run
    (each_result f.of refl)
    (each_map P passed_param (written_params f)
    (λ k v e. either P (by_pointer v.of) (record v { of = Pointer (bare v.of); simple = true })
    (passed_variable v) (λ b. param k v (within k v e)) (λ b. in_written k v e))))
    (each_flat P copied_param (written_params f)
    (λ k v e. each_if P (by_pointer v.of) v (λ b. subst P (copy_kept v b) (in_written k v e)))))
    (each_map P passed_variable (drop (length f.params) f.vars)
    (λ k v e. written (length f.params + k) v
    (sym (get_drop (length f.params) f.vars k (length f.params + k) refl) ∙ e))))
    hidden
  where
    each_result : (t : Ty) → f.of ≡ t → Each P (map (result_variable f) (result_types t))
    each_result (Function r ps) is = by (by_pointer r)
      where
        by : (b : Bool) → Each P (map (result_variable f) (if b then Pointer (bare r) ∷ [] else []))
        by true k v e = each_if P true (result_variable f (Pointer (bare r))) (λ e. result r ps is) k v e
        by false k v e = absurd cc
    each_result t is = each_none P

pub passed_complete : (C : Ty → Type 0) (names : Names) (f : Routine) → ((t : Ty) → C (Pointer t)) →
    ((k : ℕ) (v : Variable) → slice_get f.vars k ≡ Some v → C (passed v.of)) → ActionCalls C f.body →
    (k : ℕ) (v : Variable) → slice_get (passed_routine names f).vars k ≡ Some v → C v.of
passed_complete C names f pointer written calls =
    every_variable (λ v. C v.of) names f (λ r ps is. pointer (bare r)) (λ k v e. written k v e)
    (λ k v e. pointer (bare v.of))
    (λ j v e. (hidden_fit C names f.body calls j v e).0)

pub passed_simple : (names : Names) (f : Routine) →
    ((k : ℕ) (v : Variable) → slice_get f.vars k ≡ Some v → v.simple ≡ true → is_scalar (bare v.of) ≡ true) →
    (k : ℕ) (v : Variable) → slice_get (passed_routine names f).vars k ≡ Some v → v.simple ≡ true →
    is_scalar (bare v.of) ≡ true
passed_simple names f written =
    every_variable (λ v. v.simple ≡ true → is_scalar (bare v.of) ≡ true) names f (λ r ps is s. refl)
    (λ k v e s. bare_scalar_passed v.of ∙ written k v e s) (λ k v e s. refl)
    (λ j v e s. absurd (false≢true (sym (hidden_plain names f.body j v e) ∙ s)))
