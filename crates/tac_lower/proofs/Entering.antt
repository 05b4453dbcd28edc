-- The variables that blocks enter, and what is spent at a function's begin and end.
use Rattle.std.proofs.Common.{◌≡◌, ℕ, zero, suc, ◌+◌, ◌-◌, ◌*◌, ◌<◌, ◌≤◌, Bool, true, false, List, [], ◌∷◌}
use Rattle.std.proofs.Common.{length, take, get_or, refl, ap, ◌⊎◌, ⊎_elim, inl, inr, ◌∙◌, subst, arith}
use Rattle.std.specs.Prelude.{nat_lt, ◌==◌, if◌then◌else◌}
use Rattle.std.specs.List.{sum_by}
use Rattle.std.proofs.lemmas.Bool.{cases_lt}
use Rattle.std.proofs.lemmas.Bool.Decides.{nat_tests}
use Rattle.std.proofs.lemmas.List.Sums.{sum_by-cons, sum_by_more, sum_by-take-le}
use Rattle.c_tree.specs.Terms.{Form, Action, action}
use Rattle.c_tree.specs.Terms as tree
use Rattle.c_tree.specs.TreeWeight.{form_weight, terms_weight, actions_weight, action_weight}
use Rattle.c_tree.specs.Views.{times_in, actions_of, action_at}
use Rattle.c_tree.specs.WellTyped.{FunctionFits, declared}
use Rattle.c_tree.specs.declared.typed.FunDef.{FunDef}
use Rattle.c_tree.specs.declared.typed.Typed.{Typed}
use Rattle.tac_ir.specs.Costs.{cost, outgoing}
use Rattle.tac_ir.specs.Within.{FunctionCosts, copied_parts, function_copies}
use Rattle.tac_ir.specs.declared.code.TacFun.{TacFun}
use Rattle.tac_emit.specs.declared.emitter.Emitter.{Emitter}
use Rattle.tac_lower.specs.Functions.{Makes}
use Rattle.tac_lower.specs.Parts.{is_entered, entered, entered_in, all_entered_in}
use Rattle.tac_emit.specs.Spent.{places, words, copying}
use Rattle.tac_lower.proofs.Calling.{places_small}

pub entered_one : (d : FunDef) (x : ℕ) → length d.params ≤ x → x < length d.vars → entered d (x ∷ []) ≡ 1
entered_one d x past lt =
    let f = is_entered (length d.params) (length d.vars) in
    let no : nat_lt x (length d.params) ≡ false = grind (arith, nat_tests) in
    let yes : nat_lt x (length d.vars) ≡ true = grind (arith, nat_tests) in
    let one : f x ≡ 1 = ap (λ b. if b then 0 else (if nat_lt x (length d.vars) then 1 else 0)) no
    ∙ ap (λ b. if b then 1 else 0) yes in
    let none : sum_by f [] ≡ 0 = refl in
    sum_by-cons f x [] ∙ omega (arith, one, none)

pub entered_next : (d : FunDef) (xs : List ℕ) (i : ℕ) → i < length xs →
    entered d (take (i + 1) xs) ≡ entered d (take i xs) + entered d (get_or xs i 0 ∷ [])
entered_next d xs i lt =
    let f = is_entered (length d.params) (length d.vars) in
    omega (arith, sum_by_more f xs i 0 lt, sum_by-cons f (get_or xs i 0) [])

pub entered_taken : (d : FunDef) (xs : List ℕ) (i : ℕ) → entered d (take i xs) ≤ entered d xs
entered_taken d xs i = sum_by-take-le (is_entered (length d.params) (length d.vars)) xs i

pub all_entered_next : (p : Typed) (d : FunDef) (ks : List ℕ) (i : ℕ) → i < length ks
    → all_entered_in p d (take (i + 1) ks) ≡ all_entered_in p d (take i ks) + entered_in p d (get_or ks i 0)
all_entered_next p d ks i lt = sum_by_more (λ k. entered_in p d k) ks i 0 lt

pub all_entered_taken : (p : Typed) (d : FunDef) (ks : List ℕ) (i : ℕ) →
    all_entered_in p d (take i ks) ≤ all_entered_in p d ks
all_entered_taken p d ks i = sum_by-take-le (λ k. entered_in p d k) ks i

-- a statement weighs 1 at least
pub hefty : (x : Action) → 1 ≤ action_weight x
hefty (action f xs ys p) = by f (terms_weight xs) (actions_weight ys)
  where
    by : (f : Form) (m n : ℕ) → 1 ≤ form_weight f + m + n
    by (tree.Switch vars labels) m n = omega arith
    by f m n = omega arith

-- ---- each variable that is no parameter is entered once

-- one number more is entered as often as it stands there
entered_wider : (n m : ℕ) (xs : List ℕ) → n ≤ m →
    sum_by (is_entered n (m + 1)) xs ≡ sum_by (is_entered n m) xs + times_in m xs
entered_wider n m [] h = omega arith
entered_wider n m (x ∷ xs) h =
    omega (
      arith,
      sum_by-cons (is_entered n (m + 1)) x xs,
      sum_by-cons (is_entered n m) x xs,
      sum_by-cons (λ j. if j == m then 1 else 0) x xs,
      one (cases_lt x n),
      entered_wider n m xs h,
    )
  where
    -- below n, from n to m, m itself, and above
    one : (x < n) ⊎ (n ≤ x) → is_entered n (m + 1) x ≡ is_entered n m x + (if x == m then 1 else 0)
    one (inl lt) =
        let a : nat_lt x n ≡ true = grind (arith, nat_tests) in
        let e : (x == m) ≡ false = grind (arith, nat_tests) in
        rw a (rw e refl)
    one (inr le) =
        let a : nat_lt x n ≡ false = grind (arith, nat_tests) in
        rw a (⊎_elim
        (λ (lt : x < m).
        let b : nat_lt x (m + 1) ≡ true = grind (arith, nat_tests) in
        let c : nat_lt x m ≡ true = grind (arith, nat_tests) in
        let e : (x == m) ≡ false = grind (arith, nat_tests) in
        rw b (rw c (rw e refl)))
        (λ (past : m ≤ x). ⊎_elim
        (λ (over : m < x).
        let b : nat_lt x (m + 1) ≡ false = grind (arith, nat_tests) in
        let c : nat_lt x m ≡ false = grind (arith, nat_tests) in
        let e : (x == m) ≡ false = grind (arith, nat_tests) in
        rw b (rw c (rw e refl)))
        (λ (same : x ≤ m).
        let b : nat_lt x (m + 1) ≡ true = grind (arith, nat_tests) in
        let c : nat_lt x m ≡ false = grind (arith, nat_tests) in
        let e : (x == m) ≡ true = grind (arith, nat_tests) in
        rw b (rw c (rw e refl))) (cases_lt m x)) (cases_lt x m))

abbrev twice_tested : Bool → ℕ
twice_tested a = if a then 0 else (if a then 1 else 0)

nothing_twice : (a : Bool) → twice_tested a ≡ 0
nothing_twice true = refl
nothing_twice false = refl

none_entered : (n : ℕ) (xs : List ℕ) → sum_by (is_entered n n) xs ≡ 0
none_entered n [] = refl
none_entered n (x ∷ xs) =
    omega (arith, sum_by-cons (is_entered n n) x xs, nothing_twice (nat_lt x n), none_entered n xs)

entered_once : (n k m : ℕ) (xs : List ℕ) → ((j : ℕ) → n ≤ j → j < m → times_in j xs ≡ 1) → n + k ≤ m →
    sum_by (is_entered n (n + k)) xs ≡ k
entered_once n zero m xs once h =
    let e : n ≡ n + zero = omega arith in
    subst (λ z. sum_by (is_entered n z) xs ≡ zero) e (none_entered n xs)
entered_once n (suc k) m xs once h =
    let e = entered_wider n (n + k) xs (omega arith) in
    let before = entered_once n k m xs once (omega arith) in
    let last = once (n + k) (omega arith) (omega arith) in
    let same : n + k + 1 ≡ n + suc k = omega arith in
    subst (λ z. sum_by (is_entered n z) xs ≡ suc k) same (omega (arith, e, before, last))

pub entered_few : {p : Typed} {d : FunDef} → FunctionFits p d → length d.params ≤ length d.vars →
    entered_in p d d.body + length d.params ≡ length d.vars
entered_few {p = p} {d = d} h few =
    let n = length d.params in
    let k = length d.vars - length d.params in
    let all : sum_by (is_entered n (n + k)) (declared (action_at (actions_of p) d.body)) ≡ k =
    entered_once n k (length d.vars) (declared (action_at (actions_of p) d.body)) h.declared_once
    (omega arith) in
    let same : n + k ≡ length d.vars = omega arith in
    omega (arith, subst (λ z. sum_by (is_entered n z) (declared (action_at (actions_of p) d.body)) ≡ k) same all)

-- ---- a function

pub empty_places : (e : Emitter) → e.code.items ≡ [] → e.kinds.items ≡ [] → places e ≡ 0
unfolding places
empty_places e code kinds = omega (arith, ap length kinds, ap outgoing code)

pub empty_words : (e : Emitter) → e.code.items ≡ [] → words e ≡ 0
unfolding words
empty_words e code = ap (sum_by cost) code

pub empty_copying : (e : Emitter) → e.code.items ≡ [] → copying e ≡ 0
unfolding copying
empty_copying e code = ap (sum_by copied_parts) code

pub finished_copies : {d : FunDef} {e : Emitter} {f : TacFun} → Makes d e f → function_copies f ≡ copying e
unfolding copying
finished_copies m = ap (sum_by copied_parts) m.code

pub finished_costs : {d : FunDef} {e : Emitter} {f : TacFun} (w : ℕ) → Makes d e f → places e ≤ 2 * w
    → 64 + 6 * length d.params + words e ≤ 32 * w → FunctionCosts w f
unfolding places words
finished_costs {d = d} {e = e} {f = f} w m p q = record {
  cost = omega (arith, places_small f.params, m.params, ap (sum_by cost) m.code, q);
  temps = omega (arith, m.temps, ap outgoing m.code, p);
}
