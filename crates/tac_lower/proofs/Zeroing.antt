-- The objects that become zero: each once, and before its pointer is made.
use Rattle.std.proofs.Common.{◌≡◌, ℕ, zero, suc, ◌+◌, ◌-◌, ◌<◌, ◌≤◌, ◌⊎◌, ⊎_elim, inl, inr, Bool, true, false, List, []}
use Rattle.std.proofs.Common.{◌∷◌}
use Rattle.std.proofs.Common.{◌++◌, length, take, get_or, Option, Some, None, refl, sym, ap, ◌∙◌, subst, arith}
use Rattle.std.specs.Prelude.{slice_get, nat_lt, ◌==◌, if◌then◌else◌, flat_map}
use Rattle.std.specs.List.{sum_by}
use Rattle.std.proofs.lemmas.Bool.{cases_lt}
use Rattle.std.proofs.lemmas.Bool.Decides.{nat_tests}
use Rattle.std.proofs.lemmas.List.Sums.{sum_by-cons, sum_by-append, sum_by_more, sum_by-take-le}
use Rattle.c_tree.proofs.Uses.{upto, sum_upto}
use Rattle.c_tree.specs.Views.{times_in, actions_of, action_at}
use Rattle.c_tree.specs.WellTyped.{FunctionFits, declared}
use Rattle.c_tree.specs.declared.typed.FunDef.{FunDef}
use Rattle.c_tree.specs.declared.typed.Typed.{Typed}
use Rattle.tac_ir.specs.Meaning.{is_label}
use Rattle.tac_ir.specs.Temps.{IsIn, Awaits, locals, zeros, behind}
use Rattle.tac_ir.specs.Temps.Awaits.{now, onward, ahead, back}
use Rattle.tac_ir.specs.Within.{zeroes}
use Rattle.tac_ir.specs.declared.code.TacFun.{TacFun}
use Rattle.tac_ir.specs.declared.code.TacInstr.{TacInstr}
use Rattle.tac_ir.specs.declared.code.TacInstr.TheVariants as instr
use Rattle.tac_lower.specs.declared.context.Home.{Home}
use Rattle.tac_lower.specs.declared.context.Home.TheVariants as home
use Rattle.tac_emit.specs.declared.emitter.Emitter.{Emitter}
use Rattle.tac_lower.specs.Functions.{Makes}
use Rattle.tac_emit.specs.Spent.{zeroing, lone}
use Rattle.tac_emit.specs.Lone.{zeroed_by, is_other, is_lone, lone_behind}
use Rattle.tac_lower.specs.Zeroed.{is_object, is_taken, taken, is_zeroed}
use Rattle.tac_lower.specs.Zeroed.{zeroed}
use Rattle.tac_lower.specs.Zeroed.{zeroed_in, all_zeroed_in, ZeroesOnce}

-- ---- the variables that are entered

pub taken_one : (homes : List Home) (x n t v : ℕ) → slice_get homes x ≡ Some (home.Object n t) →
    is_taken homes v x ≡ (if n == v then 1 else 0)
taken_one homes x n t v there = ap (is_object v) there

pub taken_next : (homes : List Home) (xs : List ℕ) (i v : ℕ) → i < length xs →
    taken homes (take (i + 1) xs) v ≡ taken homes (take i xs) v + is_taken homes v (get_or xs i 0)
taken_next homes xs i v lt = sum_by_more (is_taken homes v) xs i 0 lt

pub taken_some : (homes : List Home) (xs : List ℕ) (i v : ℕ) → taken homes (take i xs) v ≤ taken homes xs v
taken_some homes xs i v = sum_by-take-le (is_taken homes v) xs i

pub zeroed_one : (d : FunDef) (homes : List Home) (x n t v : ℕ) → length d.params ≤ x →
    slice_get homes x ≡ Some (home.Object n t) → zeroed d homes (x ∷ []) v ≡ (if n == v then 1 else 0)
zeroed_one d homes x n t v past there =
    let f = is_zeroed (length d.params) homes v in
    let no : nat_lt x (length d.params) ≡ false = grind (arith, nat_tests) in
    let one : f x ≡ is_taken homes v x = ap (λ b. if b then 0 else is_taken homes v x) no in
    let none : sum_by f [] ≡ 0 = refl in
    omega (arith, sum_by-cons f x [], one, none, taken_one homes x n t v there)

pub zeroed_next : (d : FunDef) (homes : List Home) (xs : List ℕ) (i v : ℕ) → i < length xs →
    zeroed d homes (take (i + 1) xs) v ≡ zeroed d homes (take i xs) v + zeroed d homes (get_or xs i 0 ∷ []) v
zeroed_next d homes xs i v lt =
    let f = is_zeroed (length d.params) homes v in
    omega (arith, sum_by_more f xs i 0 lt, sum_by-cons f (get_or xs i 0) [])

pub zeroed_some : (d : FunDef) (homes : List Home) (xs : List ℕ) (i v : ℕ) →
    zeroed d homes (take i xs) v ≤ zeroed d homes xs v
zeroed_some d homes xs i v = sum_by-take-le (is_zeroed (length d.params) homes v) xs i

pub all_zeroed_next : (p : Typed) (d : FunDef) (homes : List Home) (ks : List ℕ) (i v : ℕ) → i < length ks →
    all_zeroed_in p d homes (take (i + 1) ks) v
    ≡ all_zeroed_in p d homes (take i ks) v + zeroed_in p d homes (get_or ks i 0) v
all_zeroed_next p d homes ks i v lt = sum_by_more (λ k. zeroed_in p d homes k v) ks i 0 lt

pub all_zeroed_taken : (p : Typed) (d : FunDef) (homes : List Home) (ks : List ℕ) (i v : ℕ) →
    all_zeroed_in p d homes (take i ks) v ≤ all_zeroed_in p d homes ks v
all_zeroed_taken p d homes ks i v = sum_by-take-le (λ k. zeroed_in p d homes k v) ks i

-- ---- the numbers of objects

-- how many homes are object v
abbrev numbered : List Home → ℕ → ℕ
numbered hs v = sum_by (λ h. is_object v (Some h)) hs

-- of the homes so far, each number is that of one object, and those from a number on are none's
pub record Apart (homes : List Home) (m : ℕ) : Type 0 where
  pub once : (v : ℕ) → sum_by (λ h. is_object v (Some h)) homes ≤ 1
  pub past : (v : ℕ) → m ≤ v → sum_by (λ h. is_object v (Some h)) homes ≡ 0

pub apart_none : (m : ℕ) → Apart [] m
apart_none m = record { once = λ v. omega arith; past = λ v le. refl }

pub apart_more : (hs : List Home) (h : Home) (s : Bool) (m n : ℕ) → Apart hs m →
    ((v : ℕ) → is_object v (Some h) ≤ (if s then 0 else (if m == v then 1 else 0))) → (s ≡ true → n ≡ m) →
    (s ≡ false → n ≡ m + 1) → Apart (hs ++ h ∷ []) n
apart_more hs h s m n a q same next = record {
  once = λ v. omega (arith, sum v, first s v (q v));
  past = λ v le. omega (arith, sum v, second s v le (q v) same next);
}
  where
    sum : (v : ℕ) → numbered (hs ++ h ∷ []) v ≡ numbered hs v + is_object v (Some h)
    sum v = omega (
      arith,
      sum_by-append (λ g. is_object v (Some g)) hs (h ∷ []),
      sum_by-cons (λ g. is_object v (Some g)) h [],
    )

    either : (b : Bool) → (b ≡ true) ⊎ (b ≡ false)
    either true = inl refl
    either false = inr refl

    one : (v : ℕ) → ((m == v) ≡ true) ⊎ ((m == v) ≡ false) → is_object v (Some h) ≤ (if m == v then 1 else 0) →
        numbered hs v + is_object v (Some h) ≤ 1
    one v (inl e) le =
        let at : m ≤ v = grind (arith, nat_tests) in
        omega (arith, a.past v at, le, ap {B = ℕ} (λ b. if b then 1 else 0) e)
    one v (inr e) le = omega (arith, a.once v, le, ap {B = ℕ} (λ b. if b then 1 else 0) e)

    first : (s : Bool) (v : ℕ) → is_object v (Some h) ≤ (if s then 0 else (if m == v then 1 else 0)) →
        numbered hs v + is_object v (Some h) ≤ 1
    first true v le = omega (arith, a.once v, le)
    first false v le = one v (either (m == v)) le

    second : (s : Bool) (v : ℕ) → n ≤ v → is_object v (Some h) ≤ (if s then 0 else (if m == v then 1 else 0)) →
        (s ≡ true → n ≡ m) → (s ≡ false → n ≡ m + 1) → numbered hs v + is_object v (Some h) ≡ 0
    second true v le q same next = omega (arith, a.past v (omega (arith, same refl, le)), q)
    second false v le q same next =
        let more : n ≡ m + 1 = next refl in
        let no : (m == v) ≡ false = grind (arith, nat_tests) in
        omega (arith, a.past v (omega (arith, more, le)), q, ap {B = ℕ} (λ b. if b then 1 else 0) no)

-- ---- each variable is entered once

upto_last : (f : ℕ → ℕ) (a n : ℕ) → upto f a (suc n) ≡ upto f a n + f (a + n)
upto_last f a zero = let z : a + 0 ≡ a = omega arith in omega (arith, ap f z)
upto_last f a (suc n) =
    let z : suc a + n ≡ a + suc n = omega arith in omega (arith, upto_last f (suc a) n, ap f z)

upto_both : (f : ℕ → ℕ) (a b m n k : ℕ) → m + n ≡ k → a + m ≡ b → upto f a k ≡ upto f a m + upto f b n
upto_both f a b zero n k e g =
    let y : k ≡ n = omega (arith, e) in
    let z : b ≡ a = omega (arith, g) in
    omega (arith, ap (upto f a) y, ap (λ c. upto f c n) z)
upto_both f a b (suc m) n zero e g = absurd (omega (arith, e))
upto_both f a b (suc m) n (suc k) e g =
    omega (arith, upto_both f (suc a) b m n k (omega (arith, e)) (omega (arith, g)))

module _ (g : ℕ → ℕ) (small : (x : ℕ) → g x ≤ 1) (n : ℕ) where
  abbrev ranged : ℕ → ℕ → ℕ
  ranged m x = if nat_lt x n then 0 else (if nat_lt x m then g x else 0)

  abbrev at_one : (m c x : ℕ) → ℕ
  at_one m c x = if x == m then c else 0

  no_sum : (m : ℕ) (xs : List ℕ) → sum_by (at_one m 0) xs ≡ 0
  no_sum m [] = refl
  no_sum m (x ∷ xs) = omega (arith, sum_by-cons (at_one m 0) x xs, no_sum m xs, none (x == m))
    where
      none : (b : Bool) → ◌≡◌ {A = ℕ} (if b then 0 else 0) 0
      none true = refl
      none false = refl

  one_sum : (m c : ℕ) (xs : List ℕ) → times_in m xs ≡ 1 → c ≤ 1 → sum_by (at_one m c) xs ≡ c
  one_sum m zero xs h le = no_sum m xs
  one_sum m (suc zero) xs h le = h
  one_sum m (suc (suc c)) xs h le = absurd (omega (arith, le))

  wider : (m : ℕ) (xs : List ℕ) → n ≤ m →
      sum_by (ranged (m + 1)) xs ≡ sum_by (ranged m) xs + sum_by (at_one m (g m)) xs
  wider m [] h = omega arith
  wider m (x ∷ xs) h =
      omega (
        arith,
        sum_by-cons (ranged (m + 1)) x xs,
        sum_by-cons (ranged m) x xs,
        sum_by-cons (at_one m (g m)) x xs,
        one (cases_lt x n),
        wider m xs h,
      )
    where
      -- below n, from n to m, m itself, and above
      one : (x < n) ⊎ (n ≤ x) → ranged (m + 1) x ≡ ranged m x + at_one m (g m) x
      one (inl lt) =
          let a : nat_lt x n ≡ true = grind (arith, nat_tests) in
          let e : (x == m) ≡ false = grind (arith, nat_tests) in
          rw a (rw e refl)
      one (inr le) =
          let a : nat_lt x n ≡ false = grind (arith, nat_tests) in
          rw a (⊎_elim
          (λ (lt : x < m).
          let b : nat_lt x (m + 1) ≡ true = grind (arith, nat_tests) in
          let c : nat_lt x m ≡ true = grind (arith, nat_tests) in
          let e : (x == m) ≡ false = grind (arith, nat_tests) in
          rw b (rw c (rw e (omega arith))))
          (λ (past : m ≤ x). ⊎_elim
          (λ (over : m < x).
          let b : nat_lt x (m + 1) ≡ false = grind (arith, nat_tests) in
          let c : nat_lt x m ≡ false = grind (arith, nat_tests) in
          let e : (x == m) ≡ false = grind (arith, nat_tests) in
          rw b (rw c (rw e refl)))
          (λ (same : x ≤ m).
          let b : nat_lt x (m + 1) ≡ true = grind (arith, nat_tests) in
          let c : nat_lt x m ≡ false = grind (arith, nat_tests) in
          let e : (x == m) ≡ true = grind (arith, nat_tests) in
          let is : x ≡ m = omega arith in
          rw b (rw c (rw e (omega (arith, ap g is))))) (cases_lt m x)) (cases_lt x m))

  none_ranged : (xs : List ℕ) → sum_by (ranged n) xs ≡ 0
  none_ranged [] = refl
  none_ranged (x ∷ xs) = omega (arith, sum_by-cons (ranged n) x xs, twice (nat_lt x n), none_ranged xs)
    where
      twice : (b : Bool) → (if b then 0 else (if b then g x else 0)) ≡ 0
      twice true = refl
      twice false = refl

  ranged_once : (k : ℕ) (xs : List ℕ) → ((j : ℕ) → n ≤ j → j < n + k → times_in j xs ≡ 1) →
      sum_by (ranged (n + k)) xs ≡ upto g n k
  ranged_once zero xs once =
      let e : n ≡ n + zero = omega arith in subst (λ z. sum_by (ranged z) xs ≡ zero) e (none_ranged xs)
  ranged_once (suc k) xs once =
      let before = ranged_once k xs (λ j le lt. once j le (omega arith)) in
      let last = one_sum (n + k) (g (n + k)) xs (once (n + k) (omega arith) (omega arith)) (small (n + k)) in
      let same : n + k + 1 ≡ n + suc k = omega arith in
      let end : upto g n (suc k) ≡ upto g n k + g (n + k) = upto_last g n k in
      subst (λ z. sum_by (ranged z) xs ≡ upto g n (suc k)) same
      (omega (arith, wider (n + k) xs (omega arith), before, last, end))

  -- where nothing counts from m on
  ranged_all : (m : ℕ) (xs : List ℕ) → ((x : ℕ) → m ≤ x → g x ≡ 0) →
      sum_by (λ x. if nat_lt x n then 0 else g x) xs ≡ sum_by (ranged m) xs
  ranged_all m [] none = refl
  ranged_all m (x ∷ xs) none =
      omega (
        arith,
        sum_by-cons (λ y. if nat_lt y n then 0 else g y) x xs,
        sum_by-cons (ranged m) x xs,
        one (nat_lt x n),
        ranged_all m xs none,
      )
    where
      inner : (x < m) ⊎ (m ≤ x) → g x ≡ (if nat_lt x m then g x else 0)
      inner (inl lt) = let c : nat_lt x m ≡ true = grind (arith, nat_tests) in rw c refl
      inner (inr le) = let c : nat_lt x m ≡ false = grind (arith, nat_tests) in rw c (none x le)

      one : (b : Bool) → (if b then 0 else g x) ≡ (if b then 0 else (if nat_lt x m then g x else 0))
      one true = refl
      one false = inner (cases_lt x m)

object_small : (v : ℕ) (h : Option Home) → is_object v h ≤ 1
object_small v None = omega arith
object_small v (Some (home.Temp t k)) = omega arith
object_small v (Some (home.Object n t)) = by (n == v)
  where
    by : (b : Bool) → (if b then 1 else 0) ≤ 1
    by true = omega arith
    by false = omega arith

get_past : {A : Type 0} (xs : List A) (x : ℕ) → length xs ≤ x → slice_get xs x ≡ None
get_past [] x le = refl
get_past (y ∷ xs) zero le = absurd (omega (arith, le))
get_past (y ∷ xs) (suc x) le = get_past xs x (omega (arith, le))

some_same : (a b : ℕ) → Some a ≡ Some b → a ≡ b
some_same a b e = cc

slice_get_below : (xs : List ℕ) (k a : ℕ) → slice_get xs k ≡ Some a → k < length xs
slice_get_below [] k a e = absurd cc
slice_get_below (x ∷ xs) zero a e = omega arith
slice_get_below (x ∷ xs) (suc k) a e = omega (arith, slice_get_below xs k a e)

pub objects_once : {p : Typed} {d : FunDef} → FunctionFits p d → (homes : List Home) → length homes ≡ length d.vars →
    length d.params ≤ length d.vars → (v : ℕ) → sum_by (λ h. is_object v (Some h)) homes ≤ 1 →
    taken homes d.params v + zeroed_in p d homes d.body v ≤ 1
objects_once {p = p} {d = d} fits homes many few v once =
    let g = is_taken homes v in
    let n = length d.params in
    let m = length d.vars in
    let k = length d.vars - length d.params in
    let xs = declared (action_at (actions_of p) d.body) in
    let small : (x : ℕ) → g x ≤ 1 = λ x. object_small v (slice_get homes x) in
    let params : sum_by g d.params ≡ upto g 0 n = sum_upto g g d.params 0
    (λ j e q. let z : 0 + j ≡ j = omega arith in
    rw z (ap g (some_same e j (sym q ∙ fits.params_first j (slice_get_below d.params j e q))))) in
    let all : sum_by (λ h. is_object v (Some h)) homes ≡ upto g 0 (length homes) =
    sum_upto (λ h. is_object v (Some h)) g homes 0
    (λ j h q. let z : 0 + j ≡ j = omega arith in rw z (ap (is_object v) (sym q))) in
    let blocks = ranged_all g small n m xs
    (λ x le. ap (is_object v) (get_past homes x (omega (arith, many, le)))) in
    let same : n + k ≡ m = omega arith in
    let each : sum_by (ranged g small n (n + k)) xs ≡ upto g n k = ranged_once g small n k xs
    (λ j le lt. fits.declared_once j le (omega arith)) in
    let whole : upto g 0 m ≡ upto g 0 n + upto g n k = upto_both g 0 n n k m same (omega arith) in
    omega (
      arith,
      params,
      blocks,
      subst (λ z. sum_by (ranged g small n z) xs ≡ upto g n k) same each,
      all,
      ap (upto g 0) many,
      whole,
      once,
    )

-- ---- no pointer to a local is made before it becomes zero

other_none : (z : Option ℕ) (w : ℕ) → is_lone z (instr.Local 0 w) ≡ 0 → z ≡ Some w
other_none None w h = absurd (omega (arith, h))
other_none (Some v) w h = by (cases_eq (v == w)) h
  where
    cases_eq : (b : Bool) → (b ≡ true) ⊎ (b ≡ false)
    cases_eq true = inl refl
    cases_eq false = inr refl

    by : ((v == w) ≡ true) ⊎ ((v == w) ≡ false) → is_other (Some v) w ≡ 0 → Some v ≡ Some w
    by (inl e) h = let q : v ≡ w = grind (arith, nat_tests) in ap Some q
    by (inr e) h = absurd (let q : (if v == w then 0 else 1) ≡ 1 = ap {B = ℕ} (λ b. if b then 0 else 1) e in
        omega (arith, q, h))

label_ends : (i : TacInstr) (l : ℕ) → is_label i l ≡ true → zeroed_by i ≡ None
label_ends (instr.Zero v) l h = absurd cc
label_ends i l h = refl

-- behind a label no Zero comes before
behind_one : (l : ℕ) (i : TacInstr) (is : List TacInstr) (b : Bool) → is_label i l ≡ b →
    lone_behind (zeroed_by i) is ≡ 0 → lone_behind None (behind l is) ≡ 0 →
    lone_behind None (if b then is else behind l is) ≡ 0
behind_one l i is true e h rest = subst (λ y. lone_behind y is ≡ 0) (label_ends i l e) h
behind_one l i is false e h rest = rest

none_behind : (l : ℕ) (z : Option ℕ) (is : List TacInstr) → lone_behind z is ≡ 0 → lone_behind None (behind l is) ≡ 0
none_behind l z [] h = refl
none_behind l z (i ∷ is) h =
    let more : lone_behind (zeroed_by i) is ≡ 0 = omega (arith, h) in
    behind_one l i is (is_label i l) refl more (none_behind l (zeroed_by i) is more)

not_local : (i : TacInstr) (z : Option ℕ) (v : ℕ) → IsIn v (locals i) → is_lone z i ≡ 0 → z ≡ Some v
not_local (instr.Local to w) z v (zero, e) h = let q : w ≡ v = cc in subst (λ y. z ≡ Some y) q (other_none z w h)
not_local (instr.Local to w) z v (suc j, e) h = absurd cc
not_local i z v (j, e) h = absurd cc

not_zeroed : (i : TacInstr) (v : ℕ) → zeroed_by i ≡ Some v → IsIn v (zeros i)
not_zeroed (instr.Zero w) v e = (0, e)
not_zeroed i v e = absurd cc

none_none : (v : ℕ) → None ≡ Some v → ⊥
none_none v e = cc

module _ (whole : List TacInstr) (none : lone_behind None whole ≡ 0) (v : ℕ) where
  never : (is : List TacInstr) (z : Option ℕ) → lone_behind z is ≡ 0 → (z ≡ Some v → ⊥) →
      Awaits locals zeros whole is v → ⊥
  never [] z h other w = elim w [ ]
  never (i ∷ is) z h other (now e) = other (not_local i z v e (omega (arith, h)))
  never (i ∷ is) z h other (onward goes not rest) =
      never is (zeroed_by i) (omega (arith, h)) (λ e. not (not_zeroed i v e)) rest
  never (i ∷ is) z h other (ahead l leads rest) =
      never (behind l is) None (none_behind l (zeroed_by i) is (omega (arith, h))) (none_none v) rest
  never (instr.Turn ∷ i ∷ is) z h other (back l leads rest) =
      never (behind l whole) None (none_behind l None whole none) (none_none v) rest

-- ---- a function

pub empty_zeroing : (e : Emitter) → e.code.items ≡ [] → zeroing e ≡ []
unfolding zeroing
empty_zeroing e code = ap (flat_map zeros) code

-- as the Zeros of a local are counted
zeroes_one : (v : ℕ) (i : TacInstr) → zeroes v i ≡ times_in v (zeros i)
zeroes_one v (instr.Zero w) =
    omega (arith, sum_by-cons (λ j. if j == v then 1 else 0) w [])
zeroes_one v i = refl

zeroes_times : (v : ℕ) (is : List TacInstr) → sum_by (zeroes v) is ≡ times_in v (flat_map zeros is)
zeroes_times v [] = refl
zeroes_times v (i ∷ is) = omega (
  arith,
  sum_by-cons (zeroes v) i is,
  zeroes_one v i,
  zeroes_times v is,
  sum_by-append (λ j. if j == v then 1 else 0) (zeros i) (flat_map zeros is),
)

pub empty_lone : (e : Emitter) → e.code.items ≡ [] → lone e ≡ 0
unfolding lone
empty_lone e code = ap (lone_behind None) code

pub finished_zeroes : {d : FunDef} {e : Emitter} {f : TacFun} → Makes d e f → ((v : ℕ) → times_in v (zeroing e) ≤ 1) →
    lone e ≡ 0 → ZeroesOnce f
unfolding zeroing lone
finished_zeroes {e = e} {f = f} m once none = record {
  zeros = λ v. omega (arith, ap (sum_by (zeroes v)) m.code, zeroes_times v e.code.items, once v);
  first = λ v w. never f.code (ap (lone_behind None) m.code ∙ none) v f.code None
      (ap (lone_behind None) m.code ∙ none) (none_none v) w;
}
