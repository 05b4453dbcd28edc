-- How many objects there are among the first variables of a function.
use Rattle.std.proofs.Common.{◌≡◌, ℕ, zero, suc, ◌+◌, ◌-◌, ◌≤◌, [], ◌∷◌, ◌++◌, Bool, true, false, List, length}
use Rattle.std.proofs.Common.{Some, None, refl, sym, ap, subst, ◌⊎◌, inl, inr, ◌∙◌, arith}
use Rattle.std.specs.Prelude.{slice_get, if◌then◌else◌}
use Rattle.std.proofs.lemmas.List.{length_push}
use Rattle.std.proofs.lemmas.Option.{slice_get_past, same_Some}
use Rattle.c_tree.specs.declared.typed.FunDef.{FunDef}
use Rattle.c_tree.specs.declared.typed.VarDef.{VarDef}
use Rattle.cheri_c_sem.specs.Types.{objects_before}
use Rattle.mean_run.specs.Locals.{AreCounts, AreLocals, vars_of}

abbrev pub own_count : VarDef → ℕ
own_count v = if v.simple then 0 else 1

own_few : (b : Bool) → (if b then 0 else 1) ≤ 1
own_few true = omega arith
own_few false = omega arith

pub few : (vars : List VarDef) (x : ℕ) → objects_before vars x ≤ x
few [] x = omega arith
few (v ∷ vs) zero = omega arith
few (v ∷ vs) (suc x) = let h = few vs x in let i = own_few v.simple in omega arith

pub before_none : (vars : List VarDef) → objects_before vars 0 ≡ 0
before_none [] = refl
before_none (v ∷ vs) = refl

-- one variable more
pub before_more : (vars : List VarDef) (x : ℕ) (v : VarDef) → slice_get vars x ≡ Some v →
    objects_before vars (x + 1) ≡ objects_before vars x + own_count v
before_more [] x v e = absurd (let g : None ≡ Some v = e in cc)
before_more (w ∷ vs) zero v e = let g : w ≡ v = same_Some w v e in let h = before_none vs in rw g (omega arith)
before_more (w ∷ vs) (suc x) v e =
    let h = before_more vs x v e in
    let i : suc x + 1 ≡ suc (x + 1) = omega arith in
    rw i (omega arith)

-- past the last variable
pub before_past : (vars : List VarDef) (x : ℕ) → length vars ≤ x →
    objects_before vars x ≡ objects_before vars (length vars)
before_past [] x h = refl
before_past (v ∷ vs) zero h = absurd (omega arith)
before_past (v ∷ vs) (suc x) h = ap (λ n. own_count v + n) (before_past vs x (omega arith))

pub get_push : {A : Type 0} (xs : List A) (x : A) (k : ℕ) (y : A) → slice_get (xs ++ x ∷ []) k ≡ Some y →
    (slice_get xs k ≡ Some y) ⊎ ((k ≡ length xs) × (y ≡ x))
get_push [] x zero y e = inr (refl, sym (same_Some x y e))
get_push [] x (suc k) y e = inl e
get_push (z ∷ xs) x zero y e = inl e
get_push (z ∷ xs) x (suc k) y e = behind_first (get_push xs x k y e)
  where
    behind_first : (slice_get xs k ≡ Some y) ⊎ ((k ≡ length xs) × (y ≡ x)) →
        (slice_get xs k ≡ Some y) ⊎ ((suc k ≡ suc (length xs)) × (y ≡ x))
    behind_first (inl q) = inl q
    behind_first (inr q) = inr (ap suc q.0, q.1)

-- the counts of the first i variables
pub record Counted (vars : List VarDef) (counts : List ℕ) (i : ℕ) : Type 0 where
  pub count : length counts ≡ i + 1
  pub each : (x n : ℕ) → slice_get counts x ≡ Some n → n ≡ objects_before vars x

pub counted_none : (vars : List VarDef) → Counted vars (0 ∷ []) 0
counted_none vars = record { count = refl; each = at }
  where
    at : (x n : ℕ) → slice_get (0 ∷ []) x ≡ Some n → n ≡ objects_before vars x
    at zero n e = sym (same_Some 0 n e) ∙ sym (before_none vars)
    at (suc x) n e = absurd (let g : None ≡ Some n = e in cc)

pub counted_more : (vars : List VarDef) (counts : List ℕ) (i n : ℕ) → Counted vars counts i →
    n ≡ objects_before vars (i + 1) → Counted vars (counts ++ n ∷ []) (i + 1)
counted_more vars counts i n c h = record { count = length_push counts n ∙ ap (λ k. k + 1) c.count; each = at }
  where
    by_place : (x m : ℕ) → (slice_get counts x ≡ Some m) ⊎ ((x ≡ length counts) × (m ≡ n)) → m ≡ objects_before vars x
    by_place x m (inl q) = c.each x m q
    by_place x m (inr q) = q.1 ∙ h ∙ ap (objects_before vars) (sym (q.0 ∙ c.count))

    at : (x m : ℕ) → slice_get (counts ++ n ∷ []) x ≡ Some m → m ≡ objects_before vars x
    at x m e = by_place x m (get_push counts n x m e)

-- the counts of the first i functions
pub record Listed (funs : List FunDef) (all : List (List ℕ)) (i : ℕ) : Type 0 where
  pub count : length all ≡ i
  pub each : (f : ℕ) (counts : List ℕ) → slice_get all f ≡ Some counts → AreCounts (vars_of (slice_get funs f)) counts

pub listed_none : (funs : List FunDef) → Listed funs [] 0
listed_none funs = record { count = refl; each = λ f counts e. absurd (let g : None ≡ Some counts = e in cc) }

pub listed_more : (funs : List FunDef) (all : List (List ℕ)) (i : ℕ) (counts : List ℕ) (d : FunDef) →
    Listed funs all i → slice_get funs i ≡ Some d → AreCounts d.vars counts → Listed funs (all ++ counts ∷ []) (i + 1)
listed_more funs all i counts d l at_i c =
    record { count = length_push all counts ∙ ap (λ k. k + 1) l.count; each = at }
  where
    own : AreCounts (vars_of (slice_get funs i)) counts
    own = subst (λ o. AreCounts (vars_of o) counts) (sym at_i) c

    by_place : (f : ℕ) (cs : List ℕ) → (slice_get all f ≡ Some cs) ⊎ ((f ≡ length all) × (cs ≡ counts)) →
        AreCounts (vars_of (slice_get funs f)) cs
    by_place f cs (inl q) = l.each f cs q
    by_place f cs (inr q) = subst (λ c. AreCounts (vars_of (slice_get funs f)) c) (sym q.1)
        (subst (λ k. AreCounts (vars_of (slice_get funs k)) counts) (sym (q.0 ∙ l.count)) own)

    at : (f : ℕ) (cs : List ℕ) → slice_get (all ++ counts ∷ []) f ≡ Some cs → AreCounts (vars_of (slice_get funs f)) cs
    at f cs e = by_place f cs (get_push all counts f cs e)

pub listed_all : (funs : List FunDef) (all : List (List ℕ)) (i : ℕ) → Listed funs all i → i ≡ length funs →
    AreLocals funs all
listed_all funs all i l e = record { count = l.count ∙ e; each = l.each }

-- ---- looked up

pub missing : {A : Type 0} (xs : List A) (k : ℕ) → slice_get xs k ≡ None → length xs ≤ k
missing [] k e = omega arith
missing (x ∷ xs) zero e = absurd (let g : Some x ≡ None = e in cc)
missing (x ∷ xs) (suc k) e = let h = missing xs k e in omega arith

module _ (funs : List FunDef) (all : List (List ℕ)) (known : AreLocals funs all) (f : ℕ) where
  abbrev own_vars : List VarDef
  own_vars = vars_of (slice_get funs f)

  -- of a function that is not there
  pub before_nowhere : (x : ℕ) → slice_get all f ≡ None → 0 ≡ objects_before own_vars x
  before_nowhere x e =
      let c = known.count in
      let h = missing all f e in
      let g : slice_get funs f ≡ None = slice_get_past funs f (omega arith) in
      rw g refl

  pub before_found : (counts : List ℕ) (x n : ℕ) → slice_get all f ≡ Some counts → slice_get counts x ≡ Some n →
      n ≡ objects_before own_vars x
  before_found counts x n e g = (known.each f counts e).each x n g

  last_is : (counts : List ℕ) → slice_get all f ≡ Some counts → length counts - 1 ≡ length own_vars
  last_is counts e = let c = (known.each f counts e).count in omega arith

  not_empty : (counts : List ℕ) → slice_get all f ≡ Some counts → counts ≡ [] → ⊥
  not_empty counts e g = let c = (known.each f counts e).count in let l : length counts ≡ 0 = ap length g in omega arith

  pub count_found : (counts : List ℕ) (n : ℕ) → slice_get all f ≡ Some counts →
      (slice_get counts (length counts - 1) ≡ Some n) ⊎ (counts ≡ []) → n ≡ objects_before own_vars (length own_vars)
  count_found counts n e (inl g) =
      before_found counts (length counts - 1) n e g ∙ ap (objects_before own_vars) (last_is counts e)
  count_found counts n e (inr g) = absurd (not_empty counts e g)

  -- past the last variable
  pub before_last : (counts : List ℕ) (x n : ℕ) → slice_get all f ≡ Some counts → slice_get counts x ≡ None →
      (slice_get counts (length counts - 1) ≡ Some n) ⊎ (counts ≡ []) → n ≡ objects_before own_vars x
  before_last counts x n e past g =
      let c = (known.each f counts e).count in
      let h = missing counts x past in
      count_found counts n e g ∙ sym (before_past own_vars x (omega arith))
