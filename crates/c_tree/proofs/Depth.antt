-- The layout of a type does not hang on the number of levels: no chain of parts without a repetition is longer than the
-- list of types, so what has an extent at any number of levels has it at the length of the list.
use Rattle.std.proofs.Common.{◌≡◌, ℕ, zero, suc, ◌+◌, ◌-◌, ◌<◌, ◌≤◌, Bool, true, false, cond, List, [], ◌∷◌, length}
use Rattle.std.proofs.Common.{Option, Some, None, refl, sym, ap, subst, ◌∙◌, ◌⊎◌, inl, inr, ⊎_elim, arith}
use Rattle.std.specs.Prelude.{slice_get}
use Rattle.std.proofs.lemmas.Option.{slice_get_past, none-some}
use Rattle.std.proofs.lemmas.Bool.{cases_lt, false≢true}
use Rattle.c_tree.specs.declared.typed.CType.{CType}
use Rattle.c_tree.specs.declared.typed.CType.TheVariants.{Void, Int, Cap, Pointer, Array, Struct, Union, Function}
use Rattle.c_tree.specs.declared.typed.CType.TheVariants.{Const, Incomplete}
use Rattle.c_tree.specs.declared.typed.Member.{Member}
use Rattle.c_tree.specs.Layout.{Extent, with_extent, behind, beside, members, whole, times, extent_of, extent_within}
use Rattle.c_tree.specs.Layout.{extent, no_members}

abbrev Look : Type 0
Look = ℕ → Option Extent

-- g knows all that f knows
abbrev More : Look → Look → Type 0
More f g = (t : ℕ) (x : Extent) → f t ≡ Some x → g t ≡ Some x

with_more : {A : Type 0} (o p : Option Extent) (h k : Extent → Option A) (y : A) →
    ((x : Extent) → o ≡ Some x → p ≡ Some x) → ((x : Extent) → h x ≡ Some y → k x ≡ Some y) → with_extent o h ≡ Some y →
    with_extent p k ≡ Some y
with_more None p h k y f g e = absurd (none-some y e)
with_more (Some x) p h k y f g e = rw (f x refl) (g x e)

pub members-more : (place : Extent → Extent → Extent) (f g : Look) (ms : List Member) (x y : Extent) → More f g →
    members place f ms x ≡ Some y → members place g ms x ≡ Some y
unfolding members
members-more place f g [] x y m e = e
members-more place f g (n ∷ ms) x y m e =
    with_more (f n.of) (g n.of) _ _ y (m n.of) (λ z h. members-more place f g ms (place z x) y m h) e

of-more : (o : Option CType) (f g : Look) (y : Extent) → More f g → extent_of o f ≡ Some y → extent_of o g ≡ Some y
of-more None f g y m e = e
of-more (Some Void) f g y m e = e
of-more (Some (Int k n)) f g y m e = e
of-more (Some (Cap s)) f g y m e = e
of-more (Some (Pointer t)) f g y m e = e
of-more (Some (Array t k)) f g y m e = with_more (f t) (g t) (times k) (times k) y (m t) (λ x h. h) e
of-more (Some (Struct n ms)) f g y m e =
    with_more (members behind f ms no_members) (members behind g ms no_members) whole whole y
    (λ x h. members-more behind f g ms no_members x m h) (λ x h. h) e
of-more (Some (Union n ms)) f g y m e =
    with_more (members beside f ms no_members) (members beside g ms no_members) whole whole y
    (λ x h. members-more beside f g ms no_members x m h) (λ x h. h) e
of-more (Some (Function t ps)) f g y m e = e
of-more (Some (Const t)) f g y m e = m t y e
of-more (Some (Incomplete n)) f g y m e = e

extent-more : (types : List CType) (d : ℕ) → More (extent_within d types) (extent_within (suc d) types)
unfolding extent_within
extent-more types zero t x e = absurd (none-some x e)
extent-more types (suc d) t x e =
    of-more (slice_get types t) (extent_within d types) (extent_within (suc d) types) x (extent-more types d) e

known : Option Extent → Bool
known None = false
known (Some x) = true

count : (ℕ → Bool) → ℕ → ℕ
count p zero = 0
count p (suc n) = count p n + cond (p n) 1 0

-- two tests agree below n, or the greater one holds more often
grow_at : (p q : ℕ → Bool) (n : ℕ) (a b : Bool) → p n ≡ a → q n ≡ b → (a ≡ true → b ≡ true) →
    ((t : ℕ) → t < n → p t ≡ q t) ⊎ (count p n + 1 ≤ count q n) → count p n ≤ count q n →
    ((t : ℕ) → t < suc n → p t ≡ q t) ⊎ (count p n + cond a 1 0 + 1 ≤ count q n + cond b 1 0)
grow_at p q n true b e f m (inl h) le =
    inl (λ t lt. ⊎_elim (λ s. h t s) (λ s. let i : t ≡ n = omega arith in rw i (e ∙ sym (f ∙ m refl))) (cases_lt t n))
grow_at p q n false false e f m (inl h) le =
    inl (λ t lt. ⊎_elim (λ s. h t s) (λ s. let i : t ≡ n = omega arith in rw i (e ∙ sym f)) (cases_lt t n))
grow_at p q n false true e f m (inl h) le = inr (omega arith)
grow_at p q n true true e f m (inr h) le = inr (omega arith)
grow_at p q n true false e f m (inr h) le = absurd (false≢true (m refl))
grow_at p q n false true e f m (inr h) le = inr (omega arith)
grow_at p q n false false e f m (inr h) le = inr (omega arith)

below : (a b : Bool) → (a ≡ true → b ≡ true) → cond a 1 0 ≤ cond b 1 0
below true b m = rw (m refl) (omega arith)
below false true m = omega arith
below false false m = omega arith

count-more : (p q : ℕ → Bool) → ((t : ℕ) → p t ≡ true → q t ≡ true) → (n : ℕ) → count p n ≤ count q n
unfolding count
count-more p q m zero = omega arith
count-more p q m (suc n) = omega (arith, count-more p q m n, below (p n) (q n) (m n))

grows : (p q : ℕ → Bool) → ((t : ℕ) → p t ≡ true → q t ≡ true) → (n : ℕ) →
    ((t : ℕ) → t < n → p t ≡ q t) ⊎ (count p n + 1 ≤ count q n)
unfolding count
grows p q m zero = inl (λ t h. absurd (omega arith))
grows p q m (suc n) = grow_at p q n (p n) (q n) refl refl (m n) (grows p q m n) (count-more p q m n)

count-most : (p : ℕ → Bool) (n : ℕ) → count p n ≤ n
unfolding count
count-most p zero = omega arith
count-most p (suc n) = omega (arith, count-most p n, most (p n))
  where
    most : (b : Bool) → cond b 1 0 ≤ 1
    most true = omega arith
    most false = omega arith

known_is : (o : Option Extent) → known o ≡ true → (x : Extent) × (o ≡ Some x)
unfolding known
known_is None e = absurd (false≢true e)
known_is (Some x) e = (x, refl)

known_some : (o : Option Extent) (x : Extent) → o ≡ Some x → known o ≡ true
unfolding known
known_some o x e = ap known e

-- one more level tells nothing new
abbrev Stable : List CType → ℕ → Type 0
Stable types d = More (extent_within (suc d) types) (extent_within d types)

stable-next : (types : List CType) (d : ℕ) → Stable types d → Stable types (suc d)
unfolding extent_within
stable-next types d s t x e = of-more (slice_get types t) (extent_within (suc d) types) (extent_within d types) x s e

stable-on : (types : List CType) (d k : ℕ) → Stable types d → Stable types (d + k)
stable-on types d zero s = let e : d + 0 ≡ d = omega arith in rw e s
stable-on types d (suc k) s =
    let e : d + suc k ≡ suc (d + k) = omega arith in rw e (stable-next types (d + k) (stable-on types d k s))

past : (types : List CType) (d t : ℕ) → length types ≤ t → extent_within d types t ≡ None
unfolding extent_within
past types zero t le = refl
past types (suc d) t le = rw (slice_get_past types t le) refl

-- the same tests below the length: nothing new
agree-stable : (types : List CType) (d : ℕ) →
    ((t : ℕ) → t < length types → known (extent_within d types t) ≡ known (extent_within (suc d) types t)) →
    Stable types d
agree-stable types d h t x e =
    ⊎_elim
    (λ lt. let k = known_is (extent_within d types t) (h t lt ∙ known_some (extent_within (suc d) types t) x e) in
    k.1 ∙ sym (extent-more types d t k.0 k.1) ∙ e)
    (λ le. absurd (none-some x (sym (past types (suc d) t le) ∙ e)))
    (cases_lt t (length types))

-- how many types are known at a depth, or an earlier depth is enough
counted : (types : List CType) (d : ℕ) →
    ((j : ℕ) × (j < d) × Stable types j) ⊎ (d ≤ count (λ t. known (extent_within d types t)) (length types))
counted types zero = inr (omega arith)
counted types (suc d) =
    ⊎_elim
    (λ s. inl (s.0, omega arith, s.2))
    (λ le. ⊎_elim
    (λ h. inl (d, omega arith, agree-stable types d h))
    (λ more. inr (omega arith))
    (grows (λ t. known (extent_within d types t)) (λ t. known (extent_within (suc d) types t))
    (λ t e. let k = known_is (extent_within d types t) e in
    known_some (extent_within (suc d) types t) k.0 (extent-more types d t k.0 k.1)) (length types)))
    (counted types d)

enough_at : (types : List CType) → Stable types (length types)
enough_at types =
    ⊎_elim
    (λ s. let e : s.0 + (length types - s.0) ≡ length types = omega arith in
    subst (Stable types) e (stable-on types s.0 (length types - s.0) s.2))
    (λ le. absurd (omega (arith, count-most (λ t. known (extent_within (suc (length types)) types t)) (length types))))
    (counted types (suc (length types)))

pub up : (types : List CType) (d k : ℕ) → More (extent_within d types) (extent_within (d + k) types)
up types d zero t x e = let f : d + 0 ≡ d = omega arith in rw f e
up types d (suc k) t x e =
    let f : d + suc k ≡ suc (d + k) = omega arith in rw f (extent-more types (d + k) t x (up types d k t x e))

down : (types : List CType) (k : ℕ) → More (extent_within (length types + k) types) (extent_within (length types) types)
down types zero t x e = let f : length types + 0 ≡ length types = omega arith in rw f at e
down types (suc k) t x e =
    let f : length types + suc k ≡ suc (length types + k) = omega arith in
    down types k t x (stable-on types (length types) k (enough_at types) t x (rw f at e))

-- whatever is known at any depth is known at the length of the list
pub depth_enough : (types : List CType) (d : ℕ) → More (extent_within d types) (extent types)
depth_enough types d t x e =
    ⊎_elim
    (λ lt. let f : d + (length types - d) ≡ length types = omega arith in
    subst (λ n. extent_within n types t ≡ Some x) f (up types d (length types - d) t x e))
    (λ le. let f : length types + (d - length types) ≡ d = omega arith in
    down types (d - length types) t x (subst (λ n. extent_within n types t ≡ Some x) (sym f) e))
    (cases_lt d (length types))
