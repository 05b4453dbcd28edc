-- Marks, as more numbers are used.
use Rattle.std.proofs.Common.{◌≡◌, ℕ, zero, suc, ◌+◌, ◌<◌, Bool, true, false, List, [], ◌∷◌, ◌++◌, length, get_or, map}
use Rattle.std.proofs.Common.{Some, refl, sym, ap, subst, ◌∙◌, ◌⊎◌, inl, inr, ⊎_elim, arith, append_assoc}
use Rattle.std.specs.Prelude.{slice_get, slice_set, replicate, flat_map, if◌then◌else◌, ◌==◌}
use Rattle.std.proofs.lemmas.Bool.{eq-eqb, ne_eqb}
use Rattle.std.proofs.lemmas.Grind.{flat_map-append}
use Rattle.std.proofs.lemmas.List.{append-nil}
use Rattle.std.proofs.lemmas.List.Sums.{sum_by-append, sum_by-cons}
use Rattle.std.proofs.lemmas.Option.{same_Some, slice_get-get_or}
use Rattle.c_tree.specs.Views.{times_in}
use Rattle.c_copy.specs.Copying.{AllBelow}
use Rattle.c_copy.proofs.Items.{get-push}
use Rattle.ordered_programs.specs.Uses.{HasMarks, AllMarked, Marks, MarksEach}

-- ---- how often a number is used

abbrev once_if : Bool → ℕ
once_if b = if b then 1 else 0

counts_push : (k a : ℕ) (us : List ℕ) → times_in k (us ++ a ∷ []) ≡ times_in k us + once_if (a == k)
counts_push k a us =
    sum_by-append (λ j. if j == k then 1 else 0) us (a ∷ [])
    ∙ ap (λ n. times_in k us + n) (sum_by-cons (λ j. once_if (j == k)) a [] ∙ omega arith)

used_now : (k : ℕ) (us : List ℕ) → times_in k us ≡ 0 → times_in k (us ++ k ∷ []) ≡ 1
used_now k us e = counts_push k k us ∙ ap (λ b. times_in k us + once_if b) (eq-eqb k k refl) ∙ omega arith

used_before : (k a n : ℕ) (us : List ℕ) → (a ≡ k → ⊥) → times_in k us ≡ n → times_in k (us ++ a ∷ []) ≡ n
used_before k a n us h e =
    counts_push k a us ∙ ap (λ b. times_in k us + once_if b) (ne_eqb a k h) ∙ omega arith

-- ---- one mark

get-set : {A : Type 0} (t : List A) (a k : ℕ) (v b : A) → slice_get (slice_set t a v) k ≡ Some b →
    ((k ≡ a) × (b ≡ v)) ⊎ ((slice_get t k ≡ Some b) × (a ≡ k → ⊥))
get-set [] a k v b e = absurd cc
get-set (x ∷ t) zero zero v b e = inl (refl, cc)
get-set (x ∷ t) zero (suc k) v b e = inr (e, λ h. let z : 0 ≡ suc k = h in absurd (omega arith))
get-set (x ∷ t) (suc a) zero v b e = inr (e, λ h. let z : suc a ≡ 0 = h in absurd (omega arith))
get-set (x ∷ t) (suc a) (suc k) v b e =
    ⊎_elim (λ h. inl (let i : k ≡ a = h.0 in omega arith, h.1))
    (λ h. inr (h.0, λ q. h.1 (let z : suc a ≡ suc k = q in omega arith))) (get-set t a k v b e)

length-set : {A : Type 0} (t : List A) (a : ℕ) (v : A) → length (slice_set t a v) ≡ length t
length-set [] a v = refl
length-set (x ∷ t) zero v = refl
length-set (x ∷ t) (suc a) v = let h = length-set t a v in cc

one_below : (n a : ℕ) → a < n → AllBelow n (a ∷ [])
one_below n a lt zero b e = let same : a ≡ b = same_Some a b e in subst (λ c. c < n) same lt
one_below n a lt (suc j) b e = absurd cc

pub marks_one : (limit : ℕ) (old new : List Bool) (a : ℕ) → a < limit → slice_get old a ≡ Some false →
    new ≡ slice_set old a true → Marks limit old new (a ∷ [])
marks_one limit old new a lt free e = record {
  below = one_below limit a lt;
  count = ap length e ∙ length-set old a true;
  adds = λ uses h. record {
    is = λ k b g.
        ⊎_elim
        (λ x. subst (λ c. times_in k (uses ++ a ∷ []) ≡ once_if c) (sym x.1)
        (subst (λ j. times_in k (uses ++ j ∷ []) ≡ 1) x.0
        (used_now k uses (h.is k false (ap (slice_get old) x.0 ∙ free)))))
        (λ x. used_before k a (once_if b) uses x.1 (h.is k b x.0))
        (get-set old a k true b (ap (λ t. slice_get t k) (sym e) ∙ g));
  };
}

-- ---- more marks

pub marks_none : (limit : ℕ) (old : List Bool) → Marks limit old old []
marks_none limit old = record {
  below = λ j a e. absurd cc;
  count = refl;
  adds = λ uses h. subst (HasMarks old) (sym (append-nil uses)) h;
}

below_then : (n : ℕ) (us vs : List ℕ) → AllBelow n us → AllBelow n vs → AllBelow n (us ++ vs)
below_then n [] vs g h j a e = h j a e
below_then n (u ∷ us) vs g h zero a e = g 0 a e
below_then n (u ∷ us) vs g h (suc j) a e = below_then n us vs (λ i b q. g (suc i) b q) h j a e

pub marks_then : (limit : ℕ) (old mid new : List Bool) (us vs : List ℕ) → Marks limit old mid us →
    Marks limit mid new vs → Marks limit old new (us ++ vs)
marks_then limit old mid new us vs g h = record {
  below = below_then limit us vs g.below h.below;
  count = h.count ∙ g.count;
  adds = λ uses m. subst (HasMarks new) (append_assoc uses us vs) (h.adds (uses ++ us) (g.adds uses m));
}

-- ---- of each item of a list

pub none_marked : {A : Type 0} (names : A → List ℕ) (limit : ℕ → ℕ) (old : List Bool) →
    MarksEach names limit [] old old
none_marked names limit old = record {
  below = λ k j a x e q. absurd cc;
  count = refl;
  adds = λ uses h. subst (HasMarks old) (sym (append-nil uses)) h;
}

item_marked : {A : Type 0} (names : A → List ℕ) (limit : ℕ → ℕ) (xs : List A) (x : A) (old mid new : List Bool) →
    MarksEach names limit xs old mid → Marks (limit (length xs)) mid new (names x) →
    MarksEach names limit (xs ++ x ∷ []) old new
item_marked names limit xs x old mid new g h = record {
  below = λ k j a y e q.
      ⊎_elim (λ z. g.below k j a y z q)
      (λ z. subst (λ i. a < limit i) (sym z.0)
      (h.below j a (ap (λ w. slice_get (names w) j) z.1 ∙ q)))
      (get-push xs x k y e);
  count = h.count ∙ g.count;
  adds = λ uses m.
      subst (HasMarks new)
      (append_assoc uses (flat_map names xs) (names x)
      ∙ ap (λ zs. uses ++ zs) (sym (flat_map-append names xs (x ∷ [])
      ∙ ap (λ zs. flat_map names xs ++ zs) (append-nil (names x)))))
      (h.adds (uses ++ flat_map names xs) (g.adds uses m));
}

-- one item more, as a loop goes
pub marks_turn : {A : Type 0} (names : A → List ℕ) (limit : ℕ → ℕ) (xs ys : List A) (i : ℕ) (x : A)
    (old mid new : List Bool) → length ys ≡ i → MarksEach names limit ys old mid → Marks (limit i) mid new (names x) →
    xs ≡ ys ++ x ∷ [] → MarksEach names limit xs old new
marks_turn names limit xs ys i x old mid new l g h e =
    subst (λ zs. MarksEach names limit zs old new) (sym e)
    (item_marked names limit ys x old mid new g
    (subst (λ n. Marks (limit n) mid new (names x)) (sym l) h))

-- ---- none and all

pub no_marks : (n : ℕ) → HasMarks (replicate n false) []
no_marks n = record { is = λ k b e. ap once_if (sym (blank n k b e)) }
  where
    blank : (n k : ℕ) (b : Bool) → slice_get (replicate n false) k ≡ Some b → b ≡ false
    blank zero k b e = absurd cc
    blank (suc n) zero b e = sym (same_Some false b e)
    blank (suc n) (suc k) b e = blank n k b e

pub once : (n : ℕ) (marks : List Bool) (uses : List ℕ) → length marks ≡ n → HasMarks marks uses → AllMarked marks →
    (k : ℕ) → k < n → times_in k uses ≡ 1
once n marks uses l h all = λ k lt.
    let b = get_or marks k true in
    let at : slice_get marks k ≡ Some b = slice_get-get_or marks k true (omega arith) in
    h.is k b at ∙ ap once_if (all k b at)

pub bodies_listed : {A : Type 0} (f : A → ℕ) (xs : List A) → flat_map (λ x. f x ∷ []) xs ≡ map f xs
bodies_listed f [] = refl
bodies_listed f (x ∷ xs) = ap (λ ys. f x ∷ ys) (bodies_listed f xs)
