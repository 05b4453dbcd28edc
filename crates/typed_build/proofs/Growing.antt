-- Lists that grow by one element a turn, beside others.
use Rattle.std.proofs.Common.{◌≡◌, ℕ, zero, suc, ◌<◌, List, [], ◌∷◌, ◌++◌, length, get_or, Some, inl, inr, refl, sym}
use Rattle.std.proofs.Common.{ap, ◌∙◌, subst}
use Rattle.std.specs.Prelude.{◌⊎◌, slice_get}
use Rattle.std.proofs.lemmas.Option.{slice_get_read}

get_appended : {A : Type 0} (ys : List A) (y : A) (k : ℕ) (b : A) → slice_get (ys ++ y ∷ []) k ≡ Some b
    → (slice_get ys k ≡ Some b) ⊎ ((k ≡ length ys) × (y ≡ b))
get_appended [] y zero b e = let s : y ≡ b = cc in inr (refl, s)
get_appended [] y (suc k) b e = absurd cc
get_appended (x ∷ xs) y zero b e = inl e
get_appended (x ∷ xs) y (suc k) b e = elim (get_appended xs y k b e) [ inl l ↦ inl l | inr r ↦ inr (ap suc r.0, r.1) ]

same : {A : Type 0} (xs : List A) (k n : ℕ) (a b : A) → k ≡ n → slice_get xs k ≡ Some a → slice_get xs n ≡ Some b
    → b ≡ a
same xs k n a b s e f = let g : Some b ≡ Some a = sym f ∙ ap (slice_get xs) (sym s) ∙ e in cc

-- what holds of the elements at each place holds of those of the longer list
pub grown : {A B : Type 0} (P : A → B → Type 0) (xs : List A) (ys : List B) (x : A) (y : B)
    → ((k : ℕ) (a : A) (b : B) → slice_get xs k ≡ Some a → slice_get ys k ≡ Some b → P a b)
    → slice_get xs (length ys) ≡ Some x → P x y
    → (k : ℕ) (a : A) (b : B) → slice_get xs k ≡ Some a → slice_get (ys ++ y ∷ []) k ≡ Some b → P a b
grown P xs ys x y h at p k a b e f =
    elim (get_appended ys y k b f) as (λ _. P a b)
    [ inl l ↦ h k a b e l | inr r ↦ subst (P a) r.1 (subst (λ z. P z y) (same xs k (length ys) a x r.0 e at) p) ]

pub grown_beside : {A B C D : Type 0} (P : A → B → C → D → Type 0) (ws : List A) (xs : List B) (ys : List C)
    (zs : List D) (w : A) (x : B) (y : C) (z : D)
    → ((k : ℕ) (a : A) (b : B) (c : C) (d : D) → slice_get ws k ≡ Some a → slice_get xs k ≡ Some b
    → slice_get ys k ≡ Some c → slice_get zs k ≡ Some d → P a b c d)
    → slice_get ws (length zs) ≡ Some w → slice_get xs (length zs) ≡ Some x → slice_get ys (length zs) ≡ Some y
    → P w x y z
    → (k : ℕ) (a : A) (b : B) (c : C) (d : D) → slice_get ws k ≡ Some a → slice_get xs k ≡ Some b
    → slice_get ys k ≡ Some c → slice_get (zs ++ z ∷ []) k ≡ Some d → P a b c d
grown_beside P ws xs ys zs w x y z h at by on p k a b c d e f g i =
    elim (get_appended zs z k d i) as (λ _. P a b c d) [
      | inl l ↦ h k a b c d e f g l
      | inr r ↦ subst (P a b c) r.1 (subst (λ v. P a b v z) (same ys k (length zs) c y r.0 g on)
          (subst (λ v. P a v y z) (same xs k (length zs) b x r.0 f by)
          (subst (λ v. P v x y z) (same ws k (length zs) a w r.0 e at) p)))
    ]

-- ---- an element that a loop reads

pub read_in : {A : Type 0} (now xs : List A) (k : ℕ) (x : A) → now ≡ xs → k < length now → x ≡ get_or now k x
    → slice_get xs k ≡ Some x
read_in now xs k x same lt is =
    ap (λ ys. slice_get ys k) (sym same) ∙ slice_get_read now (length now) k x refl lt is
