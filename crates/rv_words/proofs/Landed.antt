-- Jumps over words, forward and back, that were led.
use Rattle.std.proofs.Common.{◌≡◌, ℕ, zero, suc, ◌+◌, ◌*◌, ◌<◌, ◌≤◌, ⊎_elim, ℤ, pos, List, [], ◌∷◌, ◌++◌, length}
use Rattle.std.proofs.Common.{Some, refl, sym, ap, ◌∙◌, subst, arith, append_assoc}
use Rattle.std.specs.Prelude.{slice_get}
use Rattle.std.proofs.lemmas.Bool.{cases_eq}
use Rattle.std.proofs.lemmas.Int.{ints}
use Rattle.std.proofs.lemmas.List.{length-append}
use Rattle.rv_instr.specs.declared.instr.Instr.{Instr}
use Rattle.rv_words.specs.Leading.{leading, span, Spans, IsHop, IsLedTo}

-- lists with the same items are the same
pub same_items : {A : Type 0} (xs ys : List A) → ((k : ℕ) → slice_get xs k ≡ slice_get ys k) → xs ≡ ys
same_items [] [] h = refl
same_items [] (y ∷ ys) h = let e = h 0 in absurd cc
same_items (x ∷ xs) [] h = let e = h 0 in absurd cc
same_items (x ∷ xs) (y ∷ ys) h =
    let e = h 0 in
    let first : x ≡ y = cc in
    let rest = same_items xs ys (λ k. h (suc k)) in
    cc

pub at_seam : {A : Type 0} (pre post : List A) (x : A) → slice_get (pre ++ x ∷ post) (length pre) ≡ Some x
at_seam [] post x = refl
at_seam (y ∷ pre) post x = at_seam pre post x

pub off_seam : {A : Type 0} (pre post : List A) (x y : A) (k : ℕ) → (k ≡ length pre → ⊥)
    → slice_get (pre ++ x ∷ post) k ≡ slice_get (pre ++ y ∷ post) k
off_seam [] post x y zero n = absurd (n refl)
off_seam [] post x y (suc k) n = refl
off_seam (z ∷ pre) post x y zero n = refl
off_seam (z ∷ pre) post x y (suc k) n = off_seam pre post x y k (λ e. n (ap suc e))

-- a word that was led, and what stands around it
pub landed : (pre post a b : List Instr) (i : Instr) (at to : ℕ) (z : ℤ) → a ≡ pre ++ i ∷ post → at ≡ length pre
    → IsLedTo a b at to → Spans i at to → IsHop at to z → b ≡ pre ++ leading i z ∷ post
landed pre post a b i at to z e f l s h =
    let was = ap (slice_get a) f ∙ ap (λ (x : List Instr). slice_get x (length pre)) e ∙ at_seam pre post i in
    let now = l.led i z was s h in
    same_items b (pre ++ leading i z ∷ post) (λ k. ⊎_elim
    (λ (q : k ≡ at). ap (slice_get b) q ∙ now ∙ sym (ap (slice_get (pre ++ leading i z ∷ post)) (q ∙ f)
    ∙ at_seam pre post (leading i z)))
    (λ (n : k ≡ at → ⊥). l.others k n ∙ ap (λ (x : List Instr). slice_get x k) e
    ∙ off_seam pre post i (leading i z) k (λ q. n (q ∙ sym f)))
    (cases_eq k at))

-- it leads behind the last word
pub over_words : (old a b new : List Instr) (i : Instr) (at : ℕ) → old ≡ a ++ i ∷ b → at ≡ length a
    → IsLedTo old new at (length old) → length b + 1 < span i → new ≡ a ++ leading i (pos (4 * (length b + 1))) ∷ b
over_words old a b new i at is e l lt =
    let led = subst (λ x. IsLedTo x new at (length x)) is l in
    let size = length-append a (i ∷ b) in
    landed a b (a ++ i ∷ b) new i at (length (a ++ i ∷ b)) (pos (4 * (length b + 1))) refl e led
    (record { ahead = omega (arith, size, e, lt); back = omega (arith, size, e) }) (omega (arith, ints, size, e))

-- a branch back over some words
pub back_over : (a b text new : List Instr) (i : Instr) (top : ℕ) (z : ℤ) → text ≡ a ++ b → top ≡ length a
    → IsLedTo (text ++ i ∷ []) new (length text) top → length b < span i → IsHop (length a + length b) (length a) z
    → new ≡ a ++ (b ++ leading i z ∷ [])
back_over a b text new i top z is e l lt h =
    let size = ap length is ∙ length-append a b in
    let ahead : top < length text + span i = omega (arith, size, e, lt) in
    let back : length text ≤ top + span i = omega (arith, size, e, lt) in
    let hop : IsHop (length text) top z = subst (λ x. IsHop x top z) (sym size)
    (subst (λ x. IsHop (length a + length b) x z) (sym e) h) in
    landed text [] (text ++ i ∷ []) new i (length text) top z refl refl l
    (record { ahead = ahead; back = back }) hop ∙ ap (λ x. x ++ leading i z ∷ []) is
    ∙ append_assoc a b (leading i z ∷ [])
