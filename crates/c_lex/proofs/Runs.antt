-- The run of elements from the front on that pass a test.
use Rattle.std.proofs.Common.{◌≡◌, ℕ, zero, suc, ◌+◌, ◌≤◌, Bool, true, false, List, [], ◌∷◌, length, take, refl, arith}
use Rattle.std.proofs.Common.{nat_eq}
use Rattle.std.proofs.Math.Dec.{eqb-suc-suc, eqb-zero-suc}
use Rattle.std.specs.List.{list_all, prefix_len}
use Rattle.c_lex.proofs.Tables.{and_true}

run_step : {A : Type 0} (p : A → Bool) (x : A) (xs : List A) (b : Bool) → p x ≡ b →
    list_all p (take (prefix_len p xs) xs) ≡ true → list_all p (take (prefix_len p (x ∷ xs)) (x ∷ xs)) ≡ true
run_step p x xs true e rest =
    let more : 1 + prefix_len p xs ≡ suc (prefix_len p xs) = omega arith in rw (e, more) (rw e rest)
run_step p x xs false e rest = rw e refl

-- it passes
pub run_passes : {A : Type 0} (p : A → Bool) (xs : List A) → list_all p (take (prefix_len p xs) xs) ≡ true
run_passes p [] = refl
run_passes p (x ∷ xs) = run_step p x xs (p x) refl (run_passes p xs)

-- no longer front passes
pub front_in_run : {A : Type 0} (p : A → Bool) (xs : List A) (n : ℕ) → n ≤ length xs → list_all p (take n xs) ≡ true →
    n ≤ prefix_len p xs
front_in_run p xs zero within passes = omega arith
front_in_run p [] (suc n) within passes = absurd (omega arith)
front_in_run p (x ∷ xs) (suc n) within passes =
    let both = and_true (p x) _ passes in
    let rest : n ≤ prefix_len p xs = front_in_run p xs n (omega arith) both.1 in
    rw both.0 (omega arith)

whole_step : {A : Type 0} (p : A → Bool) (x : A) (xs : List A) (b : Bool) → p x ≡ b →
    nat_eq (prefix_len p xs) (length xs) ≡ list_all p xs →
    nat_eq (prefix_len p (x ∷ xs)) (length (x ∷ xs)) ≡ list_all p (x ∷ xs)
whole_step p x xs true e rest =
    let more : 1 + prefix_len p xs ≡ suc (prefix_len p xs) = omega arith in
    rw (e, more, eqb-suc-suc (prefix_len p xs) (length xs)) rest
whole_step p x xs false e rest = rw (e, eqb-zero-suc (length xs)) refl

-- it is the whole list where each element passes
pub run_whole : {A : Type 0} (p : A → Bool) (xs : List A) → nat_eq (prefix_len p xs) (length xs) ≡ list_all p xs
run_whole p [] = refl
run_whole p (x ∷ xs) = whole_step p x xs (p x) refl (run_whole p xs)
