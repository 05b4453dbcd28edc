-- How many the words of the calling convention are.
use Rattle.std.proofs.Common.{◌≡◌, ℕ, ◌+◌, ◌-◌, ◌<◌, ◌≤◌, Bool, true, false, List, [], ◌++◌, length, refl, ap, ◌∙◌}
use Rattle.std.proofs.Common.{arith}
use Rattle.std.specs.Prelude.{◌^◌, if◌then◌else◌}
use Rattle.std.proofs.lemmas.Bool.Decides.{nat_tests}
use Rattle.rv_instr.specs.declared.instr.Instr.{Instr}
use Rattle.purecap_abi.specs.Words.{Appends, is_short, is_word, most_words}
use Rattle.tac_ir.specs.Costs.{number_cost}

pub part_few : (most : ℕ) (old new : List Instr) → old ≡ [] → Appends most old new → length new ≤ most
part_few most old new e a =
    let f : new ≡ a.added = a.is ∙ ap (λ v. v ++ a.added) e in
    let g : length new ≡ length a.added = ap length f in
    let h : length a.added ≤ most = a.few in
    omega (arith, g, h)

-- the words of a number
pub most_words-le : (n : ℕ) → most_words n ≤ number_cost n
unfolding most_words
most_words-le n = let e : most_words n ≡ number_cost n = refl in omega (arith, e)

pub word_words : (n : ℕ) → is_word n ≡ true → most_words n ≤ 2
unfolding most_words
word_words n h =
    rw h (elim (is_short n) as (λ (b : Bool). (if b then 1 else 2) ≤ 2) [ true ↦ omega arith | false ↦ omega arith ])

pub low_words : (n : ℕ) → n < 2 ^ 31 → most_words n ≤ 2
low_words n h = word_words n (grind (arith, nat_tests, h))

pub high_words : (n : ℕ) → 2 ^ 64 - 2 ^ 31 ≤ n → most_words n ≤ 2
high_words n h = word_words n (grind (arith, nat_tests, h))
