-- The bounds that fields give are the same at all addresses of one block of 2048 bytes: decoding reads of an address no
-- lower bit.
use Rattle.std.proofs.Common.{◌≡◌, ℕ, ◌+◌, ◌/◌, ◌%◌, ◌^◌, Bool, refl, sym, ap, ◌∙◌, arith}
use Rattle.std.proofs.lemmas.Nat.{shr-shr}
use Rattle.cap_concentrate.specs.Decoding.{exponent, mantissa, whole_top, high, placed, base_of, top_of}

-- so in units of 2 ^ e too
same_units : (e a c : ℕ) → a / 2048 ≡ c / 2048 → a / 2 ^ e / 2048 ≡ c / 2 ^ e / 2048
same_units e a c s =
    let swap : e + 11 ≡ 11 + e = omega arith in
    let shifted = λ (x : ℕ). shr-shr x e 11 ∙ ap (λ k. x / 2 ^ k) swap ∙ sym (shr-shr x 11 e) in
    shifted a ∙ ap (λ x. x / 2 ^ e) s ∙ sym (shifted c)

placed_in_block : (e a c b x : ℕ) → a / 2048 ≡ c / 2048 → placed e a b x ≡ placed e c b x
unfolding placed high
placed_in_block e a c b x s =
    let u = same_units e a c s in
    let low : a / 2 ^ e % 16384 / 2048 ≡ c / 2 ^ e % 16384 / 2048 = omega (arith, u) in
    let above : a / 2 ^ (e + 14) ≡ c / 2 ^ (e + 14) = rw (← shr-shr a e 14, ← shr-shr c e 14) (omega (arith, u)) in
    rw (low, above) refl

pub same_in_block : (internal : Bool) (t b a c : ℕ) → a / 2048 ≡ c / 2048 →
    (base_of internal t b a ≡ base_of internal t b c) × (top_of internal t b a ≡ top_of internal t b c)
unfolding base_of top_of
same_in_block internal t b a c s =
    let e = exponent internal t b in
    let low = mantissa internal b in
    let base = placed_in_block e a c low low s in
    let top = placed_in_block e a c low (whole_top internal (mantissa internal t) low) s in
    (ap (λ v. v % 2 ^ 64) base, rw (base, top) refl)
