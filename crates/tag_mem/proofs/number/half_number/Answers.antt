use Rattle.std.proofs.Common.{◌≡◌, ◌<◌, ◌*◌, ◌/◌, List, ℕ, zero, suc, [], ◌∷◌, length, take, drop, get_or, sym, ap, ◌∙◌}
use Rattle.std.proofs.Common.{arith}
use Rattle.std.specs.Int.{from_le_bytes, w64}
use Rattle.std.specs.Simd.{first_chunks}
use Rattle.std.proofs.lemmas.List.{length-take-le, length-drop}
use Rattle.std.proofs.lemmas.List.Elements.{All-from_get_or}
use Rattle.tag_mem.specs.Numbers.{little_number}
use Rattle.tag_mem.proofs.LittleEndian.{number-half}
use Rattle.tag_mem.proofs.Granules.{same_granule}
use Rattle.tag_mem.proofs.number.half_number.Goals as goal

half-of : (halves : List (List ℕ)) (g : List ℕ) (half : ℕ) (d : List ℕ) → halves ≡ take 8 g ∷ (take 8 (drop 8 g) ∷ []) →
    half < 2 → length g ≡ 16
    → from_le_bytes w64 (get_or halves half d) ≡ little_number (take 8 (drop (8 * half) g))
half-of halves g zero d is lt size =
    let at : 0 ≡ 8 * zero = omega arith in
    ap (λ (hs : List (List ℕ)). from_le_bytes w64 (get_or hs zero d)) is
    ∙ number-half (take 8 g) (length-take-le 8 g (omega (arith, size)))
    ∙ ap (λ (k : ℕ). little_number (take 8 (drop k g))) at
half-of halves g (suc zero) d is lt size =
    let at : 8 ≡ 8 * suc zero = omega arith in
    ap (λ (hs : List (List ℕ)). from_le_bytes w64 (get_or hs (suc zero) d)) is
    ∙ number-half (take 8 (drop 8 g)) (length-take-le 8 (drop 8 g) (omega (arith, size, length-drop 8 g)))
    ∙ ap (λ (k : ℕ). little_number (take 8 (drop k g))) at
half-of halves g (suc (suc k)) d is lt size = absurd (omega (arith, lt))

pub returns : goal.returns
returns c =
    let g : List ℕ = c.args.bytes.now in
    let count : length g / 8 ≡ 2 = omega (arith, c.told-bytes) in
    let halves : c.as_chunks.result.0.now ≡ take 8 g ∷ (take 8 (drop 8 g) ∷ []) =
    c.as_chunks.ensures.front ∙ ap (λ (k : ℕ). first_chunks 8 k g) count in
    let whole = same_granule g c.told-bytes (All-from_get_or (λ b. b < 256) g 0 (λ k _. c.fits-bytes k)) in
    c.from_le_bytes.ensures ∙ half-of c.as_chunks.result.0.now g c.args.half _ halves c.requires c.told-bytes
    ∙ ap (λ (x : List ℕ). little_number (take 8 (drop (8 * c.args.half) x))) (sym whole)
