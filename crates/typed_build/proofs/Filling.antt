-- Lists that are made item by item.
use Rattle.std.proofs.Common.{◌≡◌, ℕ, suc, ◌+◌, ◌-◌, ◌<◌, List, ◌∷◌, ◌++◌, length, get_or, drop, pos, sym, ap}
use Rattle.std.proofs.Common.{◌∙◌, append_assoc, arith}
use Rattle.std.proofs.Math.Seq.{drop-cons}
use Rattle.rv_instr.specs.declared.instr.Instr.{Instr}
use Rattle.rv_instr.specs.declared.instr.Instr.TheVariants.{Cjal}
use Rattle.typed_build.specs.Text.{instr_bytes, code_bytes, filler}

front : {A : Type 0} (xs : List A) (k : ℕ) (d : A) → k < length xs → drop k xs ≡ get_or xs k d ∷ drop (k + 1) xs
front xs k d lt = drop-cons xs k d lt ∙ ap (λ n. get_or xs k d ∷ drop n xs) (let q : suc k ≡ k + 1 = omega arith in q)

-- the bytes of one instruction more
pub pushed-more : (o o1 start : List ℕ) (code : List Instr) (i : Instr) (k : ℕ) → k < length code
    → i ≡ get_or code k i → o1 ≡ o ++ instr_bytes i → o ++ code_bytes (drop k code) ≡ start
    → o1 ++ code_bytes (drop (k + 1) code) ≡ start
pushed-more o o1 start code i k lt is e h =
    ap (λ t. t ++ code_bytes (drop (k + 1) code)) e
    ∙ append_assoc o (instr_bytes i) (code_bytes (drop (k + 1) code))
    ∙ ap (λ j. o ++ (instr_bytes j ++ code_bytes (drop (k + 1) code))) is
    ∙ ap (λ c. o ++ code_bytes c) (sym (front code k i lt))
    ∙ h

-- a word more of the filling
pub filled-more : (o o1 start : List ℕ) (count k : ℕ) → k < count → o1 ≡ o ++ instr_bytes (Cjal 0 (pos 0))
    → o ++ code_bytes (filler (count - k)) ≡ start → o1 ++ code_bytes (filler (count - (k + 1))) ≡ start
filled-more o o1 start count k within e h =
    let step : count - k ≡ suc (count - (k + 1)) = omega arith in
    ap (λ t. t ++ code_bytes (filler (count - (k + 1)))) e
    ∙ append_assoc o (instr_bytes (Cjal 0 (pos 0))) (code_bytes (filler (count - (k + 1))))
    ∙ ap (λ n. o ++ code_bytes (filler n)) (sym step)
    ∙ h
