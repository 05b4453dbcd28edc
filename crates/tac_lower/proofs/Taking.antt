-- Arguments come into parameters, one by one.
use Rattle.std.proofs.Common.{◌≡◌, ℕ, zero, suc, ◌+◌, ◌<◌, List, [], ◌∷◌, ◌++◌}
use Rattle.std.proofs.Common.{length, take, Option, Some, refl, sym, ap, ◌∙◌, arith}
use Rattle.std.specs.Prelude.{slice_get}
use Rattle.std.proofs.lemmas.List.{take_more}
use Rattle.std.proofs.lemmas.Option.{slice_get_within, get_or_from_slice_get}
use Rattle.ck_base.specs.declared.positions.Pos.{Pos}
use Rattle.tac_ir.specs.declared.code.TacInstr.{TacInstr}
use Rattle.tac_ir.specs.declared.code.TacKind.{TacKind}
use Rattle.tac_lower.specs.declared.context.Home as places
use Rattle.tac_emit.specs.declared.emitter.Emitter.{Emitter}
use Rattle.tac_lower.specs.Programs.{taken_code, taking}
use Rattle.tac_emit.specs.Adding.{Emits}
use Rattle.tac_emit.proofs.Emitting.{emits_and, emits_code}

-- ---- the code

module _ (homes : List places.Home) (kind : ℕ → TacKind) (q : Pos) where
  code_by : (h : Option places.Home) (i : ℕ) (k : TacKind) (r s : List TacInstr) → r ≡ s →
      taken_code h i k q r ≡ taken_code h i k q s
  code_by h i k r s e = ap (taken_code h i k q) e

  taking_more : (xs : List ℕ) (x i : ℕ) (rest : List TacInstr) → taking homes kind q (xs ++ x ∷ []) i rest
      ≡ taking homes kind q xs i (taken_code (slice_get homes x) (i + length xs) (kind x) q rest)
  taking_more [] x i rest =
      let e : i ≡ i + length {A = ℕ} [] = omega arith in
      ap (λ n. taken_code (slice_get homes x) n (kind x) q rest) e
  taking_more (y ∷ xs) x i rest =
      let e : i + 1 + length xs ≡ i + length (y ∷ xs) = omega arith in
      code_by (slice_get homes y) i (kind y) _ _ (taking_more xs x (i + 1) rest
      ∙ ap (λ n. taking homes kind q xs (i + 1) (taken_code (slice_get homes x) n (kind x) q rest)) e)

  pub takes_more : (ps : List ℕ) (i t x : ℕ) {a b c : Emitter} → t ≡ i → slice_get ps i ≡ Some x →
      Emits a b 0 (taking homes kind q (take i ps) 0) →
      Emits b c 0 (taken_code (slice_get homes x) t (kind x) q) →
      Emits a c 0 (taking homes kind q (take (i + 1) ps) 0)
  takes_more ps i t x {a = a} {b = b} {c = c} at is f h =
      let lt = slice_get_within ps i x is in
      let more : take (i + 1) ps ≡ take i ps ++ x ∷ [] = take_more ps i x lt
      ∙ ap (λ z. take i ps ++ z ∷ []) (get_or_from_slice_get ps i x x is) in
      let many : t ≡ 0 + length (take i ps) = omega (arith, at, length_take ps i lt) in
      emits_code (λ r. sym (ap (λ z. taking homes kind q z 0 r) more ∙ taking_more (take i ps) x 0 r
      ∙ ap (λ n. taking homes kind q (take i ps) 0 (taken_code (slice_get homes x) n (kind x) q r)) (sym many)))
      (emits_and f h)
    where
      length_take : (ps : List ℕ) (i : ℕ) → i < length ps → length (take i ps) ≡ i
      length_take [] i l = absurd (omega arith)
      length_take (y ∷ ps) zero l = refl
      length_take (y ∷ ps) (suc i) l = let r = length_take ps i (omega arith) in omega (arith, r)
