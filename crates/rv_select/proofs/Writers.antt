-- What is written to temps, instruction by instruction.
use Rattle.std.proofs.Common.{◌≡◌, ◌≢◌, ◌⊎◌, inl, inr, ℕ, zero, suc, ◌+◌, ◌<◌, ◌≤◌, ℤ, List, [], ◌∷◌, ◌++◌, length}
use Rattle.std.proofs.Common.{get_or}
use Rattle.std.proofs.Common.{set, take, refl, sym, ap, ◌∙◌, subst, arith, ⊎_elim}
use Rattle.std.specs.Prelude.{Option, Some, slice_get, IfSome}
use Rattle.std.specs.List.{Contains}
use Rattle.std.proofs.lemmas.List.{take_more}
use Rattle.std.proofs.lemmas.List.Elements.{Contains-append_cases}
use Rattle.std.proofs.lemmas.Option.{slice_get_within, slice_get-get_or}
use Rattle.cap_machine.specs.Integers.{extended}
use Rattle.tac_ir.specs.Temps.{IsIn, writes}
use Rattle.tac_ir.specs.declared.code.TacInstr.{TacInstr}
use Rattle.tac_ir.specs.declared.code.TacInstr.TheVariants as instr
use Rattle.rv_select.specs.declared.numbers.Written.{Written}
use Rattle.rv_select.specs.declared.numbers.Written.TheVariants.{Nothing, Number, Values}
use Rattle.rv_select.specs.Written.{AreWriters, Gives, Writes, AllWrite, IsConstant, Joins}

-- ---- one instruction more

writers_more : (Is : TacInstr → Type 0) (code : List TacInstr) (i : TacInstr) (t : ℕ) → AreWriters Is code t
    → (IsIn t (writes i) → Is i) → AreWriters Is (code ++ i ∷ []) t
writers_more Is code i t all here j among wrote = ⊎_elim
    (λ (old : Contains code j). all j old wrote)
    (λ (new : Contains (i ∷ []) j).
    let same : i ≡ j = only j new in
    subst Is same (here (subst (λ x. IsIn t (writes x)) (sym same) wrote)))
    (Contains-append_cases code (i ∷ []) j among)
  where
    only : (j : TacInstr) → Contains (i ∷ []) j → i ≡ j
    only j (zero, lt, e) = e
    only j (suc k, lt, e) = absurd (omega (arith, lt))

constant_gives : (v : ℕ) (i : TacInstr) (t : ℕ) → IsConstant v i → IsIn t (writes i) → Gives t v i
constant_gives v (instr.Const to k x) t e (zero, is) =
    let same : to ≡ t = cc in
    (k, ap (λ y. instr.Const y k x) same ∙ ap (instr.Const t k) e)
constant_gives v (instr.Const to k x) t e (suc j, is) = absurd cc
constant_gives v i t e is = absurd e

module _ (params : ℕ) (code : List TacInstr) (i : TacInstr) where
  -- it writes another temp
  writes_kept : (t : ℕ) (w : Written) → Writes params code t w → (IsIn t (writes i) → ⊥)
      → Writes params (code ++ i ∷ []) t w
  writes_kept t Nothing h none = (h.0, writers_more (λ j. ⊥) code i t h.1 none)
  writes_kept t (Number v) h none =
      (h.0, writers_more (Gives t (extended v)) code i t h.1 (λ is. absurd (none is)))
  writes_kept t Values h none = tt

  -- it writes this one
  writes_joined : (t : ℕ) (before w : Written) (c : Option ℤ) → Writes params code t before → Joins before c w
      → IfSome c (λ v. IsConstant (extended v) i) → Writes params (code ++ i ∷ []) t w
  writes_joined t before Nothing c h j e = absurd j
  writes_joined t before (Number v) c h j e =
      let none = subst (Writes params code t) j.0 h in
      let is = subst (λ x. IfSome x (λ y. IsConstant (extended y) i)) j.1 e in (
        none.0,
        writers_more (Gives t (extended v)) code i t (λ x a b. absurd (none.1 x a b))
            (constant_gives (extended v) i t is),
      )
  writes_joined t before Values c h j e = tt

-- ---- one entry other

set_cases : (ws : List Written) (t : ℕ) (x : Written) (k : ℕ) (w : Written) → slice_get (set ws t x) k ≡ Some w
    → ((k ≡ t) × (w ≡ x)) ⊎ ((k ≢ t) × (slice_get ws k ≡ Some w))
set_cases [] t x k w e = absurd cc
set_cases (y ∷ ys) zero x zero w e = inl (refl, cc)
set_cases (y ∷ ys) zero x (suc k) w e = inr (λ s. omega (arith, s), e)
set_cases (y ∷ ys) (suc t) x zero w e = inr (λ s. omega (arith, s), e)
set_cases (y ∷ ys) (suc t) x (suc k) w e = ⊎_elim
    (λ (l : (k ≡ t) × (w ≡ x)). inl (ap suc l.0, l.1))
    (λ (r : (k ≢ t) × (slice_get ys k ≡ Some w)). inr (λ s. r.0 (omega (arith, s)), r.1))
    (set_cases ys t x k w e)

-- ---- all entries

later : (params : ℕ) (t : ℕ) (w : Written) → params ≢ t → Writes params [] t w → Writes (params + 1) [] t w
later params t Nothing d h = (let a = h.0 in omega (arith, a, d), h.1)
later params t (Number v) d h = (let a = h.0 in omega (arith, a, d), h.1)
later params t Values d h = tt

-- a parameter holds values
pub parameter_written : (params : ℕ) (ws : List Written) → AllWrite params [] ws
    → AllWrite (params + 1) [] (set ws params Values)
parameter_written params ws h t w e = ⊎_elim
    (λ (l : (t ≡ params) × (w ≡ Values)). subst (Writes (params + 1) [] t) (sym l.1) tt)
    (λ (r : (t ≢ params) × (slice_get ws t ≡ Some w)). later params t w (λ s. r.0 (sym s)) (h t w r.1))
    (set_cases ws params Values t w e)

pub parameter_past : (params : ℕ) (ws : List Written) → length ws ≤ params → AllWrite params [] ws
    → AllWrite (params + 1) [] ws
parameter_past params ws past h t w e =
    let lt = slice_get_within ws t w e in
    later params t w (λ s. omega (arith, lt, past, s)) (h t w e)

-- what one temp and no temp are
pub written_one : (t k : ℕ) (ks : List ℕ) → t ∷ [] ≡ ks → IsIn k ks → k ≡ t
written_one t k ks e is = only k (subst (IsIn k) (sym e) is)
  where
    only : (k : ℕ) → IsIn k (t ∷ []) → k ≡ t
    only k (zero, s) = cc
    only k (suc j, s) = absurd cc

pub written_none : (k : ℕ) (ks : List ℕ) → [] ≡ ks → IsIn k ks → ⊥
written_none k ks e is = absurd (let s = subst (IsIn k) (sym e) is in cc s.1)

module _ (params : ℕ) (code : List TacInstr) (i : TacInstr) (ws : List Written) where
  -- an instruction that writes no temp, or none of these
  pub written_past : ((t : ℕ) → IsIn t (writes i) → length ws ≤ t) → AllWrite params code ws
      → AllWrite params (code ++ i ∷ []) ws
  written_past past h t w e =
      let inside = slice_get_within ws t w e in
      writes_kept params code i t w (h t w e) (λ wrote. let p = past t wrote in omega (arith, p, inside))

  -- one that writes this
  pub written_more : (t : ℕ) (before now : Written) (c : Option ℤ) → t ∷ [] ≡ writes i → t < length ws
      → before ≡ get_or ws t before → Joins before c now → IfSome c (λ v. IsConstant (extended v) i)
      → AllWrite params code ws → AllWrite params (code ++ i ∷ []) (set ws t now)
  written_more t before now c wrote lt was j e h k w at = ⊎_elim
      (λ (l : (k ≡ t) × (w ≡ now)).
      subst (λ x. Writes params (code ++ i ∷ []) x w) (sym l.0)
      (subst (Writes params (code ++ i ∷ []) t) (sym l.1)
      (writes_joined params code i t before now c
      (h t before (slice_get-get_or ws t before lt ∙ ap Some (sym was))) j e)))
      (λ (r : (k ≢ t) × (slice_get ws k ≡ Some w)).
      writes_kept params code i k w (h k w r.1) (λ wrote_k. r.0 (written_one t k (writes i) wrote wrote_k)))
      (set_cases ws t now k w at)

-- in the order of the instructions
pub written_next : (params : ℕ) (all : List TacInstr) (n : ℕ) (i : TacInstr) (ws : List Written) → n < length all
    → i ≡ get_or all n i → AllWrite params (take n all ++ i ∷ []) ws → AllWrite params (take (n + 1) all) ws
written_next params all n i ws lt is h =
    subst (λ x. AllWrite params x ws) (ap (λ x. take n all ++ x ∷ []) is ∙ sym (take_more all n i lt)) h
