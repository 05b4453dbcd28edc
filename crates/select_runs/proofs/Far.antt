-- Places that may be far from a capability with exact bounds: the words that move it there.
use Rattle.std.proofs.Common.{◌≡◌, ◌≢◌, ℕ, ◌+◌, ◌-◌, ◌*◌, ◌%◌, ◌^◌, ◌<◌, inl, inr, ℤ, pos, Bool, true, false, List, []}
use Rattle.std.proofs.Common.{◌∷◌, ◌++◌, length, Some, refl, ap, ◌∙◌, subst, arith, if◌then◌else◌}
use Rattle.std.specs.Prelude.{nat_lt, slice_get}
use Rattle.std.proofs.lemmas.Bool.{cases_lt, ltb-false}
use Rattle.cap_ops.specs.declared.capability.Cap.{Cap}
use Rattle.cap_ops.specs.declared.capability.TheConstants.{UNSEALED}
use Rattle.cap_ops.specs.Capability.{moved, added, null_at}
use Rattle.cap_ops.specs.Bounded.{bounded}
use Rattle.cap_ops.specs.Permissions.{data_permissions}
use Rattle.cap_ops.proofs.Laws.{bounded_moved}
use Rattle.rv_instr.specs.Range.{InRange, FitsBits}
use Rattle.rv_instr.specs.declared.instr.Instr.{Instr}
use Rattle.rv_instr.specs.declared.instr.Instr.TheVariants.{Upper, CapReg, CapImm}
use Rattle.rv_instr.specs.declared.ops.UpperOp.TheVariants.{Lui}
use Rattle.rv_instr.specs.declared.ops.CapImmOp.TheVariants.{Cincoffsetimm}
use Rattle.rv_instr.specs.declared.ops.CapRegOp.TheVariants.{Cincoffset}
use Rattle.cap_machine.specs.declared.machine.Machine.{Machine}
use Rattle.cap_machine.specs.Integers.{word, extended}
use Rattle.cap_machine.specs.State.{register, integer}
use Rattle.cap_machine.specs.Rows.{row, upper_row, cap_reg_row, cap_imm_row, plus, set}
use Rattle.obj_mem.specs.Pointers.{keeps}
use Rattle.purecap_abi.specs.Words.{low, high, near_code, moved_code}
use Rattle.purecap_abi.proofs.Numbers.{plus_low, plus_high}
use Rattle.place_inject.proofs.Reaching.{kept_bounds}
use Rattle.select_words.specs.Standing.{HasAt}
use Rattle.select_runs.specs.Acts.{Ground, Laid, IsThere, Holds}
use Rattle.select_runs.proofs.Acts.{still, one_set, after}
use Rattle.select_runs.proofs.Numbers.{null_address, word_is, signed_small, plus_extended}

-- ---- arithmetic of far places

-- what is left of an offset above its low 12 bits
abbrev pub far : ℕ → ℕ
far n = high n * 4096

far_upper : (n : ℕ) → n < 2 ^ 31 - 2048 → word (high n % 2 ^ 20 * 4096) ≡ far n
far_upper n small =
    let e : high n % 2 ^ 20 * 4096 ≡ far n = omega arith in
    word_is (high n % 2 ^ 20 * 4096) ∙ signed_small (high n % 2 ^ 20 * 4096) (omega arith) ∙ omega (arith, e)

pub far_low : (a n : ℕ) → a + n < 2 ^ 64 → FitsBits 12 (low n) → plus (a + far n) (low n) ≡ a + n
far_low a n small fits =
    elim (cases_lt (n % 4096) 2048) as (λ _. plus (a + far n) (low n) ≡ a + n) [
      | inl less ↦ plus_extended (a + far n) (low n) fits ∙ plus_low (a + far n) n less ∙ omega (arith, less)
      | inr more ↦ plus_extended (a + far n) (low n) fits ∙ plus_high (a + far n) n more ∙ omega (arith, more)
    ]

pub near_low : (a n : ℕ) → a + n < 2 ^ 64 → plus a (pos n) ≡ a + n
unfolding Rattle.ck_int.specs.Kinds.kept_of
near_low a n small = omega arith

-- ---- the capability at an address of its bounds, moved

-- bounds, an address that keeps them, and an offset from there
pub record Reach (bottom top y offset : ℕ) : Type 0 where
  pub small : offset < 2 ^ 31 - 2048
  pub below : y + offset + 4096 < 2 ^ 64
  pub here : keeps bottom top y ≡ true
  pub near : keeps bottom top (y + far offset) ≡ true

abbrev pub pointer : (bottom top y : ℕ) → Cap
pointer bottom top y = bounded bottom top data_permissions UNSEALED y

pub pointer_moved : (bottom top y z by : ℕ) → keeps bottom top y ≡ true → keeps bottom top z ≡ true →
    (y + by) % 2 ^ 64 ≡ z
    → added (pointer bottom top y) by ≡ pointer bottom top z
unfolding Rattle.cap_concentrate.specs.Encoding.with_bounds
pointer_moved bottom top y z by ky kz sum =
    let b = kept_bounds bottom top data_permissions y ky in
    let c = kept_bounds bottom top data_permissions z kz in
    ap (moved (pointer bottom top y)) sum ∙ bounded_moved bottom top data_permissions y z b.0 b.1 c.0 c.1

-- Words that move a register by an offset, in a machine where it has such a capability
module _ (g : Ground) (laid : Laid g) (bottom top y offset base to : ℕ) (reach : Reach bottom top y offset)
    (other : base ≢ to)
    (some : 0 < to) (below : to < 32) where
  upper_word : (n : Machine) (at : ℕ) → IsThere g n at → slice_get g.code at ≡ Some (Upper Lui to
      (high offset % 2 ^ 20))
      → Holds g n 1 (at + 1) to to (null_at (far offset))
  unfolding row upper_row
  upper_word n at h has =
      one_set g laid n at h (Upper Lui to (high offset % 2 ^ 20)) to (null_at (far offset)) has refl some below
      (ap (λ k. set n to (null_at k)) (far_upper offset reach.small))

  moved_word : (n : Machine) (mid : ℕ) → IsThere g n mid → register n base ≡ pointer bottom top y
      → register n to ≡ null_at (far offset)
      → slice_get g.code mid ≡ Some (CapReg Cincoffset to base to)
      → Holds g n 1 (mid + 1) to to (pointer bottom top (y + far offset))
  unfolding row cap_reg_row
  moved_word n mid h holds is has =
      let end = reach.below in
      one_set g laid n mid h (CapReg Cincoffset to base to) to (pointer bottom top (y + far offset)) has refl some below
      (ap (λ c. set n to (added c (integer n to))) holds
      ∙ ap (λ (c : Cap). set n to (added (pointer bottom top y) c.fields.address)) is
      ∙ ap (λ k. set n to (added (pointer bottom top y) k)) (null_address (far offset))
      ∙ ap (set n to) (pointer_moved bottom top y (y + far offset) (far offset) reach.here reach.near (omega arith)))

  -- the two words that come near the place
  pub near : (n : Machine) (at : ℕ) → IsThere g n at → register n base ≡ pointer bottom top y
      → slice_get g.code at ≡ Some (Upper Lui to (high offset % 2 ^ 20))
      → slice_get g.code (at + 1) ≡ Some (CapReg Cincoffset to base to)
      → Holds g n 2 (at + 1 + 1) to to (pointer bottom top (y + far offset))
  near n at h holds first second =
      let a = upper_word n at h first in
      let b = moved_word a.to (at + 1) (still g laid n (at + 1) at to to 1 (null_at (far offset)) h a)
      (a.others base other ∙ holds) a.holds second in
      after g laid n at (at + 1) (at + 1 + 1) to to to 1 1 (null_at (far offset)) (pointer bottom top
      (y + far offset)) a b

  -- a word that moves it by a small number
  small_move : (n : Machine) (at from a b : ℕ) (z : ℤ) → IsThere g n at → register n from ≡ pointer bottom top a
      → slice_get g.code at ≡ Some (CapImm Cincoffsetimm to from z) → keeps bottom top a ≡ true
      → keeps bottom top b ≡ true
      → plus a z ≡ b → Holds g n 1 (at + 1) to to (pointer bottom top b)
  unfolding row cap_imm_row
  small_move n at from a b z h holds has ka kb sum =
      one_set g laid n at h (CapImm Cincoffsetimm to from z) to (pointer bottom top b) has refl some below
      (ap (λ c. set n to (added c (extended z))) holds ∙ ap (set n to) (pointer_moved bottom top a b
      (extended z) ka kb sum))

  abbrev all_words : (b l : Bool) → List Instr
  all_words b l =
      if b then CapImm Cincoffsetimm to base (pos offset) ∷ []
      else near_code to base offset ++ (if l then CapImm Cincoffsetimm to to (low offset) ∷ [] else [])

  pub moves : (n : Machine) (at : ℕ) → IsThere g n at → register n base ≡ pointer bottom top y
      → keeps bottom top (y + offset) ≡ true → HasAt g.code at (moved_code to base offset)
      → Holds g n (length (moved_code to base offset)) (at + length (moved_code to base offset)) to to
      (pointer bottom top (y + offset))
  unfolding InRange
  moves n at h holds keep has = by (nat_lt offset 2048) (nat_lt 0 (offset % 4096)) refl has
    where
      by : (b l : Bool) → nat_lt 0 (offset % 4096) ≡ l → HasAt g.code at (all_words b l)
          → Holds g n (length (all_words b l)) (at + length (all_words b l)) to to (pointer bottom top (y + offset))
      by true l e q =
          let end = reach.below in
          small_move n at base y (y + offset) (pos offset) h holds q.0 reach.here keep (near_low y offset (omega arith))
      by false true e q =
          let end = reach.below in
          let a = near n at h holds q.0 q.1.0 in
          let range = laid.in_range (at + 1 + 1) (CapImm Cincoffsetimm to to (low offset)) q.1.1.0 in
          let here = still g laid n (at + 1 + 1) at to to 2 (pointer bottom top (y + far offset)) h a in
          let b = small_move a.to (at + 1 + 1) to (y + far offset) (y + offset)
          (low offset) here a.holds q.1.1.0 reach.near keep
          (far_low y offset (omega arith) range.2) in
          let size : at + 1 + 1 + 1 ≡ at + 3 = omega arith in
          subst (λ k. Holds g n 3 k to to (pointer bottom top (y + offset))) size
          (after g laid n at (at + 1 + 1) (at + 1 + 1 + 1) to to to 2 1 (pointer bottom top (y + far offset))
          (pointer bottom top (y + offset)) a b)
      by false false e q =
          let a = near n at h holds q.0 q.1.0 in
          let none = ltb-false 0 (offset % 4096) e in
          let same : y + far offset ≡ y + offset = omega (arith, none) in
          let size : at + 1 + 1 ≡ at + 2 = omega arith in
          subst (λ k. Holds g n 2 k to to (pointer bottom top (y + offset))) size
          (subst (λ k. Holds g n 2 (at + 1 + 1) to to (pointer bottom top k)) same a)
