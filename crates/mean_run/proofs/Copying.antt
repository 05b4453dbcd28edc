-- A struct or union is copied as the machine copies it.
use Rattle.std.proofs.Common.{◌≡◌, ℕ, suc, ◌+◌, ◌-◌, ◌/◌, ◌%◌, ◌^◌, ◌<◌, ◌≤◌, Result, Ok, Err, refl, sym, ap}
use Rattle.std.proofs.Common.{subst, ◌∙◌, arith}
use Rattle.ck_base.specs.declared.positions.Pos.{Pos}
use Rattle.obj_mem.specs.declared.ending.Fault.{Fault}
use Rattle.obj_mem.specs.declared.ending.UnitFault.{UnitFault}
use Rattle.obj_mem.specs.Values.{Value}
use Rattle.obj_mem.specs.Values as value
use Rattle.cheri_c_sem.specs.Meaning.{Place, capability_of, further, position_of}
use Rattle.cheri_c_sem.specs.Modes.{Store}
use Rattle.cheri_c_sem.specs.Operations.{Operations}
use Rattle.cheri_c_sem.specs.Steps.{fault_end, unit_end}
use Rattle.mean_operations.specs.Answers.{IsAccess}
use Rattle.mean_steps.specs.Parts.{Now, Came, On, Over, copy, copy_units, next_of, unit_answer, answer, set_memory}
use Rattle.mean_work.specs.declared.work.Stop.{Stop}
use Rattle.mean_work.specs.declared.work.Stop.TheVariants as stop
use Rattle.mean_run.specs.Parts.{LeavesIt, UnitCopied}

pub access_above : (unit : ℕ) → IsAccess unit → 0 < unit
access_above unit h = search arith

-- a number of bytes further on counts modulo 2^64
pub further_word : (v : Value) (n : ℕ) → further v (n % 2 ^ 64) ≡ further v n
further_word (value.Live object low high offset permissions) n =
    let e : (offset + n % 2 ^ 64) % 2 ^ 64 ≡ (offset + n) % 2 ^ 64 = omega arith in
    ap (λ o. value.Live object low high o permissions) e
further_word (value.Int i) n = refl
further_word (value.Fun f) n = refl
further_word (value.Raw address upper) n = refl

pub next_word : (code_at at unit : ℕ) → code_at ≡ at % 2 ^ 64 → (code_at + unit) % 2 ^ 64 ≡ (at + unit) % 2 ^ 64
next_word code_at at unit e = omega arith

module _ (ops : Operations Store) (units unit : ℕ) (from to : Place) (n : Now Store) (mem : Store)
    (whole : Came Store (Unit {0})) where
  -- what is left of a copy, from a number of bytes on
  abbrev left_from : ℕ → ℕ → Store → Came Store (Unit {0})
  left_from j at m = copy_units ops j unit at from to (record n { mem = m })

  abbrev one : ℕ → Result Store UnitFault
  one at = ops.copy_unit mem (further (capability_of from) at) (further (capability_of to) at) unit

  one_more : (j at : ℕ) (left : Store) → one at ≡ Ok left → left_from (suc j) at mem ≡ left_from j (at + unit) left
  one_more j at left e =
      ap (λ r. next_of (unit_answer (position_of from) (position_of to) r (record n { mem = mem }))
      (λ m n. next_of (set_memory m n) (λ _. copy_units ops j unit (at + unit) from to))) e

  one_ends : (j at : ℕ) (f : UnitFault) → one at ≡ Err f →
      left_from (suc j) at mem ≡ Over (unit_end f (position_of from) (position_of to))
  one_ends j at f e =
      ap (λ r. next_of (unit_answer (position_of from) (position_of to) r (record n { mem = mem }))
      (λ m n. next_of (set_memory m n) (λ _. copy_units ops j unit (at + unit) from to))) e

  -- a unit that the code copies
  abbrev pub unit_at : Operations Store → ℕ → Result Store UnitFault
  unit_at o at = o.copy_unit mem (further (capability_of from) at) (further (capability_of to) at) unit

  same_place : (o : Operations Store) (at code_at : ℕ) → o ≡ ops → code_at ≡ at % 2 ^ 64 → unit_at o code_at ≡ one at
  same_place o at code_at h e =
      ap (λ o. unit_at o code_at) h ∙ (ap (unit_at ops) e
      ∙ (ap (λ v. ops.copy_unit mem v (further (capability_of to) (at % 2 ^ 64)) unit)
      (further_word (capability_of from) at)
      ∙ ap (λ v. ops.copy_unit mem (further (capability_of from) at) v unit) (further_word (capability_of to) at)))

  some_left : (i : ℕ) → i < units → units - i ≡ suc (units - (i + 1))
  some_left i lt = omega arith

  pub unit_done : (o : Operations Store) (i at code_at : ℕ) (left : Store) → i < units → o ≡ ops →
      code_at ≡ at % 2 ^ 64 →
      UnitCopied (unit_at o code_at) (position_of from) (position_of to) left (Ok tt) →
      whole ≡ left_from (units - i) at mem →
      whole ≡ left_from (units - (i + 1)) (at + unit) left
  unit_done o i at code_at left lt q e d h =
      h ∙ (ap (λ j. left_from j at mem) (some_left i lt)
      ∙ one_more (units - (i + 1)) at left (sym (same_place o at code_at q e) ∙ d))

  pub unit_over : (o : Operations Store) (i at code_at : ℕ) (left : Store) (s : Stop) → i < units → o ≡ ops →
      code_at ≡ at % 2 ^ 64 →
      UnitCopied (unit_at o code_at) (position_of from) (position_of to) left (Err s) →
      whole ≡ left_from (units - i) at mem →
      (m : Now Store) → LeavesIt whole m (Err s)
  unit_over o i at code_at left stop.NoMemory lt q e d h m = absurd d
  unit_over o i at code_at left (stop.Ended x) lt q e (f, r, y) h m =
      h ∙ (ap (λ j. left_from j at mem) (some_left i lt)
      ∙ (one_ends (units - (i + 1)) at f (sym (same_place o at code_at q e) ∙ r) ∙ ap Over (sym y)))

  pub units_done : (i at : ℕ) → units ≤ i → whole ≡ left_from (units - i) at mem →
      whole ≡ On tt (record n { mem = mem })
  units_done i at le h =
      let e : units - i ≡ 0 = omega arith in
      h ∙ ap (λ j. left_from j at mem) e

-- ---- a whole copy

module _ (ops : Operations Store) (pos : Pos) (bytes unit : ℕ) (from to : Place) (n : Now Store) where
  pub copy_goes : (units : ℕ) (m : Now Store) (r : Result (Unit {0}) Stop) → units ≡ bytes / unit →
      ops.overlap (capability_of from) (capability_of to) bytes ≡ Ok tt →
      LeavesIt (copy_units ops units unit 0 from to n) m r → LeavesIt (copy ops pos bytes unit from to n) m r
  copy_goes units m r e o d =
      subst (λ c. LeavesIt c m r)
      (ap (λ j. copy_units ops j unit 0 from to n) e
      ∙ sym (ap (λ x. next_of (answer pos x n) (λ _. copy_units ops (bytes / unit) unit 0 from to)) o)) d

  pub copy_ends : (f : Fault) → ops.overlap (capability_of from) (capability_of to) bytes ≡ Err f →
      copy ops pos bytes unit from to n ≡ Over (fault_end f pos)
  copy_ends f o = ap (λ x. next_of (answer pos x n) (λ _. copy_units ops (bytes / unit) unit 0 from to)) o
