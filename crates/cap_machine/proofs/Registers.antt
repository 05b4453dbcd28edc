-- Registers after one of them was written.
use Rattle.std.proofs.Common.{◌≡◌, ℕ, inl, inr, Bool, true, false, cond, List, length, refl, sym, ap, ◌∙◌, subst, arith}
use Rattle.std.specs.Prelude.{nat_eq, slice_set, slice_index_or}
use Rattle.std.proofs.lemmas.Bool.{cases_eq, cases_lt}
use Rattle.std.proofs.lemmas.List.{get_or-set_same, get_or-set_other, length-set, set_past}
use Rattle.cap_ops.specs.declared.capability.Cap.{Cap}
use Rattle.cap_ops.specs.Capability.{null_at}
use Rattle.cap_machine.specs.declared.machine.Machine.{Machine}
use Rattle.cap_machine.specs.State.{register, with_register}
use Rattle.cap_machine.specs.ContainedText.{Text}
use Rattle.cap_machine.specs.Containment.{IsConfined, IsContainedRegisters}

-- what holds of an element holds after one was set to a value of which it holds
pub set_each : {X : Type 0} (P : X → Type 0) (xs : List X) (i : ℕ) (x d : X) (k : ℕ) → P x → P (slice_index_or xs k d) →
    P (slice_index_or (slice_set xs i x) k d)
set_each P xs i x d k new old = elim (cases_eq k i) as (λ _. P (slice_index_or (slice_set xs i x) k d)) [
  | inl e ↦ elim (cases_lt i (length xs)) as (λ _. P (slice_index_or (slice_set xs i x) k d)) [
    | inl within ↦ rw e (rw (get_or-set_same xs i x d within) new)
    | inr past ↦ rw (set_past xs i x past) old
  ]
  | inr other ↦ rw (get_or-set_other xs i k x d other) old
]

-- the registers are those of another state
pub same_registers : (t : Text) (m n : Machine) → m.regs ≡ n.regs → IsContainedRegisters t m → IsContainedRegisters t n
same_registers t m n e has = record {
  count = sym (ap length e) ∙ has.count;
  held = λ r. subst (λ regs. IsConfined t (cond (nat_eq r 0) (null_at 0) (slice_index_or regs r (null_at 0)))) e
      (has.held r);
}

-- a write leaves counter and memory
pub with_register-pc : (m : Machine) (r : ℕ) (c : Cap) → (with_register m r c).pc ≡ m.pc
with_register-pc m r c = by (nat_eq r 0) where
  by : (b : Bool) → (cond b m (record m { regs = slice_set m.regs r c })).pc ≡ m.pc
  by true = refl
  by false = refl

pub with_register-mem : (m : Machine) (r : ℕ) (c : Cap) → (with_register m r c).mem ≡ m.mem
with_register-mem m r c = by (nat_eq r 0) where
  by : (b : Bool) → (cond b m (record m { regs = slice_set m.regs r c })).mem ≡ m.mem
  by true = refl
  by false = refl

written_confined : (t : Text) (m : Machine) (r q : ℕ) (c : Cap) → IsConfined t c → IsContainedRegisters t m →
    (b : Bool) → nat_eq q 0 ≡ b →
    IsConfined t (cond b (null_at 0) (slice_index_or (slice_set m.regs r c) q (null_at 0)))
written_confined t m r q c new has true e = has.held 0
written_confined t m r q c new has false e =
    set_each (IsConfined t) m.regs r c (null_at 0) q new
    (subst (λ b. IsConfined t (cond b (null_at 0) (slice_index_or m.regs q (null_at 0)))) e (has.held q))

-- what is written is confined; what is written to register 0 is dropped
pub with_register_has : (t : Text) (m : Machine) (r : ℕ) (c : Cap) → (nat_eq r 0 ≡ false → IsConfined t c) →
    IsContainedRegisters t m → IsContainedRegisters t (with_register m r c)
with_register_has t m r c new has = by (nat_eq r 0) refl where
  by : (b : Bool) → nat_eq r 0 ≡ b → IsContainedRegisters t (cond b m (record m { regs = slice_set m.regs r c }))
  by true e = has
  by false e = record {
    count = length-set m.regs r c ∙ has.count;
    held = λ q. written_confined t m r q c (new e) has (nat_eq q 0) refl;
  }

-- register 17 after it was written
pub written_17 : (m : Machine) (c : Cap) → length m.regs ≡ 32 → register (with_register m 17 c) 17 ≡ c
written_17 m c count = get_or-set_same m.regs 17 c (null_at 0) (omega arith)
