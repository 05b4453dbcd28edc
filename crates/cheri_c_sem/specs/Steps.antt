-- Runs in parts: what a part of a program does with a state, and then what follows it.
use Rattle.std.specs.Prelude.{ℕ, zero, suc, ◌-◌, ◌^◌, min, Bool, true, false, List, length, Option, Some, None, Result}
use Rattle.std.specs.Prelude.{Ok, Err, slice_get, slice_set}
use Rattle.ck_base.specs.World.{World, Done, Outcome, fails_after}
use Rattle.ck_base.specs.Runs.{with_put, with_read}
use Rattle.ck_base.specs.declared.positions.Pos.{Pos}
use Rattle.obj_mem.specs.Values.{Value}
use Rattle.obj_mem.specs.Values as value
use Rattle.obj_mem.specs.declared.ending.Fault.{Fault}
use Rattle.obj_mem.specs.declared.ending.Fault.TheVariants as fault
use Rattle.obj_mem.specs.declared.ending.UnitFault.{UnitFault}
use Rattle.obj_mem.specs.declared.ending.UnitFault.TheVariants as half
use Rattle.obj_mem.specs.declared.ending.Ending.{Ending}
use Rattle.obj_mem.specs.declared.ending.Ending.TheVariants as ending

infixl 10 ◌>>=◌
infixl 10 ◌>>◌
-- What a run has between two of its parts: the values of the current call's variables, where one was given since the
-- block of the variable was entered; the number of the first of the call's objects; memory; the address of the call's
-- frame; the turns that are left; and what was done with the outside. The states of the calls in progress are kept by
-- what follows.
pub record State (M : Type 0) : Type 0 where
  pub vars : List (Option Value)
  pub first : ℕ
  pub mem : M
  pub frame : ℕ
  pub left : ℕ
  pub done : Done

-- what a run comes to: what it has done with the outside, and how it ends
pub record Fate : Type 0 where
  pub done : Done
  pub ending : Ending

abbrev pub outcome_of : World → Fate → Outcome Ending
outcome_of w f = record { output = f.done.output; taken = min f.done.reads (length w.bytes); ending = f.ending }

-- A part of a run that gives an A: from a state it gives one with a state to go on from, or the run ends there
abbrev pub Then : Type 0 → Type 0 → Type 0
Then M A = State M → (A → State M → Fate) → Fate

abbrev pub ◌>>=◌ : {M A B : Type 0} → Then M A → (A → Then M B) → Then M B
c >>= f = λ s k. c s (λ x t. f x t k)

abbrev pub ◌>>◌ : {M A B : Type 0} → Then M A → Then M B → Then M B
c >> d = λ s k. c s (λ _ t. d t k)

-- how a run ends at an operation that faults
abbrev pub fault_end : Fault → Pos → Ending
fault_end (fault.Cause cause) pos = ending.Trap cause pos
fault_end fault.Outside pos = ending.Outside pos
fault_end (fault.Unspecified reason) pos = ending.Unspecified reason pos

abbrev pub unit_end : UnitFault → Pos → Pos → Ending
unit_end (half.Load f) from to = fault_end f from
unit_end (half.Store f) from to = fault_end f to

-- the byte, or -1 (C11 7.21.7.1p3)
abbrev pub byte_or_end : Option ℕ → Value
byte_or_end (Some b) = value.Int b
byte_or_end None = value.Int (2 ^ 64 - 1)

module _ {M : Type 0} where
  abbrev pub give : {A : Type 0} → A → Then M A
  give x = λ s k. k x s

  abbrev pub over : Ending → State M → Fate
  over e s = record { done = s.done; ending = e }

  abbrev pub ends : {A : Type 0} → Ending → Then M A
  ends e = λ s _. over e s

  -- ---- answers

  abbrev pub answer : {A : Type 0} → Pos → Result A Fault → Then M A
  answer pos (Ok x) = give x
  answer pos (Err f) = ends (fault_end f pos)

  -- the answer of one unit of a struct copy, with the positions of the place that is read and of the place that is
  -- written
  abbrev pub unit_answer : {A : Type 0} → Pos → Pos → Result A UnitFault → Then M A
  unit_answer from to (Ok x) = give x
  unit_answer from to (Err f) = ends (unit_end f from to)

  -- ---- turns, choices and repetition

  abbrev pub turn_from : ℕ → Then M (Unit {0})
  turn_from zero = ends ending.Turns
  turn_from (suc n) = λ s k. k tt (record s { left = n })

  -- uses one turn
  abbrev pub turn : Then M (Unit {0})
  turn = λ s. turn_from s.left s

  abbrev pub choose : {A : Type 0} → Bool → Then M A → Then M A → Then M A
  choose true a b = a
  choose false a b = b

  -- ---- memory and variables

  -- an answer about the memory of the moment
  abbrev pub ask : {A : Type 0} → Pos → (M → Result A Fault) → Then M A
  ask pos f = λ s. answer pos (f s.mem) s

  abbrev pub set_memory : M → Then M (Unit {0})
  set_memory m = λ s k. k tt (record s { mem = m })

  abbrev pub change_memory : (M → M) → Then M (Unit {0})
  change_memory f = λ s k. k tt (record s { mem = f s.mem })

  abbrev pub set_variable : ℕ → Option Value → Then M (Unit {0})
  set_variable x v = λ s k. k tt (record s { vars = slice_set s.vars x v })

  -- ---- the outside

  module _ (w : World) where
    -- one byte is put
    abbrev pub put : ℕ → Then M (Unit {0})
    put b = λ s. choose (fails_after w.failing_put (length s.done.output)) (ends ending.WriteFault)
        (λ t k. k tt (record t { done = with_put t.done b })) s

    -- one byte is taken, or the end
    abbrev pub get : Then M (Option ℕ)
    get = λ s. choose (fails_after w.failing_read s.done.reads) (ends ending.ReadFault)
        (λ t k. k (slice_get w.bytes t.done.reads) (record t { done = with_read t.done })) s
