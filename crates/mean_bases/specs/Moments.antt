-- The moments of a run, and those in which each pointer has bounds below 2^63.
use Rattle.std.specs.Prelude.{◌≡◌, ℕ, zero, suc, ◌^◌, ◌<◌, List, [], ◌∷◌, Option, Some, None, slice_get}
use Rattle.ck_base.specs.Runs.{Act, Goes, Puts, Reads, Ends}
use Rattle.obj_mem.specs.declared.ending.Ending.{Ending}
use Rattle.obj_mem.specs.Objects.{Shape, Content, Memory, base_in, value_at}
use Rattle.obj_mem.specs.Values.{Value, Int, Live, Fun, Raw}
use Rattle.cheri_c_sem.specs.Meaning.{Place, In, At}
use Rattle.cheri_c_sem.specs.Modes.{Store}
use Rattle.mean_steps.specs.Machine.{Caller, Moment}
use Rattle.mean_steps.specs.Parts.{Now}

-- ---- moments that acts lead to

abbrev pub LeadsTo : {S : Type 0} → Act S Ending → S → Type 0
LeadsTo (Goes s) t = t ≡ s
LeadsTo (Puts b s) t = t ≡ s
LeadsTo (Reads to) t = (b : Option ℕ) × (t ≡ to b)
LeadsTo (Ends e) t = ⊥

module _ {S : Type 0} (act : S → Act S Ending) (from : S) where
  -- by so many acts
  abbrev pub Leads : ℕ → S → Type 0
  Leads zero t = t ≡ from
  Leads (suc n) t = (s : S) × Leads n s × LeadsTo (act s) t

  abbrev pub IsReached : S → Type 0
  IsReached t = (n : ℕ) × Leads n t

-- ---- what holds of each value that a moment has

module _ (Q : Value → Type 0) where
  abbrev pub Each : List Value → Type 0
  Each [] = Unit {0}
  Each (v ∷ vs) = Q v × Each vs

  abbrev pub OfGiven : Option Value → Type 0
  OfGiven None = Unit {0}
  OfGiven (Some v) = Q v

  abbrev pub OfVariables : List (Option Value) → Type 0
  OfVariables [] = Unit {0}
  OfVariables (o ∷ os) = OfGiven o × OfVariables os

  abbrev pub OfPlace : Place → Type 0
  OfPlace (In p x) = Unit {0}
  OfPlace (At p v) = Q v

  abbrev pub OfPlaces : List Place → Type 0
  OfPlaces [] = Unit {0}
  OfPlaces (p ∷ ps) = OfPlace p × OfPlaces ps

  -- with what holds of memory, and of the addresses of frames
  module _ {M : Type 0} (R : M → Type 0) (F : ℕ → Type 0) where
    abbrev pub OfCallers : List Caller → Type 0
    OfCallers [] = Unit {0}
    OfCallers (c ∷ cs) = OfVariables c.vars × F c.frame × OfCallers cs

    abbrev pub OfNow : Now M → Type 0
    OfNow n = OfVariables n.vars × R n.mem × F n.frame

    abbrev pub OfMoment : Moment M → Type 0
    OfMoment m = Each m.values × OfPlaces m.places × OfCallers m.callers × OfNow m.now

-- ---- bounds below 2^63

abbrev pub IsLow : Value → Type 0
IsLow (Live object low high offset permissions) = (low < 2 ^ 63) × (high < 2 ^ 63)
IsLow (Int n) = Unit {0}
IsLow (Fun f) = Unit {0}
IsLow (Raw address upper) = Unit {0}

-- objects with bases and owned lengths below it, which hold such values
pub record IsLowMemory (m : Memory) : Type 0 where
  pub bases : (k : ℕ) → base_in m.shapes k < 2 ^ 63
  pub owned : (k : ℕ) (s : Shape) → slice_get m.shapes k ≡ Some s → s.owned < 2 ^ 63
  pub values : (k g : ℕ) (c : Content) (v : Value) → slice_get m.contents k ≡ Some c → value_at c g ≡ Some v → IsLow v

abbrev pub IsLowStore : Store → Type 0
IsLowStore s = IsLowMemory s.memory

abbrev pub IsLowFrame : ℕ → Type 0
IsLowFrame address = address < 2 ^ 63

abbrev pub IsLowMoment : Moment Store → Type 0
IsLowMoment = OfMoment IsLow IsLowStore IsLowFrame
