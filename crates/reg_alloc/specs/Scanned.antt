-- What the scan keeps.
use Rattle.std.specs.Prelude.{ℕ, ◌≡◌, ◌≢◌, ◌+◌, ◌<◌, ◌≤◌, nat_lt, List, [], ◌∷◌, ◌++◌, length, slice_get, slice_index}
use Rattle.std.specs.Prelude.{Some, Contains, All, count_by}
use Rattle.std.specs.List.Sorted.{IsNonDecreasingBy}
use Rattle.reg_alloc.specs.declared.intervals.Interval.{Interval}
use Rattle.reg_alloc.specs.declared.places.Home.{Home}
use Rattle.reg_alloc.specs.declared.places.Home.TheVariants.{Register, Slot}
use Rattle.reg_alloc.specs.declared.scan.Entry.{Entry}
use Rattle.reg_alloc.specs.declared.scan.Scan.{Scan}
use Rattle.reg_alloc.specs.Placed.{holds, Fits, ApartAt, IsRelaxed, StaysClear}
use Rattle.reg_alloc.specs.Ranks.{rank_of, register_of}

-- ---- intervals in the order of their first instructions

-- intervals with their places, counted from k
abbrev pub entries_from : ℕ → List Interval → List Entry
entries_from k [] = []
entries_from k (v ∷ vs) = record { interval = v; index = k } ∷ entries_from (k + 1) vs

-- how many of some entries hold an instruction
abbrev pub held : ℕ → List Entry → ℕ
held n es = count_by (λ e. holds n e.interval) es

-- the intervals, each with its own place, in that order
pub record AreInOrder (live : List Interval) (es : List Entry) : Type 0 where
  pub one_each : length es ≡ length live
  pub own : All (λ e. slice_get live e.index ≡ Some e.interval) es
  pub whole : (i : ℕ) (v : Interval) → slice_get live i ≡ Some v → Contains es (record { interval = v; index = i })
  pub counts : (n : ℕ) → held n es ≡ count_by (holds n) live
  pub rising : IsNonDecreasingBy (λ e. e.interval.first) es

-- an entry comes behind those that are done
pub record IsNext (live : List Interval) (done : List Entry) (e : Entry) : Type 0 where
  pub own : slice_get live e.index ≡ Some e.interval
  pub later : All (λ d. d.interval.first ≤ e.interval.first) done
  pub counted : (n : ℕ) → held n (done ++ e ∷ []) ≤ count_by (holds n) live

-- ---- the scan

-- a home is right for interval i
abbrev pub Suits : List ℕ → ℕ → Interval → Home → Type 0
Suits calls i v h = Fits calls v h × StaysClear calls i v h

-- a rank is free for an interval, and its register right for it
pub record IsChoice (calls : List ℕ) (i : ℕ) (v : Interval) (free_from : List ℕ) (rank : ℕ) : Type 0 where
  pub within : rank < 23
  pub free : slice_index free_from rank ≤ v.first
  pub suits : Suits calls i v (Register (register_of rank))

-- each register from a rank on is taken at an instruction
abbrev pub AreTaken : List ℕ → (lowest n : ℕ) → Type 0
AreTaken free_from lowest n = (k : ℕ) → lowest ≤ k → k < 23 → n < slice_index free_from k

-- interval i is done
abbrev pub IsDone : List Entry → ℕ → Type 0
IsDone done i = (e : Entry) × Contains done e × (e.index ≡ i)

-- what holds of the homes, of where each register is free from, and of the number of slots, behind the entries that are
-- done
pub record IsScanned (live : List Interval) (calls : List ℕ) (done : List Entry) (homes : List Home)
    (free_from : List ℕ) (slots : ℕ) : Type 0 where
  pub one_each : length homes ≡ length live
  pub ranks : length free_from ≡ 23
  pub suits : (i : ℕ) (v : Interval) (h : Home) → IsDone done i → slice_get live i ≡ Some v →
      slice_get homes i ≡ Some h → Suits calls i v h
  pub apart : (i j : ℕ) → IsDone done i → IsDone done j → i ≢ j → ApartAt live homes i j
  -- a register is taken up to the last instruction of each interval in it
  pub taken : (i r : ℕ) (v : Interval) → IsDone done i → slice_get live i ≡ Some v → v.first ≤ v.last →
      slice_get homes i ≡ Some (Register r) → v.last < slice_index free_from (rank_of r)
  -- at an instruction that none of the entries begins behind, no more registers are taken than entries hold it
  pub pressure : (n : ℕ) → All (λ d. d.interval.first ≤ n) done → count_by (nat_lt n) free_from ≤ held n done
  pub slots_below : (i k : ℕ) → IsDone done i → slice_get homes i ≡ Some (Slot k) → k < slots
  pub slot_count : slots ≤ length done
  pub registers : IsRelaxed live calls → (i k : ℕ) → IsDone done i → slice_get homes i ≡ Some (Slot k) → ⊥

abbrev pub HasScanned : List Interval → List ℕ → List Entry → Scan → Type 0
HasScanned live calls done s = IsScanned live calls done s.homes.items s.free_from s.slots
