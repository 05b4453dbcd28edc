-- An entry of the table comes to a register.
use Rattle.std.proofs.Common.{◌≡◌, ℕ, ◌+◌, ◌-◌, ◌^◌, ◌<◌, ◌≤◌, ℤ, pos, Bool, true, false, List, [], ◌∷◌, ◌++◌, length}
use Rattle.std.proofs.Common.{Option, Some, refl, ◌∙◌, subst, arith, if◌then◌else◌}
use Rattle.std.specs.Prelude.{nat_lt, slice_get}
use Rattle.cap_ops.specs.declared.capability.Cap.{Cap}
use Rattle.rv_instr.specs.Range.{InRange}
use Rattle.rv_instr.specs.declared.instr.Instr.{Instr}
use Rattle.rv_instr.specs.declared.instr.Instr.TheVariants.{Clc}
use Rattle.cap_machine.specs.declared.machine.Machine.{Machine}
use Rattle.cap_machine.specs.State.{register}
use Rattle.cap_machine.specs.Rows.{row, clc_row, plus, set}
use Rattle.obj_mem.specs.Objects.{base_in}
use Rattle.obj_mem.specs.Pointers.{keeps}
use Rattle.obj_mem.specs.Table.{addresses_of}
use Rattle.obj_mem.specs.Values.{Value, capability_of}
use Rattle.cheri_c_sem.specs.Modes.{Store}
use Rattle.cheri_c_sem.specs.Steps.{State}
use Rattle.purecap_abi.specs.Words.{low, near_code, load_code}
use Rattle.place_inject.specs.Fits.{Fits}
use Rattle.place_inject.specs.Frames.{Setting, Point}
use Rattle.place_inject.specs.Tables.{TableIsThere, EntriesAreRead, table_top, table_pointer}
use Rattle.place_inject.proofs.Reaching.{table_reaches_law}
use Rattle.place_inject.proofs.Tables.{table_reads_back_law}
use Rattle.select_words.specs.Standing.{HasAt}
use Rattle.select_runs.specs.Acts.{Ground, IsThere, Holds}
use Rattle.select_runs.specs.Operands.{ground_of, IsText}
use Rattle.select_runs.proofs.Acts.{after, one_set, still}
use Rattle.select_runs.proofs.Far.{Reach, far, far_low, near_low, near}
use Rattle.select_runs.proofs.Points.{laid}

abbrev entry_words : (offset r : ℕ) → Bool → List Instr
entry_words offset r b = if b then Clc r 3 (pos offset) ∷ [] else near_code r 3 offset ++ Clc r r (low offset) ∷ []

pub entry_few : (offset r : ℕ) → length (load_code r 3 offset r) ≤ 3
entry_few offset r = by (nat_lt offset 2048)
  where
    by : (b : Bool) → length (entry_words offset r b) ≤ 3
    by true = omega arith
    by false = omega arith

module _ (s : Setting) (code : List Instr) (x : IsText s code) (loaded : TableIsThere s) (p : Option Point)
    (t : State Store) (m : Machine) (fits : Fits s p t m) where
  abbrev g : Ground
  g = ground_of s code

  abbrev bits : Value → Cap
  bits = capability_of (addresses_of s.map) (base_in t.mem.memory.shapes)

  abbrev start : ℕ
  start = s.map.table.0

  -- the value is read at its entry
  abbrev pub Reads : (offset : ℕ) → Value → Type 0
  Reads offset v = (u : Machine) (r from : ℕ) (z : ℤ) (place : ℕ) → EntriesAreRead s t u r from z place
      → place ≡ start + offset → clc_row u r from z ≡ set u r (bits v)

  module _ (offset : ℕ) (v : Value) (small : offset < 2 ^ 31 - 2048) (inside : offset < s.map.table.1)
      (reads : Reads offset v) (r : ℕ) (above : 3 < r) (below : r < 32) where
    table_keeps : (y : ℕ) → start ≤ y → y < table_top s + 4096 → keeps start (table_top s) y ≡ true
    table_keeps y from less = table_reaches_law s x.legal y from less

    reach : Reach start (table_top s) start offset
    reach =
        let end = x.legal.in_range.2.1 in
        record {
          small = small;
          below = omega arith;
          here = table_keeps start (omega arith) (omega arith);
          near = table_keeps (start + far offset) (omega arith) (omega arith);
        }

    -- the word that reads it
    read_word : (u : Machine) (place from y : ℕ) (z : ℤ) → IsThere g u place → u.mem ≡ m.mem
        → slice_get code place ≡ Some (Clc r from z) → register u from ≡ table_pointer s y
        → keeps start (table_top s) y ≡ true → plus y z ≡ start + offset → Holds g u 1 (place + 1) r r (bits v)
    unfolding row
    read_word u place from y z h same has holds keep sum =
        one_set g (laid s code x) u place h (Clc r from z) r (bits v) has refl (omega arith) below
        (reads u r from z (plus y z)
        (table_reads_back_law s x.legal loaded p t m fits u same r from y z holds keep) sum)

    pub entry_holds : (n : Machine) (mid : ℕ) → IsThere g n mid → n.mem ≡ m.mem
        → register n 3 ≡ table_pointer s start → HasAt code mid (load_code r 3 offset r)
        → Holds g n (length (load_code r 3 offset r)) (mid + length (load_code r 3 offset r)) r r (bits v)
    unfolding InRange
    entry_holds n mid there same three has = by (nat_lt offset 2048) has
      where
        end : s.map.table.0 + s.map.table.1 ≤ 2 ^ 40
        end = x.legal.in_range.2.1

        by : (b : Bool) → HasAt code mid (entry_words offset r b)
            → Holds g n (length (entry_words offset r b)) (mid + length (entry_words offset r b)) r r (bits v)
        by true h =
            read_word n mid 3 start (pos offset) there same h.0 three reach.here
            (near_low start offset (omega (arith, end, inside)))
        by false h =
            let a = near g (laid s code x) start (table_top s) start offset 3 r reach
            (λ z. absurd (omega (arith, z, above))) (omega arith) below n mid there three h.0 h.1.0 in
            let there' = still g (laid s code x) n (mid + 1 + 1) mid r r 2 (table_pointer s (start + far offset)) there
            a in
            let word_range = x.in_range (mid + 1 + 1) (Clc r r (low offset)) h.1.1.0 in
            let k = read_word a.to (mid + 1 + 1) r (start + far offset) (low offset) there' (a.memory ∙ same) h.1.1.0
            a.holds reach.near (far_low start offset (omega (arith, end, inside)) word_range.2) in
            let size : mid + 1 + 1 + 1 ≡ mid + 3 = omega arith in
            subst (λ y. Holds g n 3 y r r (bits v)) size
            (after g (laid s code x) n mid (mid + 1 + 1) (mid + 1 + 1 + 1) r r r 2 1
            (table_pointer s (start + far offset)) (bits v) a k)
