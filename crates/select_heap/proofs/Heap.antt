-- The words of `malloc`: the heap's entry is read, the object is placed as the meaning places it, and the entry is
-- stored back behind it; or c10 is null.
use Rattle.std.proofs.Common.{◌≡◌, ℕ, zero, suc, ◌+◌, ◌-◌, ◌*◌, ◌/◌, ◌%◌, ◌^◌, ◌<◌, ◌≤◌, ℤ, pos, negsuc, Bool, true}
use Rattle.std.proofs.Common.{false, nat_lt, List, [], ◌∷◌, ◌++◌, length, Option, Some, None, refl, sym, ap, ◌∙◌, subst}
use Rattle.std.proofs.Common.{arith, inl, inr, if◌then◌else◌}
use Rattle.std.specs.Prelude.{slice_get, ◌==◌}
use Rattle.std.proofs.Math.Nat.{pow-le-pow_right}
use Rattle.std.proofs.lemmas.Bool.{and_parts, eq-eqb, le-ltb, ltb-true, ltb-false, lt-ltb}
use Rattle.std.proofs.lemmas.List.{length-append}
use Rattle.std.proofs.lemmas.Nat.{pow_pos, div-add-mod'}
use Rattle.std.proofs.lemmas.Option.{slice_get_within}
use Rattle.ck_base.specs.Runs.{Goes}
use Rattle.ck_base.specs.World.{World}
use Rattle.ck_int.specs.Kinds.{kept_of}
use Rattle.cap_concentrate.specs.Rounding.{alignment, owned, rounded_up}
use Rattle.cap_concentrate.proofs.Least.{rounded_up_ge}
use Rattle.cap_ops.specs.declared.capability.Cap.{Cap}
use Rattle.cap_ops.specs.Capability.{added, moved, narrowed_exactly, null_at}
use Rattle.cap_ops.specs.Permissions.{data_permissions}
use Rattle.c_tree.specs.declared.typed.Typed.{Typed}
use Rattle.rv_instr.specs.Range.{InRange}
use Rattle.rv_instr.specs.declared.instr.Instr.{Instr}
use Rattle.rv_instr.specs.declared.instr.Instr.TheVariants.{CapGet, CapReg, Branch, Imm, Op, Cjal, Clc, Store}
use Rattle.rv_instr.specs.declared.ops.BranchOp.TheVariants.{Bltu}
use Rattle.rv_instr.specs.declared.ops.CapGetOp.TheVariants.{Cgetlen, Cgetbase, Crrl, Cram}
use Rattle.rv_instr.specs.declared.ops.CapRegOp.TheVariants.{Csetaddr, Csetboundsexact}
use Rattle.rv_instr.specs.declared.ops.ImmOp.TheVariants.{Addi, Andi, Xori}
use Rattle.rv_instr.specs.declared.ops.RegOp.TheVariants.{Add, And, Sub}
use Rattle.rv_instr.specs.declared.ops.StoreOp.TheVariants.{Csc}
use Rattle.cap_machine.specs.declared.machine.Machine.{Machine}
use Rattle.cap_machine.specs.declared.end.Step.TheVariants.{Next}
use Rattle.cap_machine.specs.Integers.{extended}
use Rattle.cap_machine.specs.Rows.{row, cjal_row, plus, set}
use Rattle.cap_machine.specs.State.{register, integer, next}
use Rattle.cap_machine.specs.Step.{act, act_of, is_call}
use Rattle.cheri_c_sem.specs.Kinds.{number_of}
use Rattle.cheri_c_sem.specs.Modes as modes
use Rattle.cheri_c_sem.specs.Modes.{operations, placed_plan}
use Rattle.cheri_c_sem.specs.Steps.{State, Fate}
use Rattle.obj_mem.specs.Heap.{Allocation, allocation_alignment, refused, placed_allocate}
use Rattle.obj_mem.specs.Objects.{Active, Shape, base_in, owned_of_shape}
use Rattle.obj_mem.specs.Pointers.{keeps}
use Rattle.obj_mem.specs.Table.{addresses_of, heap_entry}
use Rattle.obj_mem.specs.Values.{Value, Int, Live, Raw, capability_of}
use Rattle.placement.proofs.Added.{last_is}
use Rattle.purecap_abi.specs.Words.{low, load_code, store_code, near_code}
use Rattle.tac_ir.specs.Effects.{Next as Way, On as Onward, effect, kind_at, temp_in}
use Rattle.tac_ir.specs.Meaning.{Running, with_result}
use Rattle.tac_ir.specs.Temps.{IsIn as IsAmong, Awaits, falls, reads, writes, in_option, now}
use Rattle.tac_ir.specs.Temps as temps
use Rattle.tac_ir.specs.WellFormed.{has, word, pointer, result_fits, all_have}
use Rattle.tac_ir.specs.declared.code.TacInstr.{TacInstr}
use Rattle.place_inject.specs.Values.{IsKnown}
use Rattle.place_inject.specs.Steps.{is_integer}
use Rattle.place_inject.specs.Parts.{heap_pointer}
use Rattle.place_inject.specs.Frames.{Setting, Point, IsLive, functions_of}
use Rattle.place_inject.specs.Fits.{Fits}
use Rattle.place_inject.specs.Spills.{StackIsThere}
use Rattle.place_inject.specs.Tables.{TableIsThere, table_top, table_pointer}
use Rattle.place_inject.proofs.Reaching.{table_reaches_law}
use Rattle.place_inject.proofs.Registers.{registers_keep}
use Rattle.place_inject.proofs.Results.{moves_on_law}
use Rattle.place_inject.proofs.StoresKeep.{scratch_keeps_law}
use Rattle.place_inject.proofs.Wholes.{whole_pointers_fit_law}
use Rattle.select_words.specs.Standing.{HasAt}
use Rattle.select_words.specs.Services.{KeepSome, taking}
use Rattle.select_words.specs.Heap.{gives_null, takes_by, malloc_code, Mallocs, allocating}
use Rattle.select_runs.specs.Acts.{Ground, Holds, IsThere, Leads, counter_at, place}
use Rattle.select_runs.specs.Kinds.{AreOfKinds}
use Rattle.select_runs.specs.Operands.{ground_of, IsText, IsAtPoint}
use Rattle.select_runs.specs.Results.{Computed, Arrives, IsSelectable, before, behind, kinds_in, code_in}
use Rattle.select_runs.proofs.Acts.{act_on_row, after, fetched_here, has_back, has_front, join, next_is, one_set, still}
use Rattle.select_runs.proofs.Bringing.{brought}
use Rattle.select_runs.proofs.Far.{Reach, far, far_low, near_low, near}
use Rattle.select_runs.proofs.Jumps.{hops, landed}
use Rattle.select_runs.proofs.Kinded.{has_kind, kind_passes, kinded_set, raw_null, same_turned}
use Rattle.select_runs.proofs.Numbers.{null_address, number_at}
use Rattle.select_runs.proofs.Pointing.{pointer_kind, same_capability}
use Rattle.select_runs.proofs.Points.{laid, there}
use Rattle.select_runs.proofs.Results.{reads_as_before, reads_no_more, results_go_home_law}
use Rattle.select_runs.proofs.Services.{waits_by}
use Rattle.select_runs.proofs.Simple.{bring_few, keep_few, may_take}
use Rattle.select_runs.proofs.Working.{integer_bits, integer_of}
use Rattle.select_heap.specs.Allocating.{heap_place, placed_at, free_behind, allocation_of, with_allocation}
use Rattle.select_heap.specs.Heap.{IsBeside, StandsBeside, AllocationsRun}
use Rattle.select_heap.proofs.Allocating.{heap_reads_back_law, heap_moves_on_law}
use Rattle.select_heap.proofs.Masks.{Alignment, add_is, sub_is, and_is, xor_is, below_is, all_ones, all_but_four}
use Rattle.select_heap.proofs.Masks.{masked, unmasked, aligned_by, owned_small}
use Rattle.select_heap.proofs.Rows.{heap_end, heap_encodable, heap_keeps, heap_base, heap_address, heap_long}
use Rattle.select_heap.proofs.Rows.{heap_moved, op_does, imm_does, length_does, base_does, owned_does, mask_does}
use Rattle.select_heap.proofs.Rows.{moved_does, narrowed_does, branch_does}
use Rattle.select_runs.specs.Selecting.{selecting}

-- ---- the words

nothing : extended (pos 0) ≡ 0
unfolding kept_of
nothing = refl

abbrev up : ℕ → ℕ → ℕ
up zero b = b
up (suc k) b = up k b + 1

ne : (q r : ℕ) → (q == r) ≡ false → q ≡ r → ⊥
ne q r e h = absurd (let y = eq-eqb q r h in let z : true ≡ false = sym y ∙ e in cc)

not_argument : (q : ℕ) → IsBeside q → q ≡ 10 → ⊥
not_argument q b e = elim b.0 as (λ _. ⊥) [
  | inl l ↦ absurd (omega (arith, l, e))
  | inr l ↦ absurd
      (omega (arith, l, e))
]

not_spare : (q : ℕ) → IsBeside q → q ≡ 4 → ⊥
not_spare q b e = b.1 e

not_scratch : (r : ℕ) → 28 ≤ r → (q : ℕ) → IsBeside q → q ≡ r → ⊥
not_scratch r above q b e = let l = b.2 in absurd (omega (arith, l, e, above))

module _ (s : Setting) (code : List Instr) (x : IsText s code) (stack : StackIsThere s) (loaded : TableIsThere s)
    (into : Option ℕ) (a : ℕ) (running : Running) (rest : List TacInstr) (beside : StandsBeside s running into rest)
    (at : ℕ) (t : State modes.Store) (m : Machine)
    (point : IsAtPoint s code (before running (allocating into a) rest) at t m) where
  abbrev g : Ground
  g = ground_of s code

  abbrev start : ℕ
  start = s.map.table.0

  abbrev offset : ℕ
  offset = 16 * heap_entry s.needs

  abbrev heap_at : ℕ → Cap
  heap_at y = heap_pointer (addresses_of s.map) y

  -- what is to be read behind the call, but for its result, is to be read from here on
  abbrev waiting : Point
  waiting = before running (taking into) rest

  waits : (k : ℕ) → IsLive s waiting k → (IsAmong k (in_option into) → ⊥) × IsLive s (behind running rest) k
  waits k live = waits_by (code_in s running) (taking into ∷ rest) k live into rest refl

  waiting_fits : Fits s (Some waiting) t m
  waiting_fits =
      moves_on_law s (before running (allocating into a) rest) t m point.fits (taking into ∷ rest)
      (λ k live. let w = waits k live in temps.onward refl w.0 w.1)

  -- so many acts on, at a word: the registers beside and memory are as they were
  record On (u : Machine) (count mid : ℕ) : Type 0 where
    leads : Leads count m u
    here : IsThere g u mid
    alike : (r : ℕ) → IsBeside r → register u r ≡ register m r
    memory : u.mem ≡ m.mem

  fits_on : (u : Machine) (count mid : ℕ) → On u count mid → Fits s (Some waiting) t u
  fits_on u count mid o =
      registers_keep s IsBeside (inl (omega arith), ne 2 4 refl, omega arith)
      (inl (omega arith), ne 3 4 refl, omega arith)
      waiting t m waiting_fits (λ k r live e. beside.own k r (waits k live) e) beside.callers u o.here.registers
      o.memory
      o.alike

  three : (u : Machine) (count mid : ℕ) → On u count mid → register u 3 ≡ table_pointer s start
  three u count mid o =
      o.alike 3 (inl (omega arith), ne 3 4 refl, omega arith) ∙ point.fits.stack.table ∙ loaded.table

  -- a stretch that sets a register
  record Sets (u : Machine) (count mid size r : ℕ) (c : Cap) : Type 0 where
    to : Machine
    on : On to (count + size) (mid + size)
    holds : register to r ≡ c
    others : (q : ℕ) → (q ≡ r → ⊥) → register to q ≡ register u q

  sets_by : (u : Machine) (count mid size r : ℕ) (c : Cap) → On u count mid → ((q : ℕ) → IsBeside q → q ≡ r → ⊥)
      → Holds g u size (mid + size) r r c → Sets u count mid size r c
  sets_by u count mid size r c o apart h = record {
    to = h.to;
    on = record {
      leads = join count size m u h.to o.leads h.leads;
      here = still g (laid s code x) u (mid + size) mid r r size c o.here h;
      alike = λ q b. h.others q (apart q b) ∙ o.alike q b;
      memory = h.memory ∙ o.memory;
    };
    holds = h.holds;
    others = h.others;
  }

  one : (u : Machine) (count mid : ℕ) (i : Instr) (r : ℕ) (c : Cap) → On u count mid → slice_get code mid ≡ Some i
      → is_call i ≡ false → (0 < r) × (r < 32) → ((q : ℕ) → IsBeside q → q ≡ r → ⊥) → row u i ≡ set u r c
      → Sets u count mid 1 r c
  one u count mid i r c o has plain range apart does =
      sets_by u count mid 1 r c o apart
      (one_set g (laid s code x) u mid o.here i r c has plain range.0 range.1 does)

  -- a word that changes the counter alone
  hopped : (u : Machine) (count mid to by : ℕ) (i : Instr) → On u count mid → slice_get code mid ≡ Some i
      → is_call i ≡ false → row u i ≡ (Next, record u { pc = added u.pc by }) → to ≤ length code
      → (place g mid + by) % 2 ^ 64 ≡ place g to → On (landed s code x u to) (count + 1) to
  hopped u count mid to by i o has plain does inside sum =
      let v = landed s code x u to in
      record {
        leads = join count 1 m u v o.leads (v, hops s code x u mid to by i o.here has plain does inside sum, refl);
        here = record { counter = refl; registers = o.here.registers; text = o.here.text };
        alike = o.alike;
        memory = o.memory;
      }

  -- ---- the heap's entry

  module _ (small : offset < 2 ^ 31 - 2048) where
    table_keeps : (y : ℕ) → start ≤ y → y < table_top s + 4096 → keeps start (table_top s) y ≡ true
    table_keeps y from below = table_reaches_law s x.legal y from below

    reach : Reach start (table_top s) start offset
    reach =
        let end = x.legal.in_range.2.1 in
        let room = point.fits.table.room in
        record {
          small = small;
          below = omega arith;
          here = table_keeps start (omega arith) (omega arith);
          near = table_keeps (start + far offset) (omega arith) (omega arith);
        }

    sum_small : start + offset < 2 ^ 64
    sum_small = let end = x.legal.in_range.2.1 in let room = point.fits.table.room in omega arith

    read_word : (u : Machine) (count mid : ℕ) → On u count mid → (w : Machine) (at' from y : ℕ) (z : ℤ)
        → IsThere g w at' → w.mem ≡ u.mem → slice_get code at' ≡ Some (Clc 28 from z)
        → register w from ≡ table_pointer s y → keeps start (table_top s) y ≡ true → plus y z ≡ heap_place s
        → Holds g w 1 (at' + 1) 28 28 (heap_at t.mem.heap)
    unfolding row
    read_word u count mid o w at' from y z h same has holds keep sum =
        one_set g (laid s code x) w at' h (Clc 28 from z) 28 (heap_at t.mem.heap) has refl (omega arith) (omega arith)
        (heap_reads_back_law s x.legal (Some waiting) t u (fits_on u count mid o) w same 28 from y z holds keep sum)

    loads : (u : Machine) (count mid : ℕ) → On u count mid → HasAt code mid (load_code 28 3 offset 28)
        → Sets u count mid (length (load_code 28 3 offset 28)) 28 (heap_at t.mem.heap)
    unfolding InRange
    loads u count mid o has = by (nat_lt offset 2048) has
      where
        by : (b : Bool)
            → HasAt code mid (if b then Clc 28 3 (pos offset) ∷ []
            else near_code 28 3 offset ++ Clc 28 28 (low offset) ∷ [])
            → Sets u count mid
            (length (if b then Clc 28 3 (pos offset) ∷ [] else near_code 28 3 offset ++ Clc 28 28 (low offset) ∷ [])) 28
            (heap_at t.mem.heap)
        by true q =
            sets_by u count mid 1 28 (heap_at t.mem.heap) o (not_scratch 28 (omega arith))
            (read_word u count mid o u mid 3 start (pos offset) o.here refl q.0 (three u count mid o) reach.here
            (near_low start offset sum_small))
        by false q =
            let c = table_pointer s (start + far offset) in
            let n = near g (laid s code x) start (table_top s) start offset 3 28 reach (ne 3 28 refl) (omega arith)
            (omega arith) u mid o.here (three u count mid o) q.0 q.1.0 in
            let range = x.in_range (mid + 1 + 1) (Clc 28 28 (low offset)) q.1.1.0 in
            let k = read_word u count mid o n.to (mid + 1 + 1) 28 (start + far offset) (low offset)
            (still g (laid s code x) u (mid + 1 + 1) mid 28 28 2 c o.here n) n.memory q.1.1.0 n.holds reach.near
            (far_low start offset sum_small range.2) in
            let size : mid + 1 + 1 + 1 ≡ mid + 3 = omega arith in
            sets_by u count mid 3 28 (heap_at t.mem.heap) o (not_scratch 28 (omega arith))
            (subst (λ e. Holds g u 3 e 28 28 (heap_at t.mem.heap)) size
            (after g (laid s code x) u mid (mid + 1 + 1) (mid + 1 + 1 + 1) 28 28 28 2 1 c (heap_at t.mem.heap) n k))

    -- it is stored behind the object
    module _ (n : ℕ) (room : free_behind t n ≤ heap_end s) where
      abbrev new : State modes.Store
      new = with_allocation t (allocation_of s t n)

      record Stored (u : Machine) (count mid size : ℕ) : Type 0 where
        to : Machine
        leads : Leads (count + size) m to
        point_on : IsAtPoint s code waiting (mid + size) new to
        same : register to 10 ≡ register u 10
        known : IsKnown (allocation_of s t n).memory.shapes (functions_of s) (allocation_of s t n).pointer

      store_word : (u : Machine) (count mid : ℕ) → On u count mid → (base y : ℕ) (z : ℤ)
          → slice_get code mid ≡ Some (Store Csc 28 base z) → register u 28 ≡ heap_at (free_behind t n)
          → register u base ≡ table_pointer s y → keeps start (table_top s) y ≡ true → plus y z ≡ heap_place s
          → Stored u count mid 1
      unfolding row
      store_word u count mid o base y z has is holds keep sum =
          let i = Store Csc 28 base z in
          let q = heap_moves_on_law s x.legal (Some waiting) t u (fits_on u count mid o) n room 28 base y z is holds
          keep sum in
          let v : Machine = record u { mem = q.memory } in
          let goes : act u ≡ Goes (next v) =
          fetched_here g (laid s code x) u mid i o.here.counter o.here.text has ∙ act_on_row u i refl
          ∙ ap act_of q.goes in
          record {
            to = next v;
            leads = join count 1 m u (next v) o.leads (next v, goes, refl);
            point_on = record {
              fits = q.fits;
              counter = ap (λ (k : Machine). k.pc)
                  (next_is g (laid s code x) v mid o.here.counter (slice_get_within code mid i has));
            };
            same = refl;
            known = q.known;
          }

      stores : (u : Machine) (count mid : ℕ) → On u count mid → HasAt code mid (store_code 28 3 offset 31)
          → register u 28 ≡ heap_at (free_behind t n) → Stored u count mid (length (store_code 28 3 offset 31))
      unfolding InRange
      stores u count mid o has is = by (nat_lt offset 2048) has
        where
          by : (b : Bool)
              → HasAt code mid (if b then Store Csc 28 3 (pos offset) ∷ []
              else near_code 31 3 offset ++ Store Csc 28 31 (low offset) ∷ [])
              → Stored u count mid (length (if b then Store Csc 28 3 (pos offset) ∷ []
              else near_code 31 3 offset ++ Store Csc 28 31 (low offset) ∷ []))
          by true q =
              store_word u count mid o 3 start (pos offset) q.0 is (three u count mid o) reach.here
              (near_low start offset sum_small)
          by false q =
              let c = table_pointer s (start + far offset) in
              let two : mid + 1 + 1 ≡ mid + 2 = omega arith in
              let k = near g (laid s code x) start (table_top s) start offset 3 31 reach (ne 3 31 refl) (omega arith)
              (omega arith) u mid o.here (three u count mid o) q.0 q.1.0 in
              let w = sets_by u count mid 2 31 c o (not_scratch 31 (omega arith))
              (subst (λ e. Holds g u 2 e 31 31 c) two k) in
              let range = x.in_range (mid + 1 + 1) (Store Csc 28 31 (low offset)) q.1.1.0 in
              let r = store_word w.to (count + 2) (mid + 2) w.on 31 (start + far offset) (low offset)
              (subst (λ e. slice_get code e ≡ Some (Store Csc 28 31 (low offset))) two q.1.1.0)
              (w.others 28 (ne 28 31 refl) ∙ is) w.holds reach.near (far_low start offset sum_small range.2) in
              let many : count + 2 + 1 ≡ count + 3 = omega arith in
              let size : mid + 2 + 1 ≡ mid + 3 = omega arith in
              record {
                to = r.to;
                leads = subst (λ e. Leads e m r.to) many r.leads;
                point_on = subst (λ e. IsAtPoint s code waiting e new r.to) size r.point_on;
                same = r.same ∙ w.others 10 (ne 10 31 refl);
                known = r.known;
              }

  -- ---- between the two

  abbrev H : ℕ
  H = s.map.heap.1

  -- the heap lies in 40 bits, and its free part in it
  record Heap_lies : Type 0 where
    start_from : 65536 ≤ s.map.heap.0
    end_to : heap_end s ≤ 2 ^ 40
    from : s.map.heap.0 ≤ t.mem.heap
    to : t.mem.heap ≤ heap_end s
    most : H ≤ 67108864

  heap_lies : Heap_lies
  heap_lies = record {
    start_from = x.legal.in_range.2.2.0;
    end_to = x.legal.in_range.2.2.1;
    from = point.fits.heap.from;
    to = point.fits.heap.to;
    most = x.legal.heap_most;
  }

  module _ (n long top : ℕ) (has : HasAt code top (takes_by long)) where
    -- a length in c10, and the heap's capability in c28
    record Begun (u : Machine) (count : ℕ) : Type 0 where
      on : On u count top
      length_in : register u 10 ≡ null_at n
      heap_in : register u 28 ≡ heap_at t.mem.heap

    -- x29 is the heap's length
    record Asked (u : Machine) (count : ℕ) : Type 0 where
      to : Machine
      on : On to (up 1 count) (up 1 top)
      length_in : register to 10 ≡ null_at n
      heap_in : register to 28 ≡ heap_at t.mem.heap
      measured : register to 29 ≡ null_at H

    asks : (u : Machine) (count : ℕ) → Begun u count → Asked u count
    asks u count b =
        let l = heap_lies in
        let w = one u count top (CapGet Cgetlen 29 28) 29 (null_at H) b.on has.0 refl (omega arith, omega arith)
        (not_scratch 29 (omega arith))
        (length_does u 29 28 (heap_at t.mem.heap) H b.heap_in (heap_long s x.legal t.mem.heap l.from l.to)) in
        record {
          to = w.to;
          on = w.on;
          length_in = w.others 10 (ne 10 29 refl) ∙ b.length_in;
          heap_in = w.others 28 (ne 28 29 refl) ∙ b.heap_in;
          measured = w.holds;
        }

    -- where there is no room, the counter goes to the words that give null
    refuses : (u : Machine) (count back r q y z : ℕ) (mid to : ℕ) → On u count mid
        → slice_get code mid ≡ Some (Branch Bltu r q (pos back)) → integer u r ≡ y → integer u q ≡ z
        → nat_lt y z ≡ true → y < 2 ^ 64 → z < 2 ^ 64 → to ≤ length code → place g mid + back ≡ place g to
        → On (landed s code x u to) (count + 1) to
    refuses u count back r q y z mid to o has' is is' less small small' inside sum =
        let room = x.room in
        let below = x.legal.in_range.1 in
        hopped u count mid to (extended (pos back)) (Branch Bltu r q (pos back)) o has' refl
        (branch_does u r q (pos back) y z true is is' (below_is y z small small' ∙ less)) inside
        (near_low (place g mid) back (omega arith) ∙ sum)

    passes : (u : Machine) (count back r q y z : ℕ) (mid : ℕ) → On u count mid
        → slice_get code mid ≡ Some (Branch Bltu r q (pos back)) → integer u r ≡ y → integer u q ≡ z
        → nat_lt y z ≡ false → y < 2 ^ 64 → z < 2 ^ 64 → On (landed s code x u (mid + 1)) (count + 1) (mid + 1)
    passes u count back r q y z mid o has' is is' less small small' =
        let room = x.room in
        let below = x.legal.in_range.1 in
        let inside = slice_get_within code mid (Branch Bltu r q (pos back)) has' in
        hopped u count mid (mid + 1) 4 (Branch Bltu r q (pos back)) o has' refl
        (branch_does u r q (pos back) y z false is is' (below_is y z small small' ∙ less)) (omega arith)
        (omega (arith, inside, room, below))

    -- ---- a length that the heap may have

    module _ (le : n ≤ H) where
      record Sizes : Type 0 where
        alignment_is : Alignment n
        few : 2 ^ alignment_is.power ≤ 2 ^ 55
        some : 0 < 2 ^ alignment_is.power
        owned_few : owned n < 2 ^ 56
        placed_is : placed_at t n
            ≡ (t.mem.heap + (2 ^ alignment_is.power - 1)) / 2 ^ alignment_is.power * 2 ^ alignment_is.power
        placed_low : t.mem.heap ≤ placed_at t n
        placed_high : placed_at t n ≤ t.mem.heap + (2 ^ alignment_is.power - 1)

      sizes : Sizes
      sizes =
          let l = heap_lies in
          let most = l.most in
          let a' = aligned_by n in
          let k = a'.power in
          let is : placed_at t n ≡ (t.mem.heap + (2 ^ k - 1)) / 2 ^ k * 2 ^ k = ap (rounded_up t.mem.heap) a'.is in
          let down = div-add-mod' (t.mem.heap + (2 ^ k - 1)) (2 ^ k) in
          record {
            alignment_is = a';
            few = pow-le-pow_right {n = 2} (omega arith) a'.most;
            some = pow_pos k;
            owned_few = owned_small n (omega arith);
            placed_is = is;
            placed_low = rounded_up_ge t.mem.heap (allocation_alignment n) (omega arith);
            placed_high = omega (arith, is, down);
          }

      abbrev K : ℕ
      K = 2 ^ sizes.alignment_is.power

      -- x30 is the owned length, and x29 the mask
      record Rounded (u : Machine) (count : ℕ) : Type 0 where
        to : Machine
        on : On to (up 3 count) (up 5 top)
        heap_in : register to 28 ≡ heap_at t.mem.heap
        mask_in : register to 29 ≡ null_at (2 ^ 64 - K)
        owned_in : register to 30 ≡ null_at (owned n)

      rounding : (u : Machine) (count : ℕ) → On u count (up 2 top) → register u 10 ≡ null_at n
          → register u 28 ≡ heap_at t.mem.heap → Rounded u count
      rounding u count o is heap_is =
          let z = sizes in
          let few' = z.few in
          let small_owned = z.owned_few in
          let own = z.alignment_is.own in
          let own_some = z.alignment_is.some in
          let v = one u count (up 2 top) (CapGet Crrl 30 10) 30 (null_at (owned n)) o has.1.1.0 refl
          (omega arith, omega arith) (not_scratch 30 (omega arith))
          (owned_does u 30 10 n (owned n) (number_at u 10 n is) (omega arith)) in
          let w = one v.to (up 1 count) (up 3 top) (CapGet Cram 29 10) 29 (null_at (2 ^ 64 - alignment n)) v.on
          has.1.1.1.0 refl (omega arith, omega arith) (not_scratch 29 (omega arith))
          (mask_does v.to 29 10 n (number_at v.to 10 n (v.others 10 (ne 10 30 refl) ∙ is))) in
          let y = one w.to (up 2 count) (up 4 top) (Imm Andi 29 29 (negsuc 15)) 29 (null_at (2 ^ 64 - K)) w.on
          has.1.1.1.1.0 refl (omega arith, omega arith) (not_scratch 29 (omega arith))
          (imm_does w.to Andi 29 29 (negsuc 15) (2 ^ 64 - alignment n) 18446744073709551600 (2 ^ 64 - K)
          (number_at w.to 29 (2 ^ 64 - alignment n) w.holds) all_but_four
          (and_is (2 ^ 64 - alignment n) 18446744073709551600 (omega arith) (omega arith) ∙ z.alignment_is.mask)) in
          record {
            to = y.to;
            on = y.on;
            heap_in = y.others 28 (ne 28 29 refl) ∙ w.others 28 (ne 28 29 refl) ∙ v.others 28 (ne 28 30 refl) ∙ heap_is;
            mask_in = y.holds;
            owned_in = y.others 30 (ne 30 29 refl) ∙ w.others 30 (ne 30 29 refl) ∙ v.holds;
          }

      -- x4 is the object's place, and x29 its end
      record Located (u : Machine) (count : ℕ) : Type 0 where
        to : Machine
        on : On to (up 7 count) (up 9 top)
        heap_in : register to 28 ≡ heap_at t.mem.heap
        place_in : register to 4 ≡ null_at (placed_at t n)
        end_in : register to 29 ≡ null_at (free_behind t n)

      locating : (u : Machine) (count : ℕ) → On u count (up 2 top) → register u 10 ≡ null_at n
          → register u 28 ≡ heap_at t.mem.heap → Located u count
      locating u count o is heap_is =
          let l = heap_lies in
          let z = sizes in
          let few' = z.few in
          let some' = z.some in
          let small_owned = z.owned_few in
          let most = z.alignment_is.most in
          let next : ℕ = t.mem.heap in
          let low' = l.to in
          let end = l.end_to in
          let high' = z.placed_high in
          let r = rounding u count o is heap_is in
          let v = one r.to (up 3 count) (up 5 top) (Imm Xori 4 29 (negsuc 0)) 4 (null_at (K - 1)) r.on
          has.1.1.1.1.1.0 refl (omega arith, omega arith) not_spare
          (imm_does r.to Xori 4 29 (negsuc 0) (2 ^ 64 - K) 18446744073709551615 (K - 1)
          (number_at r.to 29 (2 ^ 64 - K) r.mask_in) all_ones
          (xor_is (2 ^ 64 - K) 18446744073709551615 (omega arith) (omega arith)
          ∙ unmasked z.alignment_is.power (omega arith))) in
          let in_heap : register v.to 28 ≡ heap_at next = v.others 28 (ne 28 4 refl) ∙ r.heap_in in
          let w = one v.to (up 4 count) (up 6 top) (Op Add 4 28 4) 4 (null_at (next + (K - 1))) v.on
          has.1.1.1.1.1.1.0 refl (omega arith, omega arith) not_spare
          (op_does v.to Add 4 28 4 next (K - 1) (next + (K - 1))
          (ap (λ (c : Cap). c.fields.address) in_heap ∙ heap_address s x.legal next l.from l.to)
          (number_at v.to 4 (K - 1) v.holds) (add_is next (K - 1) (omega arith))) in
          let masks : register w.to 29 ≡ null_at (2 ^ 64 - K) =
          w.others 29 (ne 29 4 refl) ∙ v.others 29 (ne 29 4 refl) ∙ r.mask_in in
          let y = one w.to (up 5 count) (up 7 top) (Op And 4 4 29) 4 (null_at (placed_at t n)) w.on
          has.1.1.1.1.1.1.1.0 refl (omega arith, omega arith) not_spare
          (op_does w.to And 4 4 29 (next + (K - 1)) (2 ^ 64 - K) (placed_at t n)
          (number_at w.to 4 (next + (K - 1)) w.holds) (number_at w.to 29 (2 ^ 64 - K) masks)
          (and_is (next + (K - 1)) (2 ^ 64 - K) (omega arith) (omega arith)
          ∙ masked z.alignment_is.power (next + (K - 1)) (omega arith) (omega arith) ∙ sym z.placed_is)) in
          let owns : register y.to 30 ≡ null_at (owned n) =
          y.others 30 (ne 30 4 refl) ∙ w.others 30 (ne 30 4 refl) ∙ v.others 30 (ne 30 4 refl) ∙ r.owned_in in
          let e = one y.to (up 6 count) (up 8 top) (Op Add 29 4 30) 29 (null_at (free_behind t n)) y.on
          has.1.1.1.1.1.1.1.1.0 refl (omega arith, omega arith) (not_scratch 29 (omega arith))
          (op_does y.to Add 29 4 30 (placed_at t n) (owned n) (free_behind t n)
          (number_at y.to 4 (placed_at t n) y.holds) (number_at y.to 30 (owned n) owns)
          (add_is (placed_at t n) (owned n) (omega arith))) in
          record {
            to = e.to;
            on = e.on;
            heap_in = e.others 28 (ne 28 29 refl) ∙ y.others 28 (ne 28 4 refl) ∙ w.others 28 (ne 28 4 refl) ∙ in_heap;
            place_in = e.others 4 (ne 4 29 refl) ∙ y.holds;
            end_in = e.holds;
          }

      -- c10 is what would then be used, and x30 the heap's length
      record Measured (u : Machine) (count : ℕ) : Type 0 where
        to : Machine
        on : On to (up 10 count) (up 12 top)
        heap_in : register to 28 ≡ heap_at t.mem.heap
        place_in : register to 4 ≡ null_at (placed_at t n)
        end_in : register to 29 ≡ null_at (free_behind t n)
        used_in : register to 10 ≡ null_at (free_behind t n - s.map.heap.0)
        length_in : register to 30 ≡ null_at H

      measuring : (u : Machine) (count : ℕ) → On u count (up 2 top) → register u 10 ≡ null_at n
          → register u 28 ≡ heap_at t.mem.heap → Measured u count
      measuring u count o is heap_is =
          let l = heap_lies in
          let z = sizes in
          let few' = z.few in
          let small_owned = z.owned_few in
          let from = l.from in
          let to' = l.to in
          let end = l.end_to in
          let low' = z.placed_low in
          let high' = z.placed_high in
          let free : ℕ = free_behind t n in
          let r = locating u count o is heap_is in
          let v = one r.to (up 7 count) (up 9 top) (CapGet Cgetbase 10 28) 10 (null_at s.map.heap.0) r.on
          has.1.1.1.1.1.1.1.1.1.0 refl (omega arith, omega arith) not_argument
          (base_does r.to 10 28 (heap_at t.mem.heap) s.map.heap.0 r.heap_in
          (heap_base s x.legal t.mem.heap l.from l.to)) in
          let ends : register v.to 29 ≡ null_at free = v.others 29 (ne 29 10 refl) ∙ r.end_in in
          let w = one v.to (up 8 count) (up 10 top) (Op Sub 10 29 10) 10 (null_at (free - s.map.heap.0)) v.on
          has.1.1.1.1.1.1.1.1.1.1.0 refl (omega arith, omega arith) not_argument
          (op_does v.to Sub 10 29 10 free s.map.heap.0 (free - s.map.heap.0) (number_at v.to 29 free ends)
          (number_at v.to 10 s.map.heap.0 v.holds) (sub_is free s.map.heap.0 (omega arith) (omega arith))) in
          let in_heap : register w.to 28 ≡ heap_at t.mem.heap =
          w.others 28 (ne 28 10 refl) ∙ v.others 28 (ne 28 10 refl) ∙ r.heap_in in
          let y = one w.to (up 9 count) (up 11 top) (CapGet Cgetlen 30 28) 30 (null_at H) w.on
          has.1.1.1.1.1.1.1.1.1.1.1.0 refl (omega arith, omega arith) (not_scratch 30 (omega arith))
          (length_does w.to 30 28 (heap_at t.mem.heap) H in_heap (heap_long s x.legal t.mem.heap l.from l.to)) in
          record {
            to = y.to;
            on = y.on;
            heap_in = y.others 28 (ne 28 30 refl) ∙ in_heap;
            place_in = y.others 4 (ne 4 30 refl) ∙ w.others 4 (ne 4 10 refl) ∙ v.others 4 (ne 4 10 refl) ∙ r.place_in;
            end_in = y.others 29 (ne 29 30 refl) ∙ w.others 29 (ne 29 10 refl) ∙ ends;
            used_in = y.others 10 (ne 10 30 refl) ∙ w.holds;
            length_in = y.holds;
          }

      -- ---- where the heap has room

      module _ (room : free_behind t n ≤ heap_end s) where
        abbrev object : Value
        object = (allocation_of s t n).pointer

        abbrev bits_then : Value → Cap
        bits_then = capability_of (addresses_of s.map) (base_in (allocation_of s t n).memory.shapes)

        record Taken (u : Machine) (count : ℕ) : Type 0 where
          to : Machine
          on : On to (up 4 count) (up 17 top)
          heap_in : register to 28 ≡ heap_at (free_behind t n)
          pointer_in : register to 10 ≡ narrowed_exactly (moved (heap_at t.mem.heap) (placed_at t n)) (owned n)

        taking_it : (u : Machine) (count : ℕ) → On u count (up 13 top) → register u 28 ≡ heap_at t.mem.heap
            → register u 4 ≡ null_at (placed_at t n) → register u 29 ≡ null_at (free_behind t n) → Taken u count
        taking_it u count o heap_is place_is end_is =
            let l = heap_lies in
            let z = sizes in
            let few' = z.few in
            let small_owned = z.owned_few in
            let from = l.from in
            let to' = l.to in
            let end = l.end_to in
            let low' = z.placed_low in
            let high' = z.placed_high in
            let free : ℕ = free_behind t n in
            let c = moved (heap_at t.mem.heap) (placed_at t n) in
            let d = narrowed_exactly c (owned n) in
            let v = one u count (up 13 top) (CapReg Csetaddr 10 28 4) 10 c o
            has.1.1.1.1.1.1.1.1.1.1.1.1.1.0 refl (omega arith, omega arith) not_argument
            (moved_does u 10 28 4 (heap_at t.mem.heap) c (placed_at t n) heap_is
            (number_at u 4 (placed_at t n) place_is)
            refl) in
            let w = one v.to (up 1 count) (up 14 top) (Op Sub 30 29 4) 30 (null_at (owned n)) v.on
            has.1.1.1.1.1.1.1.1.1.1.1.1.1.1.0 refl (omega arith, omega arith) (not_scratch 30 (omega arith))
            (op_does v.to Sub 30 29 4 free (placed_at t n) (owned n)
            (number_at v.to 29 free (v.others 29 (ne 29 10 refl) ∙ end_is))
            (number_at v.to 4 (placed_at t n) (v.others 4 (ne 4 10 refl) ∙ place_is))
            (sub_is free (placed_at t n) (omega arith) (omega arith) ∙ omega arith)) in
            let y = one w.to (up 2 count) (up 15 top) (CapReg Csetboundsexact 10 10 30) 10 d w.on
            has.1.1.1.1.1.1.1.1.1.1.1.1.1.1.1.0 refl (omega arith, omega arith) not_argument
            (narrowed_does w.to 10 10 30 c d (owned n) (w.others 10 (ne 10 30 refl) ∙ v.holds)
            (number_at w.to 30 (owned n) w.holds) refl) in
            let in_heap : register y.to 28 ≡ heap_at t.mem.heap =
            y.others 28 (ne 28 10 refl) ∙ w.others 28 (ne 28 30 refl) ∙ v.others 28 (ne 28 10 refl) ∙ heap_is in
            let ends : register y.to 29 ≡ null_at free =
            y.others 29 (ne 29 10 refl) ∙ w.others 29 (ne 29 30 refl) ∙ v.others 29 (ne 29 10 refl) ∙ end_is in
            let e = one y.to (up 3 count) (up 16 top) (CapReg Csetaddr 28 28 29) 28 (heap_at free) y.on
            has.1.1.1.1.1.1.1.1.1.1.1.1.1.1.1.1.0 refl (omega arith, omega arith) (not_scratch 28 (omega arith))
            (moved_does y.to 28 28 29 (heap_at t.mem.heap) (heap_at free) free in_heap (number_at y.to 29 free ends)
            (heap_moved s x.legal t.mem.heap l.from l.to free (omega arith) room)) in
            record {
              to = e.to;
              on = e.on;
              heap_in = e.holds;
              pointer_in = e.others 10 (ne 10 28 refl) ∙ y.holds;
            }

        -- it is the pointer to the whole object
        pointer_is : (state_fits : (q : Option Point) × (u : Machine) ×
            Fits s q (with_allocation t (allocation_of s t n)) u)
            → narrowed_exactly (moved (heap_at t.mem.heap) (placed_at t n)) (owned n) ≡ bits_then object
        pointer_is f =
            let l = heap_lies in
            let from = l.from in
            let end = l.end_to in
            let low' = sizes.placed_low in
            let shapes = (allocation_of s t n).memory.shapes in
            let o : ℕ = length t.mem.memory.shapes in
            let h : Shape = record { length = n; owned = owned n; life = Active; base = placed_at t n } in
            let there_is : slice_get shapes o ≡ Some h = last_is t.mem.memory.shapes h in
            let w = whole_pointers_fit_law (functions_of s) (addresses_of s.map) shapes f.2.objects.spread o h there_is
            data_permissions (omega arith) refl in
            w.made s.map.heap.0 (heap_end s) t.mem.heap (heap_encodable s x.legal) (omega arith)
            (heap_keeps s x.legal t.mem.heap l.from l.to) (omega arith) room
            ∙ ap (λ y. bits_then (Live o 0 (owned_of_shape y) 0 data_permissions)) there_is

  -- ---- all of it

  module _ (p : Typed) (sel : IsSelectable s p running (allocating into a) rest)
      (kinded : AreOfKinds (kinds_in s running) t.vars) (words : List Instr)
      (form : Mallocs (selecting s running.fun) a into words) (has_words : HasAt code at words) where
    abbrev n : ℕ
    n = number_of (temp_in t a)

    abbrev result_kind : Bool
    result_kind = result_fits p sel.d (kinds_in s running) (code_in s running) into (Some pointer)

    parts : (has p sel.d (kinds_in s running) (code_in s running) a word ≡ true) × (result_kind ≡ true)
    parts =
        let h = and_parts (all_have (has p sel.d (kinds_in s running) (code_in s running)) (a ∷ []) (word ∷ []))
        result_kind sel.fits in
        ((and_parts (has p sel.d (kinds_in s running) (code_in s running) a word) true h.0).0, h.1)

    argument_is : temp_in t a ≡ Int n
    argument_is =
        let k = has_kind p sel.d (kinds_in s running) (code_in s running) a word parts.0 in
        integer_of word (temp_in t a) refl
        (kind_passes word (kind_at (kinds_in s running) a) (temp_in t a)
        (same_turned (kind_at (kinds_in s running) a) word k.1) (kinded.each a k.0))

    live : IsLive s (before running (allocating into a) rest) a
    live = now (zero, refl)

    small_length : n < 2 ^ 64
    small_length =
        subst (IsKnown t.mem.memory.shapes (functions_of s)) argument_is (point.fits.calls.1.known a live)

    -- ---- where the words stand

    abbrev back : List Instr
    back = store_code 28 3 offset 31

    abbrev load : List Instr
    load = load_code 28 3 offset 28

    abbrev first : ℕ
    first = at + length form.finds

    abbrev top : ℕ
    top = first + length load

    abbrev long : ℕ
    long = length back

    abbrev null_word : ℕ
    null_word = up 17 top + long + 1

    all_words : HasAt code at (form.finds ++ (malloc_code offset ++ form.keep))
    all_words = subst (HasAt code at) form.are has_words

    own_words : HasAt code first (malloc_code offset)
    own_words =
        has_front code first (malloc_code offset) form.keep
        (has_back code at form.finds (malloc_code offset ++ form.keep) all_words)

    behind_load : HasAt code top (takes_by long ++ (back ++ gives_null))
    behind_load = has_back code first load (takes_by long ++ (back ++ gives_null)) own_words

    has_takes : HasAt code top (takes_by long)
    has_takes = has_front code top (takes_by long) (back ++ gives_null) behind_load

    behind_takes : HasAt code (up 17 top) (back ++ gives_null)
    behind_takes =
        let e : top + length (takes_by long) ≡ up 17 top = omega arith in
        subst (λ y. HasAt code y (back ++ gives_null)) e
        (has_back code top (takes_by long) (back ++ gives_null) behind_load)

    has_nulls : HasAt code (up 17 top + long) gives_null
    has_nulls = has_back code (up 17 top) back gives_null behind_takes

    ends : first + length (malloc_code offset) ≡ null_word + 1
    ends =
        let all = length-append load (takes_by long ++ (back ++ gives_null)) in
        let some = length-append (takes_by long) (back ++ gives_null) in
        omega (arith, all, some, length-append back gives_null)

    has_keep : HasAt code (null_word + 1) form.keep
    has_keep =
        subst (λ y. HasAt code y form.keep) ends
        (has_back code first (malloc_code offset) form.keep
        (has_back code at form.finds (malloc_code offset ++ form.keep) all_words))

    all_long : null_word + 1 + length form.keep ≡ at + length words
    all_long =
        let e = ap (λ y. at + length y) form.are in
        let all = length-append form.finds (malloc_code offset ++ form.keep) in
        omega (arith, e, all, length-append (malloc_code offset) form.keep, ends)

    few_load : length load ≤ 3
    few_load = by (nat_lt offset 2048)
      where
        by : (b : Bool)
            → length (if b then Clc 28 3 (pos offset) ∷ [] else near_code 28 3 offset ++ Clc 28 28 (low offset) ∷ [])
            ≤ 3
        by true = omega arith
        by false = omega arith

    few_back : long ≤ 3
    few_back = by (nat_lt offset 2048)
      where
        by : (b : Bool)
            → length (if b then Store Csc 28 3 (pos offset) ∷ []
            else near_code 31 3 offset ++ Store Csc 28 31 (low offset) ∷ []) ≤ 3
        by true = omega arith
        by false = omega arith

    -- ---- c10 is kept

    abbrev Home : State modes.Store → Value → Type 0
    Home state v =
        Arrives s code (behind running rest) 0 34 (at + length words)
        (record state { vars = with_result state.vars into v }) m

    module _ (state : State modes.Store) (u : Machine) (count : ℕ) (few : count ≤ 31) (leads : Leads count m u)
        (now_at : IsAtPoint s code waiting (null_word + 1) state u) (v : Value)
        (known : IsKnown state.mem.memory.shapes (functions_of s) v)
        (holds : register u 10 ≡ capability_of (addresses_of s.map) (base_in state.mem.memory.shapes) v) where
      keeps_by : (o : Option ℕ) → into ≡ o → KeepSome (selecting s running.fun) o form.keep
          → Arrives s code (behind running rest) 0 34 (at + length words)
          (record state { vars = with_result state.vars o v }) m
      keeps_by None none kept =
          let e : null_word + 1 ≡ at + length words =
          (let z = ap length kept in omega (arith, z, all_long)) in
          record {
            count = count;
            to = u;
            ge = omega arith;
            le = omega arith;
            leads = leads;
            point = record {
              fits = moves_on_law s waiting state u now_at.fits rest
                  (λ temp alive. reads_as_before s running (taking into) rest refl (ap in_option none) temp alive);
              counter = now_at.counter ∙ ap (counter_at g) e;
            };
          }
      keeps_by (Some temp) is kept =
          let bits_of_it = capability_of (addresses_of s.map) (base_in state.mem.memory.shapes) v in
          let among : IsAmong temp (writes (allocating into a)) =
          subst (λ o. IsAmong temp (in_option o)) (sym is) (zero, refl) in
          let computed : Computed s code u 0 (null_word + 1) 28 10 bits_of_it = record {
            to = u;
            leads = refl;
            counter = now_at.counter;
            registers = now_at.fits.registers;
            holds = holds;
            others = λ q l d. refl;
            memory = refl;
          } in
          let r = results_go_home_law s code x stack waiting (null_word + 1) state u now_at rest temp
          (may_take s p running (allocating into a) rest temp sel among (λ k z. z))
          (reads_no_more s running (taking into) rest temp refl (ap in_option is)) v known 0 (null_word + 1) 28 10
          (inl (omega arith)) (ne 10 31 refl) computed form.keep kept has_keep in
          let less = keep_few s running.fun temp 10 form.keep kept in
          let le = r.le in
          record {
            count = count + r.count;
            to = r.to;
            ge = omega arith;
            le = omega arith;
            leads = join count r.count m u r.to leads r.leads;
            point = record { fits = r.point.fits; counter = r.point.counter ∙ ap (counter_at g) all_long };
          }

      home : Home state v
      home = keeps_by into refl form.kept

    -- null
    nulls : (u : Machine) (count : ℕ) → count ≤ 30 → On u count null_word → Home t (Raw 0 0)
    nulls u count few o =
        let w = one u count null_word (Imm Addi 10 0 (pos 0)) 10 (null_at 0) o has_nulls.1.0 refl
        (omega arith, omega arith) not_argument
        (imm_does u Addi 10 0 (pos 0) 0 0 0 (null_address 0) nothing (add_is 0 0 (omega arith))) in
        home t w.to (count + 1) (omega arith) w.on.leads
        (record { fits = fits_on w.to (count + 1) (null_word + 1) w.on; counter = w.on.here.counter }) (Raw 0 0)
        (omega arith, omega arith)
        (w.holds ∙ sym (raw_null (functions_of s) (addresses_of s.map) t.mem.memory.shapes point.fits.objects.spread 0
        (omega arith)))

    -- ---- which of the two

    record Reached : Type 0 where
      to : Machine
      on : On to (length form.finds + length load) top
      begun : Begun n long top has_takes to (length form.finds + length load)
      few : length form.finds ≤ 3

    reached : Reached
    reached =
        let value : capability_of (addresses_of s.map) (base_in t.mem.memory.shapes) (temp_in t a) ≡ null_at n =
        ap (capability_of (addresses_of s.map) (base_in t.mem.memory.shapes)) argument_is
        ∙ integer_bits (addresses_of s.map) (base_in t.mem.memory.shapes) n in
        let begin : On m 0 at = record {
          leads = refl;
          here = there s code x (before running (allocating into a) rest) at t m point;
          alike = λ r b. refl;
          memory = refl;
        } in
        let b = sets_by m 0 at (length form.finds) 10
        (capability_of (addresses_of s.map) (base_in t.mem.memory.shapes) (temp_in t a)) begin not_argument
        (brought s code x (before running (allocating into a) rest) t m at point a 10 live (omega arith) (omega arith)
        form.finds form.found (has_front code at form.finds (malloc_code offset ++ form.keep) all_words)) in
        let zero_more : 0 + length form.finds ≡ length form.finds = omega arith in
        let l = loads form.small b.to (length form.finds) first
        (subst (λ y. On b.to y first) zero_more b.on)
        (has_front code first load (takes_by long ++ (back ++ gives_null)) own_words) in
        record {
          to = l.to;
          on = l.on;
          begun = record {
            on = l.on;
            length_in = l.others 10 (ne 10 28 refl) ∙ b.holds ∙ value;
            heap_in = l.holds;
          };
          few = bring_few s running.fun a 10 form.finds form.found;
        }

    -- what the meaning gives, and the machine
    record Gives (r : Allocation) : Type 0 where
      arrives : Home (with_allocation t r) r.pointer
      no_integer : is_integer r.pointer ≡ false

    abbrev null_given : Allocation
    null_given = refused t.mem.memory t.mem.heap

    refusing : (u : Machine) (count : ℕ) → count ≤ 30 → On u count null_word → Gives null_given
    refusing u count few o = record { arrives = nulls u count few o; no_integer = refl }

    null_inside : null_word < length code
    null_inside = slice_get_within code null_word (Imm Addi 10 0 (pos 0)) has_nulls.1.0

    abbrev count_at : ℕ
    count_at = length form.finds + length load

    asked : Asked n long top has_takes reached.to count_at
    asked = asks n long top has_takes reached.to count_at reached.begun

    -- a length that the heap can't have
    too_long : nat_lt H n ≡ true → Gives null_given
    too_long less =
        let l = heap_lies in
        let most = l.most in
        let q = asked in
        let few = reached.few in
        let inside = null_inside in
        let fl = few_load in
        refusing (landed s code x q.to null_word) (up 2 count_at) (omega arith)
        (refuses n long top has_takes q.to (up 1 count_at) (4 * long + 68) 29 10 H n (up 1 top) null_word q.on
        has_takes.1.0 (number_at q.to 29 H q.measured) (number_at q.to 10 n q.length_in) less (omega arith) small_length
        (omega arith) (omega arith))

    module _ (le : n ≤ H) where
      passed : On (landed s code x asked.to (up 2 top)) (up 2 count_at) (up 2 top)
      passed =
          let l = heap_lies in
          let most = l.most in
          let q = asked in
          passes n long top has_takes q.to (up 1 count_at) (4 * long + 68) 29 10 H n (up 1 top) q.on has_takes.1.0
          (number_at q.to 29 H q.measured) (number_at q.to 10 n q.length_in) (le-ltb H n le) (omega arith) small_length

      measured : Measured n long top has_takes le (landed s code x asked.to (up 2 top)) (up 2 count_at)
      measured =
          measuring n long top has_takes le (landed s code x asked.to (up 2 top)) (up 2 count_at) passed asked.length_in
          asked.heap_in

      abbrev used : ℕ
      used = free_behind t n - s.map.heap.0

      used_few : used < 2 ^ 64
      used_few =
          let l = heap_lies in
          let z = sizes n long top has_takes le in
          let small_owned = z.owned_few in
          let few' = z.few in
          let high' = z.placed_high in
          let to' = l.to in
          let end = l.end_to in
          omega arith

      -- a heap that is too full
      full : nat_lt H used ≡ true → Gives null_given
      full less =
          let l = heap_lies in
          let most = l.most in
          let q = measured in
          let few = reached.few in
          let inside = null_inside in
          let fl = few_load in
          refusing (landed s code x q.to null_word) (up 13 count_at) (omega arith)
          (refuses n long top has_takes q.to (up 12 count_at) (4 * long + 24) 30 10 H used (up 12 top) null_word q.on
          has_takes.1.1.1.1.1.1.1.1.1.1.1.1.0 (number_at q.to 30 H q.length_in) (number_at q.to 10 used q.used_in) less
          (omega arith) used_few (omega arith) (omega arith))

      -- a new object
      module _ (room : free_behind t n ≤ heap_end s) where
        abbrev given : Allocation
        given = allocation_of s t n

        room_left : nat_lt H used ≡ false
        room_left = le-ltb H used (omega arith)

        entered : On (landed s code x measured.to (up 13 top)) (up 13 count_at) (up 13 top)
        entered =
            let l = heap_lies in
            let most = l.most in
            let q = measured in
            passes n long top has_takes q.to (up 12 count_at) (4 * long + 24) 30 10 H used (up 12 top) q.on
            has_takes.1.1.1.1.1.1.1.1.1.1.1.1.0 (number_at q.to 30 H q.length_in) (number_at q.to 10 used q.used_in)
            room_left (omega arith) used_few

        taken : Taken n long top has_takes le room (landed s code x measured.to (up 13 top)) (up 13 count_at)
        taken =
            taking_it n long top has_takes le room (landed s code x measured.to (up 13 top)) (up 13 count_at) entered
            measured.heap_in measured.place_in measured.end_in

        stored : Stored form.small n room taken.to (up 17 count_at) (up 17 top) long
        stored =
            stores form.small n room taken.to (up 17 count_at) (up 17 top) taken.on
            (has_front code (up 17 top) back gives_null behind_takes) taken.heap_in

        -- the words that give null are passed
        abbrev skipped : Machine
        skipped = landed s code x stored.to (null_word + 1)

        skips : act stored.to ≡ Goes skipped
        unfolding row cjal_row
        skips =
            let room' = x.room in
            let below = x.legal.in_range.1 in
            let inside = null_inside in
            hops s code x stored.to (up 17 top + long) (null_word + 1) (extended (pos 8)) (Cjal 0 (pos 8))
            (there s code x waiting (up 17 top + long) (new form.small n room) stored.to stored.point_on) has_nulls.0
            refl
            refl (omega arith) (near_low (place g (up 17 top + long)) 8 (omega arith) ∙ omega arith)

        holds_pointer : register stored.to 10 ≡ bits_then n long top has_takes le room given.pointer
        holds_pointer =
            stored.same ∙ taken.pointer_in
            ∙ pointer_is n long top has_takes le room (Some waiting, stored.to, stored.point_on.fits)

        gives_object : Gives given
        gives_object =
            let few = reached.few in
            let fb = few_back in
            let fl = few_load in
            let count : ℕ = up 17 count_at + long in
            let state = with_allocation t given in
            record {
              arrives = home state skipped (count + 1) (omega arith)
                  (join count 1 m stored.to skipped stored.leads (skipped, skips, refl))
                  (record {
                    fits = scratch_keeps_law s x.usable (Some waiting) state stored.to stored.point_on.fits skipped
                        stored.point_on.fits.registers refl (λ r l. refl);
                    counter = refl;
                  })
                  given.pointer stored.known holds_pointer;
              no_integer = refl;
            }

    -- ---- what the meaning gives

    abbrev meant : Allocation
    meant = placed_allocate (addresses_of s.map) t.mem.memory t.mem.heap n

    abbrev by_tests : Bool → Bool → Allocation
    by_tests b c = if b then null_given else if c then null_given else allocation_of s t n

    whole_heap : (addresses_of s.map).heap_end - (addresses_of s.map).heap ≡ H
    whole_heap = omega arith

    gives : Gives meant
    gives = by (nat_lt H n) (nat_lt (heap_end s) (free_behind t n)) refl refl
      where
        is : (b c : Bool) → nat_lt H n ≡ b → nat_lt (heap_end s) (free_behind t n) ≡ c → meant ≡ by_tests b c
        is b c e f =
            ap (λ v. by_tests (nat_lt v n) (nat_lt (heap_end s) (free_behind t n))) whole_heap
            ∙ ap (λ v. by_tests v (nat_lt (heap_end s) (free_behind t n))) e ∙ ap (by_tests b) f

        by : (b c : Bool) → nat_lt H n ≡ b → nat_lt (heap_end s) (free_behind t n) ≡ c → Gives meant
        by true c e f = subst Gives (sym (is true c e f)) (too_long e)
        by false true e f =
            let le = ltb-false H n e in
            let more = ltb-true (heap_end s) (free_behind t n) f in
            subst Gives (sym (is false true e f)) (full le (lt-ltb H (used le) (omega arith)))
        by false false e f =
            subst Gives (sym (is false false e f))
            (gives_object (ltb-false H n e) (ltb-false (heap_end s) (free_behind t n) f))

    result_kinded : (v : Value) → is_integer v ≡ false → (o : Option ℕ)
        → result_fits p sel.d (kinds_in s running) (code_in s running) o (Some pointer) ≡ true
        → AreOfKinds (kinds_in s running) (with_result t.vars o v)
    result_kinded v plain None fits = kinded
    result_kinded v plain (Some temp) fits =
        let h = has_kind p sel.d (kinds_in s running) (code_in s running) temp pointer fits in
        kinded_set (kinds_in s running) t.vars temp v kinded h.0
        (pointer_kind (kind_at (kinds_in s running) temp) v
        (same_capability (kind_at (kinds_in s running) temp) pointer h.1 refl) plain)

    means_by : (w : World) (o : Option ℕ) → into ≡ o → (k : Way → State modes.Store → Fate)
        → effect (operations (placed_plan s.map)) w p (kinds_in s running) (allocating o a) t k
        ≡ k Onward (record (with_allocation t meant) { vars = with_result t.vars o meant.pointer })
    unfolding operations
    means_by w None e k = refl
    means_by w (Some temp) e k = refl

pub allocations_run_law : AllocationsRun
allocations_run_law into a s code x stack loaded w p running rest sel beside at t m point kinded words form has_words =
    let g = gives s code x stack loaded into a running rest beside at t m point p sel kinded words form has_words in
    let r = placed_allocate (addresses_of s.map) t.mem.memory t.mem.heap (number_of (temp_in t a)) in
    let f = parts s code x stack loaded into a running rest beside at t m point p sel kinded words form has_words in
    record {
      next = record (with_allocation t r) { vars = with_result t.vars into r.pointer };
      means = means_by s code x stack loaded into a running rest beside at t m point p sel kinded words form has_words w
          into refl;
      kinded = result_kinded s code x stack loaded into a running rest beside at t m point p sel kinded words form
          has_words r.pointer g.no_integer into f.1;
      does = g.arrives;
    }
