-- Structs are copied: for each unit the machine loads and stores as the meaning does, or both stop there.
use Rattle.std.proofs.Common.{◌≡◌, ℕ, zero, suc, ◌+◌, ◌-◌, ◌*◌, ◌/◌, ◌%◌, ◌^◌, ◌<◌, ◌≤◌, ◌==◌, ◌&&◌, pos, negsuc, true}
use Rattle.std.proofs.Common.{false, List, [], ◌∷◌, ◌++◌, length, Some, refl, sym, ap, ◌∙◌, subst, arith, inl, inr}
use Rattle.std.specs.Prelude.{slice_get, Result, Ok, Err}
use Rattle.std.proofs.lemmas.Bool.{and_parts, eqb-true, or_cases}
use Rattle.std.proofs.lemmas.List.{length-append}
use Rattle.std.proofs.lemmas.Option.{slice_get_within}
use Rattle.ck_base.specs.Runs.{Goes as Acted, Ends}
use Rattle.ck_base.specs.World.{World}
use Rattle.ck_base.specs.declared.positions.Pos.{Pos}
use Rattle.ck_int.specs.declared.kinds.IntKind.TheVariants as int
use Rattle.ck_int.specs.Kinds.{kept_of, wrapped}
use Rattle.ck_int.proofs.Laws.{IsKept-unsigned}
use Rattle.ck_int.proofs.OperationLaws.{IsKept-64}
use Rattle.cap_ops.specs.declared.access.Cause.{Cause}
use Rattle.cap_ops.specs.declared.capability.Cap.{Cap}
use Rattle.cap_ops.specs.Capability.{added, null_at}
use Rattle.c_tree.specs.declared.typed.Typed.{Typed}
use Rattle.rv_instr.specs.declared.instr.Instr.{Instr}
use Rattle.rv_instr.specs.declared.instr.Instr.TheVariants.{Load, Store}
use Rattle.rv_instr.specs.declared.ops.LoadOp.{LoadOp}
use Rattle.rv_instr.specs.declared.ops.LoadOp.TheVariants.{Ld, Lbu, Lhu, Lwu}
use Rattle.rv_instr.specs.declared.ops.StoreOp.{StoreOp}
use Rattle.rv_instr.specs.declared.ops.StoreOp.TheVariants.{Sb, Sh, Sw, Sd, Csc}
use Rattle.cap_machine.specs.declared.machine.Machine.{Machine}
use Rattle.cap_machine.specs.declared.end.End.TheVariants.{Trap}
use Rattle.cap_machine.specs.declared.end.Step.{Step}
use Rattle.cap_machine.specs.Integers.{extended, loaded_kind, loaded_bytes, stored_bytes}
use Rattle.cap_machine.specs.Rows.{row, load_row, store_row, clc_row, set, set_integer, trap}
use Rattle.cap_machine.specs.State.{register, next}
use Rattle.cap_machine.specs.Step.{act, act_of, is_call}
use Rattle.obj_mem.specs.declared.ending.Ending.TheVariants as ending
use Rattle.obj_mem.specs.declared.ending.Fault.{Fault}
use Rattle.obj_mem.specs.declared.ending.Fault.TheVariants as fault
use Rattle.obj_mem.specs.declared.ending.UnitFault.{UnitFault}
use Rattle.obj_mem.specs.declared.ending.UnitFault.TheVariants as half
use Rattle.obj_mem.specs.Access.{as_store, load, store, copy_unit}
use Rattle.obj_mem.specs.Objects.{Memory, Shape, Placed, base_in}
use Rattle.obj_mem.specs.Table.{addresses_of}
use Rattle.obj_mem.specs.Values.{Value, Int, Live, Fun, Raw, Addresses, capability_of}
use Rattle.cheri_c_sem.specs.Meaning.{At, copy_units, further}
use Rattle.cheri_c_sem.specs.Modes as modes
use Rattle.cheri_c_sem.specs.Modes.{operations, placed_plan, with_memory}
use Rattle.cheri_c_sem.specs.Steps.{State, Fate, over, unit_answer, unit_end}
use Rattle.tac_ir.specs.Effects.{Next as Way, On, effect, temp_in}
use Rattle.tac_ir.specs.Meaning.{Running}
use Rattle.tac_ir.specs.Temps.{now}
use Rattle.tac_ir.specs.WellFormed.{has_capability, is_unit, units_fit}
use Rattle.tac_ir.specs.declared.code.TacInstr.{TacInstr}
use Rattle.tac_ir.specs.declared.code.TacInstr.TheVariants as instr
use Rattle.place_inject.specs.Copies.{IsUnit, then_stored}
use Rattle.place_inject.specs.Frames.{Setting, Point, IsLive, functions_of}
use Rattle.place_inject.specs.Objects.{ObjectsFit}
use Rattle.place_inject.specs.Steps.{is_integer, stores_integer, LoadAnswers, CapabilityLoadAnswers, StoreAnswers}
use Rattle.place_inject.specs.Values.{IsKnown}
use Rattle.place_inject.proofs.Copying.{copies_fit_law}
use Rattle.place_inject.proofs.Loading.{loads_fit_law}
use Rattle.place_inject.proofs.Results.{moves_on_law}
use Rattle.place_inject.proofs.Stepping.{Spans, loads_span, stores_span, stepped, steps_on}
use Rattle.place_inject.proofs.Storing.{stores_fit_law}
use Rattle.place_inject.proofs.StoresKeep.{kept}
use Rattle.select_words.specs.Standing.{HasAt}
use Rattle.select_words.specs.Copying.{unit_load, unit_store, unit_words, copy_loop, Brings, CopyWords, Nothing, One}
use Rattle.select_words.specs.Copying.{Round}
use Rattle.select_words.specs.Numbers.{MakesNumber}
use Rattle.select_runs.specs.Acts.{Ground, Leads, counter_at, place}
use Rattle.select_runs.specs.Copying.{copy_cost, StructCopied, Goes, StopsReading, StopsWriting, Leaves}
use Rattle.select_runs.specs.Copying.{StructCopiesRun}
use Rattle.select_runs.specs.Kinds.{AreOfKinds}
use Rattle.select_runs.specs.Operands.{ground_of, IsText, IsAtPoint}
use Rattle.select_runs.specs.Results.{IsSelectable, before, kinds_in, code_in}
use Rattle.select_runs.proofs.Acts.{fetched_here, next_is, has_front, has_back, join, one_set}
use Rattle.select_runs.proofs.Bringing.{brings}
use Rattle.select_runs.proofs.Jumps.{landed, lands}
use Rattle.select_runs.proofs.Loops.{counts_down, moves_by, goes_back, goes_past}
use Rattle.select_runs.proofs.Points.{laid, there, traps_at}
use Rattle.select_runs.proofs.Results.{reads_as_before}
use Rattle.select_runs.proofs.Simple.{bring_few}
use Rattle.select_runs.proofs.Working.{Got, got, number_got, integer_bits, bits}
use Rattle.select_runs.specs.Selecting.{selecting}

minus_twenty : extended (negsuc 19) ≡ 18446744073709551596
unfolding kept_of
minus_twenty = refl

-- ---- the words of a unit

-- what a load into c31 gives, so that a store may store it
abbrev Read : (functions : ℕ) → Addresses → List Shape → Machine → StoreOp → Result Value Fault → Step × Machine →
    Type 0
Read functions a shapes m op (Ok v) step =
    IsKnown shapes functions v × (stores_integer op ≡ is_integer v) ×
    (step ≡ set m 31 (capability_of a (base_in shapes) v))
Read functions a shapes m op (Err (fault.Cause c)) step = step ≡ trap m c
Read functions a shapes m op (Err fault.Outside) step = Unit {0}
Read functions a shapes m op (Err (fault.Unspecified r)) step = ⊥

-- A load and a store of so many bytes
record Sized (n : ℕ) : Type 0 where
  op : StoreOp
  is_store : unit_store n ≡ Store op 31 29 (pos 0)
  bytes_are : stored_bytes op ≡ n
  no_call : is_call (unit_load n) ≡ false
  reads : (functions : ℕ) (a : Addresses) (objects : Memory) (m : Machine) → ObjectsFit functions a objects m.mem
      → (p : Value) → IsKnown objects.shapes functions p → register m 28 ≡ capability_of a (base_in objects.shapes) p
      → Read functions a objects.shapes m op (load (Placed a) objects p n) (row m (unit_load n))

module _ (n : ℕ) (lop : LoadOp) (sop : StoreOp) (loads : unit_load n ≡ Load lop 31 28 (pos 0))
    (stores : unit_store n ≡ Store sop 31 29 (pos 0)) (bytes : loaded_bytes lop ≡ n) (bytes' : stored_bytes sop ≡ n)
    (int : stores_integer sop ≡ true) (few : 256 ^ n ≤ 2 ^ 64)
    (same : (v : ℕ) → v < 256 ^ n → wrapped (loaded_kind lop) (pos v) ≡ v) where
  integer_read : (functions : ℕ) (a : Addresses) (objects : Memory) (m : Machine) (r : Result Value Fault)
      → LoadAnswers m lop 31 r (load_row m lop 31 28 (pos 0))
      → Read functions a objects.shapes m sop r (load_row m lop 31 28 (pos 0))
  integer_read functions a objects m (Ok v) q =
      let small : q.0 < 256 ^ n = subst (λ k. q.0 < 256 ^ k) bytes q.2 in (
        subst (IsKnown objects.shapes functions) (sym q.1) (omega (arith, small, few)),
        int ∙ sym (ap is_integer q.1),
        q.3 ∙ ap (set_integer m 31) (same q.0 small)
            ∙ ap (set m 31) (sym (integer_bits a (base_in objects.shapes) q.0))
            ∙ ap (λ u. set m 31 (capability_of a (base_in objects.shapes) u)) (sym q.1),
      )
  integer_read functions a objects m (Err (fault.Cause c)) q = q
  integer_read functions a objects m (Err fault.Outside) q = tt
  integer_read functions a objects m (Err (fault.Unspecified u)) q = absurd q

  integer_sized : Sized n
  unfolding row
  integer_sized = record {
    op = sop;
    is_store = stores;
    bytes_are = bytes';
    no_call = ap is_call loads;
    reads = λ functions a objects m f p known holds.
        subst (λ i. Read functions a objects.shapes m sop (load (Placed a) objects p n) (row m i)) (sym loads)
        (integer_read functions a objects m (load (Placed a) objects p n)
        (subst (λ k. LoadAnswers m lop 31 (load (Placed a) objects p k) (load_row m lop 31 28 (pos 0))) bytes
        ((loads_fit_law functions a objects m f).integers lop 31 28 p known holds)));
  }

capability_read : (functions : ℕ) (a : Addresses) (objects : Memory) (m : Machine) (r : Result Value Fault)
    → CapabilityLoadAnswers functions a objects.shapes m 31 r (clc_row m 31 28 (pos 0))
    → Read functions a objects.shapes m Csc r (clc_row m 31 28 (pos 0))
capability_read functions a objects m (Ok v) q = (q.1, sym q.0, q.2)
capability_read functions a objects m (Err (fault.Cause c)) q = q
capability_read functions a objects m (Err fault.Outside) q = tt
capability_read functions a objects m (Err (fault.Unspecified u)) q = absurd q

capability_sized : Sized 16
unfolding row
capability_sized = record {
  op = Csc;
  is_store = refl;
  bytes_are = refl;
  no_call = refl;
  reads = λ functions a objects m f p known holds.
      capability_read functions a objects m (load (Placed a) objects p 16)
      ((loads_fit_law functions a objects m f).capabilities 31 28 p known holds);
}

sized : (n : ℕ) → IsUnit n → Sized n
sized n (inl e) = subst Sized (sym e) (integer_sized 1 Lbu Sb refl refl refl refl refl (omega arith)
    (λ v h. (IsKept-unsigned int.U8 v refl h).kept))
sized n (inr (inl e)) = subst Sized (sym e) (integer_sized 2 Lhu Sh refl refl refl refl refl (omega arith)
    (λ v h. (IsKept-unsigned int.U16 v refl h).kept))
sized n (inr (inr (inl e))) = subst Sized (sym e) (integer_sized 4 Lwu Sw refl refl refl refl refl (omega arith)
    (λ v h. (IsKept-unsigned int.U32 v refl h).kept))
sized n (inr (inr (inr (inl e)))) = subst Sized (sym e) (integer_sized 8 Ld Sd refl refl refl refl refl (omega arith)
    (λ v h. (IsKept-64 (loaded_kind Ld) v refl h).kept))
sized n (inr (inr (inr (inr e)))) = subst Sized (sym e) capability_sized

unit_is : (n : ℕ) → is_unit n ≡ true → IsUnit n
unit_is n h = elim (or_cases _ (n == 16) h) as (λ _. IsUnit n) [
  | inr e ↦ inr (inr (inr (inr (eqb-true n 16 e))))
  | inl a ↦ elim (or_cases _ (n == 8) a) as (λ _. IsUnit n) [
    | inr e ↦ inr (inr (inr (inl (eqb-true n 8 e))))
    | inl b ↦ elim (or_cases _ (n == 4) b) as (λ _. IsUnit n) [
      | inr e ↦ inr (inr (inl (eqb-true n 4 e)))
      | inl c ↦ elim (or_cases (n == 1) (n == 2) c) as (λ _. IsUnit n) [
        | inl e ↦ inl (eqb-true n 1 e)
        | inr e ↦ inr (inl (eqb-true n 2 e))
      ]
    ]
  ]
]

-- ---- one unit

module _ (s : Setting) (code : List Instr) (x : IsText s code) (w : World) (p : Typed) (running : Running)
    (from to bytes unit : ℕ) (from_pos to_pos : Pos) (rest : List TacInstr) (t : State modes.Store)
    (is : IsUnit unit) where
  abbrev g : Ground
  g = ground_of s code

  abbrev a : Addresses
  a = addresses_of s.map

  abbrev copy_i : TacInstr
  copy_i = instr.CopyUnits from to bytes unit from_pos to_pos

  abbrev here : Point
  here = before running copy_i rest

  abbrev source : Value
  source = temp_in t from

  abbrev target : Value
  target = temp_in t to

  -- the state with other objects
  abbrev over_objects : Memory → State modes.Store
  over_objects objects = record t { mem = with_memory t.mem objects }

  abbrev bits_in : Memory → Value → Cap
  bits_in objects v = capability_of a (base_in objects.shapes) v

  -- before a unit that begins so many bytes from the pointers on
  record AtUnit (u : Machine) (mid : ℕ) (objects : Memory) (by : ℕ) : Type 0 where
    point : IsAtPoint s code here mid (over_objects objects) u
    reads : register u 28 ≡ bits_in objects (further source by)
    writes : register u 29 ≡ bits_in objects (further target by)
    source_known : IsKnown objects.shapes (functions_of s) (further source by)
    target_known : IsKnown objects.shapes (functions_of s) (further target by)

  abbrev unit_copied : Memory → ℕ → Result Memory UnitFault
  unit_copied objects by = copy_unit (Placed a) objects (further source by) (further target by) unit

  -- the machine behind a unit that was copied
  record Behind (u : Machine) (mid : ℕ) (objects : Memory) (by : ℕ) (new : Memory) : Type 0 where
    after : Machine
    leads : Leads 2 u after
    still : AtUnit after (mid + 1 + 1) new by
    source_spans : Spans (further source by) unit
    target_spans : Spans (further target by) unit
    count : register after 30 ≡ register u 30

  data UnitDone (u : Machine) (mid : ℕ) (objects : Memory) (by : ℕ) : Type 0 where
    Copied : (new : Memory) → unit_copied objects by ≡ Ok new → Behind u mid objects by new → UnitDone u mid objects by
    Unread : (c : Cause) → unit_copied objects by ≡ Err (half.Load (fault.Cause c)) →
        act u ≡ Ends (Trap c (place g mid))
        → UnitDone u mid objects by
    Unwritten : (c : Cause) → unit_copied objects by ≡ Err (half.Store (fault.Cause c)) → (after : Machine)
        → Leads 1 u after → act after ≡ Ends (Trap c (place g (mid + 1))) → UnitDone u mid objects by
    Left : (f : UnitFault) (at : Pos) → unit_copied objects by ≡ Err f → unit_end f from_pos to_pos ≡ ending.Outside at
        → UnitDone u mid objects by

  module _ (u : Machine) (mid : ℕ) (objects : Memory) (by : ℕ) (h : AtUnit u mid objects by)
      (has_load : slice_get code mid ≡ Some (unit_load unit))
      (has_store : slice_get code (mid + 1) ≡ Some (unit_store unit)) where
    abbrev z : Sized unit
    z = sized unit is

    abbrev read : Result Value Fault
    read = load (Placed a) objects (further source by) unit

    abbrev written_by : Value → Result Memory Fault
    written_by v = store (Placed a) objects (further target by) unit v

    answer_is : (r : Result Value Fault) → read ≡ r
        → Read (functions_of s) a objects.shapes u z.op r (row u (unit_load unit))
    answer_is r e =
        subst (λ y. Read (functions_of s) a objects.shapes u z.op y (row u (unit_load unit))) e
        (z.reads (functions_of s) a objects u h.point.fits.objects (further source by) h.source_known h.reads)

    copied_is : (r : Result Value Fault) → read ≡ r → unit_copied objects by
        ≡ then_stored a objects (further target by) unit r
    copied_is r e =
        copies_fit_law (functions_of s) a objects u h.point.fits.objects unit is (further source by)
        (further target by) h.source_known
        ∙ ap (then_stored a objects (further target by) unit) e

    -- what was read stands in c31
    module _ (v : Value) (is_read : read ≡ Ok v) where
      abbrev answered : Read (functions_of s) a objects.shapes u z.op (Ok v) (row u (unit_load unit))
      answered = answer_is (Ok v) is_read

      held : Got s code here (over_objects objects) u u (0 + 1) (mid + 1) 31 31 (bits_in objects v)
      held =
          got s code x here (over_objects objects) u u 0 mid refl h.point 31 31 1 (bits_in objects v) (omega arith)
          (one_set g (laid s code x) u mid (there s code x here mid (over_objects objects) u h.point)
          (unit_load unit) 31
          (bits_in objects v) has_load z.no_call (omega arith) (omega arith) answered.2)

      has_op : slice_get code (mid + 1) ≡ Some (Store z.op 31 29 (pos 0))
      has_op = has_store ∙ ap (λ i. Some i) z.is_store

      stored_is : (r : Result Memory Fault) → written_by v ≡ r
          → StoreAnswers (functions_of s) a objects held.to r (store_row held.to z.op 31 29 (pos 0))
      stored_is r e =
          subst (λ y. StoreAnswers (functions_of s) a objects held.to y (store_row held.to z.op 31 29 (pos 0)))
          (ap (λ n. store (Placed a) objects (further target by) n v) z.bytes_are ∙ e)
          (stores_fit_law (functions_of s) a objects held.to held.point.fits.objects z.op 31 29 (further target by) v
          answered.1 h.target_known answered.0 (held.others 29 (λ e. absurd (omega (arith, e))) ∙ h.writes) held.holds)

      goes_on : (new : Memory) → written_by v ≡ Ok new → Behind u mid objects by new
      unfolding row
      goes_on new e =
          let o = stored_is (Ok new) e in
          let n : Machine = record held.to { mem = o.memory } in
          let now = there s code x here (mid + 1) (over_objects objects) held.to held.point in
          let inside = slice_get_within code (mid + 1) (Store z.op 31 29 (pos 0)) has_op in
          let goes : act held.to ≡ Acted (next n) =
          fetched_here g (laid s code x) held.to (mid + 1) (Store z.op 31 29 (pos 0)) now.counter now.text has_op
          ∙ ap act_of o.goes in
          let t' = over_objects objects in
          let fits = kept s x.legal (Some here) t' held.to held.point.fits new o.memory o.fit o.shapes
          o.inside in
          record {
            after = next n;
            leads = join 1 1 u held.to (next n) held.leads (next n, goes, refl);
            still = record {
              point = record {
                fits = fits;
                counter = ap (λ (y : Machine). y.pc) (next_is g (laid s code x) n (mid + 1) now.counter inside);
              };
              reads = held.others 28 (λ q. absurd (omega (arith, q))) ∙ h.reads
                  ∙ ap (λ sh. capability_of a (base_in sh) (further source by)) (sym o.shapes);
              writes = held.others 29 (λ q. absurd (omega (arith, q))) ∙ h.writes
                  ∙ ap (λ sh. capability_of a (base_in sh) (further target by)) (sym o.shapes);
              source_known = subst (λ sh. IsKnown sh (functions_of s) (further source by))
                  (sym o.shapes) h.source_known;
              target_known = subst (λ sh. IsKnown sh (functions_of s) (further target by))
                  (sym o.shapes) h.target_known;
            };
            source_spans = loads_span (Placed a) objects (further source by) unit v is_read;
            target_spans = stores_span (Placed a) objects (further target by) unit v new e;
            count = held.others 30 (λ q. absurd (omega (arith, q)));
          }

      store_done : (r : Result Memory Fault) → written_by v ≡ r → UnitDone u mid objects by
      unfolding row
      store_done (Ok new) e = Copied new (copied_is (Ok v) is_read ∙ ap as_store e) (goes_on new e)
      store_done (Err (fault.Cause c)) e =
          Unwritten c (copied_is (Ok v) is_read ∙ ap as_store e) held.to held.leads
          (traps_at s code x here (mid + 1) (over_objects objects) held.to held.point
          (Store z.op 31 29 (pos 0)) has_op refl
          c (stored_is (Err (fault.Cause c)) e))
      store_done (Err fault.Outside) e =
          Left (half.Store fault.Outside) to_pos (copied_is (Ok v) is_read ∙ ap as_store e) refl
      store_done (Err (fault.Unspecified r)) e = absurd (stored_is (Err (fault.Unspecified r)) e)

    load_done : (r : Result Value Fault) → read ≡ r → UnitDone u mid objects by
    load_done (Ok v) e = store_done v e (written_by v) refl
    load_done (Err (fault.Cause c)) e =
        Unread c (copied_is (Err (fault.Cause c)) e)
        (traps_at s code x here mid (over_objects objects) u h.point (unit_load unit) has_load z.no_call c
        (answer_is (Err (fault.Cause c)) e))
    load_done (Err fault.Outside) e = Left (half.Load fault.Outside) from_pos (copied_is (Err fault.Outside) e) refl
    load_done (Err (fault.Unspecified r)) e = absurd (answer_is (Err (fault.Unspecified r)) e)

    unit_done : UnitDone u mid objects by
    unit_done = load_done read refl

  -- ---- what the meaning does

  -- so many units from a place on
  abbrev copies_from : (units by : ℕ) → Memory → (Unit {0} → State modes.Store → Fate) → Fate
  copies_from units by objects k =
      copy_units (operations (placed_plan s.map)) w units unit by (At from_pos source) (At to_pos target)
      (over_objects objects) k

  one_on : (units by : ℕ) (objects new : Memory) → unit_copied objects by ≡ Ok new
      → (k : Unit {0} → State modes.Store → Fate)
      → copies_from (suc units) by objects k ≡ copies_from units (by + unit) new k
  unfolding operations
  one_on units by objects new e k =
      ap (λ r. unit_answer from_pos to_pos (modes.copied (with_memory t.mem objects) r) (over_objects objects)
      (λ m u. copy_units (operations (placed_plan s.map)) w units unit (by + unit) (At from_pos source)
      (At to_pos target) (record u { mem = m }) k)) e

  one_off : (units by : ℕ) (objects : Memory) (f : UnitFault) → unit_copied objects by ≡ Err f
      → (k : Unit {0} → State modes.Store → Fate)
      → copies_from (suc units) by objects k ≡ over (unit_end f from_pos to_pos) t
  unfolding operations
  one_off units by objects f e k =
      ap (λ r. unit_answer from_pos to_pos (modes.copied (with_memory t.mem objects) r) (over_objects objects)
      (λ m u. copy_units (operations (placed_plan s.map)) w units unit (by + unit) (At from_pos source)
      (At to_pos target) (record u { mem = m }) k)) e

  -- How so many units end that begin at a word: behind them, at a word; at the word that loads or at that which stores;
  -- or outside
  data Ended (top end most units by : ℕ) (objects : Memory) (u : Machine) : Type 0 where
    All : (new : Memory) → ((k : Unit {0} → State modes.Store → Fate)
        → copies_from units by objects k ≡ k tt (over_objects new))
        → (count : ℕ) → count ≤ most → (after : Machine) → Leads count u after
        → IsAtPoint s code here end (over_objects new) after → Ended top end most units by objects u
    AtLoad : (c : Cause) → ((k : Unit {0} → State modes.Store → Fate)
        → copies_from units by objects k ≡ over (ending.Trap c from_pos) t)
        → (count : ℕ) → count < most → (after : Machine) → Leads count u after → act after ≡ Ends (Trap c (place g top))
        → Ended top end most units by objects u
    AtStore : (c : Cause) → ((k : Unit {0} → State modes.Store → Fate)
        → copies_from units by objects k ≡ over (ending.Trap c to_pos) t)
        → (count : ℕ) → count < most → (after : Machine) → Leads count u after
        → act after ≡ Ends (Trap c (place g (top + 1))) → Ended top end most units by objects u
    Elsewhere : (at : Pos) → ((k : Unit {0} → State modes.Store → Fate)
        → copies_from units by objects k ≡ over (ending.Outside at) t) → Ended top end most units by objects u

  -- a unit that ends the run
  module _ (top end most units by : ℕ) (objects : Memory) (u : Machine) (some : 1 < most) where
    unread : (c : Cause) → unit_copied objects by ≡ Err (half.Load (fault.Cause c)) →
        act u ≡ Ends (Trap c (place g top))
        → Ended top end most (suc units) by objects u
    unread c e ends = AtLoad c (one_off units by objects (half.Load (fault.Cause c)) e) 0 (omega arith) u refl ends

    unwritten : (c : Cause) → unit_copied objects by ≡ Err (half.Store (fault.Cause c)) → (after : Machine)
        → Leads 1 u after → act after ≡ Ends (Trap c (place g (top + 1))) → Ended top end most (suc units) by objects u
    unwritten c e after leads ends =
        AtStore c (one_off units by objects (half.Store (fault.Cause c)) e) 1 some after leads ends

    left : (f : UnitFault) (at : Pos) → unit_copied objects by ≡ Err f → unit_end f from_pos to_pos ≡ ending.Outside at
        → Ended top end most (suc units) by objects u
    left f at e is_end = Elsewhere at (λ k. one_off units by objects f e k ∙ ap (λ y. over y t) is_end)

  -- ---- one unit alone

  alone : (u : Machine) (top by : ℕ) (objects : Memory) → AtUnit u top objects by → HasAt code top (unit_words unit)
      → Ended top (top + 1 + 1) 2 1 by objects u
  alone u top by objects h has = done (unit_done u top objects by h has.0 has.1.0)
    where
      done : UnitDone u top objects by → Ended top (top + 1 + 1) 2 1 by objects u
      done (Copied new e b) = All new (one_on 0 by objects new e) 2 (omega arith) b.after b.leads b.still.point
      done (Unread c e ends) = unread top (top + 1 + 1) 2 0 by objects u (omega arith) c e ends
      done (Unwritten c e after leads ends) =
          unwritten top (top + 1 + 1) 2 0 by objects u (omega arith) c e after leads ends
      done (Left f at e is_end) = left top (top + 1 + 1) 2 0 by objects u (omega arith) f at e is_end

  -- ---- the loop

  -- the pointer to the next unit
  further_on : (v : Value) (by : ℕ) (objects : Memory) (u : Machine)
      → ObjectsFit (functions_of s) a objects u.mem
      → IsKnown objects.shapes (functions_of s) (further v by) → Spans (further v by) unit
      → IsKnown objects.shapes (functions_of s) (further v (by + unit))
      × (added (bits_in objects (further v by)) unit ≡ bits_in objects (further v (by + unit)))
  further_on (Live object low high offset permissions) by objects u f held spans =
      let q = steps_on (functions_of s) a objects.shapes f.spread
      (further (Live object low high offset permissions) by) unit held spans in
      let top = (f.spread.placed object held.shape held.there).to in
      let inside = held.inside in
      let high_is = spans.1 in
      let is_next : stepped (further (Live object low high offset permissions) by) unit
      ≡ further (Live object low high offset permissions) (by + unit) =
      ap (λ n. Live object low high n permissions)
      (let sum : (offset + by) % 2 ^ 64 + unit ≡ (offset + (by + unit)) % 2 ^ 64 = omega arith in sum) in (
        subst (IsKnown objects.shapes (functions_of s)) is_next q.0,
        q.1 ∙ ap (bits_in objects) is_next,
      )
  further_on (Int y) by objects u f known spans = absurd spans
  further_on (Fun y) by objects u f known spans = absurd spans
  further_on (Raw address upper) by objects u f known spans = absurd spans

  extended_unit : extended (pos unit) ≡ unit
  unfolding kept_of
  extended_unit = by is
    where
      by : IsUnit unit → unit % 2 ^ 64 ≡ unit
      by (inl e) = omega arith
      by (inr (inl e)) = omega arith
      by (inr (inr (inl e))) = omega arith
      by (inr (inr (inr (inl e)))) = omega arith
      by (inr (inr (inr (inr e)))) = omega arith

  module _ (top : ℕ) (has : HasAt code top (copy_loop unit)) where
    abbrev last : ℕ
    last = top + 1 + 1 + 1 + 1 + 1

    record Rounded (u : Machine) (by k : ℕ) (new : Memory) : Type 0 where
      after : Machine
      leads : Leads 5 u after
      still : AtUnit after last new (by + unit)
      count : register after 30 ≡ null_at k

    -- behind a unit that was copied, up to the branch
    round : (u : Machine) (by k : ℕ) (objects new : Memory) → suc k < 2 ^ 64 → register u 30 ≡ null_at (suc k)
        → Behind u top objects by new → Rounded u by k new
    round u by k objects new small count b =
        let v = b.after in
        let t' = over_objects new in
        let fit = b.still.point.fits.objects in
        let source_on = further_on source by new v fit b.still.source_known b.source_spans in
        let target_on = further_on target by new v fit b.still.target_known b.target_spans in
        let c = bits_in new (further source (by + unit)) in
        let d = bits_in new (further target (by + unit)) in
        let mid : ℕ = top + 1 + 1 in
        let first = got s code x here t' u v 2 mid b.leads b.still.point 28 28 1 c (omega arith)
        (moves_by s code x v mid 28 (pos unit) (bits_in new (further source by)) c
        (there s code x here mid t' v b.still.point) has.1.1.0 (omega arith) (omega arith) b.still.reads
        (ap (added (bits_in new (further source by))) extended_unit ∙ source_on.1)) in
        let second = got s code x here t' u first.to 3 (mid + 1) first.leads first.point 29 29 1 d (omega arith)
        (moves_by s code x first.to (mid + 1) 29 (pos unit) (bits_in new (further target by)) d
        (there s code x here (mid + 1) t' first.to first.point) has.1.1.1.0 (omega arith) (omega arith)
        (first.others 29 (λ e. absurd (omega (arith, e))) ∙ b.still.writes)
        (ap (added (bits_in new (further target by))) extended_unit ∙ target_on.1)) in
        let third = got s code x here t' u second.to 4 (mid + 1 + 1) second.leads second.point 30 30 1 (null_at k)
        (omega arith)
        (counts_down s code x second.to (mid + 1 + 1) 30 k
        (there s code x here (mid + 1 + 1) t' second.to second.point) has.1.1.1.1.0 (omega arith) (omega arith) small
        (second.others 30 (λ e. absurd (omega (arith, e))) ∙ first.others 30 (λ e. absurd (omega (arith, e))) ∙ b.count
        ∙ count)) in
        record {
          after = third.to;
          leads = third.leads;
          still = record {
            point = third.point;
            reads = third.others 28 (λ e. absurd (omega (arith, e))) ∙ second.others 28 (λ e. absurd (omega (arith, e)))
                ∙ first.holds;
            writes = third.others 29 (λ e. absurd (omega (arith, e))) ∙ second.holds;
            source_known = source_on.0;
            target_known = target_on.0;
          };
          count = third.holds;
        }

    hopped : (u : Machine) (mid by : ℕ) (objects : Memory) → AtUnit u last objects by
        → AtUnit (landed s code x u mid) mid objects by
    hopped u mid by objects h = record {
      point = lands s code x here (copy_i ∷ rest) (λ temp live. live) last mid (over_objects objects) u h.point;
      reads = h.reads;
      writes = h.writes;
      source_known = h.source_known;
      target_known = h.target_known;
    }

    -- more units behind one that was copied
    more : (u n : Machine) (units by : ℕ) (objects new : Memory) → unit_copied objects by ≡ Ok new → Leads 6 u n
        → Ended top (last + 1) (6 * suc units) (suc units) (by + unit) new n
        → Ended top (last + 1) (6 * suc (suc units)) (suc (suc units)) by objects u
    more u n units by objects new e leads (All new' means count le after on point) =
        All new' (λ k. one_on (suc units) by objects new e k ∙ means k) (6 + count) (omega arith) after
        (join 6 count u n after leads on) point
    more u n units by objects new e leads (AtLoad c means count lt after on ends) =
        AtLoad c (λ k. one_on (suc units) by objects new e k ∙ means k) (6 + count) (omega arith) after
        (join 6 count u n after leads on) ends
    more u n units by objects new e leads (AtStore c means count lt after on ends) =
        AtStore c (λ k. one_on (suc units) by objects new e k ∙ means k) (6 + count) (omega arith) after
        (join 6 count u n after leads on) ends
    more u n units by objects new e leads (Elsewhere at means) =
        Elsewhere at (λ k. one_on (suc units) by objects new e k ∙ means k)

    -- the last round
    last_round : (by : ℕ) (u : Machine) (objects : Memory) → register u 30 ≡ null_at 1 → UnitDone u top objects by
        → Ended top (last + 1) 6 1 by objects u
    last_round by u objects count (Copied new e b) =
        let r = round u by 0 objects new (omega arith) count b in
        let n : Machine = landed s code x r.after (last + 1) in
        let past = goes_past s code x r.after last 30 (negsuc 19)
        (there s code x here last (over_objects new) r.after r.still.point) has.1.1.1.1.1.0 r.count in
        All new (one_on 0 by objects new e) 6 (omega arith) n (join 5 1 u r.after n r.leads (n, past, refl))
        (hopped r.after (last + 1) (by + unit) new r.still).point
    last_round by u objects count (Unread c e ends) = unread top (last + 1) 6 0 by objects u (omega arith) c e ends
    last_round by u objects count (Unwritten c e after leads ends) =
        unwritten top (last + 1) 6 0 by objects u (omega arith) c e after leads ends
    last_round by u objects count (Left f at e is_end) =
        left top (last + 1) 6 0 by objects u (omega arith) f at e is_end

    -- and one that others follow
    abbrev Follow : ℕ → Type 0
    Follow units = (by : ℕ) (n : Machine) (objects : Memory) → AtUnit n top objects by
        → register n 30 ≡ null_at (suc units) → Ended top (last + 1) (6 * suc units) (suc units) by objects n

    one_round : (units by : ℕ) (u : Machine) (objects : Memory) → suc (suc units) < 2 ^ 64
        → register u 30 ≡ null_at (suc (suc units)) → Follow units → UnitDone u top objects by
        → Ended top (last + 1) (6 * suc (suc units)) (suc (suc units)) by objects u
    one_round units by u objects small count follow (Copied new e b) =
        let r = round u by (suc units) objects new small count b in
        let n : Machine = landed s code x r.after top in
        let inside = slice_get_within code last _ has.1.1.1.1.1.0 in
        let room = x.room in
        let text_top = x.legal.in_range.1 in
        let back = goes_back s code x r.after last top 30 units (negsuc 19)
        (there s code x here last (over_objects new) r.after r.still.point) has.1.1.1.1.1.0 (omega arith) r.count
        (omega arith)
        (ap (λ y. (place g last + y) % 2 ^ 64) minus_twenty ∙ omega (arith, inside, room, text_top)) in
        more u n units by objects new e (join 5 1 u r.after n r.leads (n, back, refl))
        (follow (by + unit) n new (hopped r.after top (by + unit) new r.still) r.count)
    one_round units by u objects small count follow (Unread c e ends) =
        unread top (last + 1) (6 * suc (suc units)) (suc units) by objects u (omega arith) c e ends
    one_round units by u objects small count follow (Unwritten c e after leads ends) =
        unwritten top (last + 1) (6 * suc (suc units)) (suc units) by objects u (omega arith) c e after leads ends
    one_round units by u objects small count follow (Left f at e is_end) =
        left top (last + 1) (6 * suc (suc units)) (suc units) by objects u (omega arith) f at e is_end

    rounds : (units : ℕ) → suc units < 2 ^ 64 → Follow units
    rounds zero small by u objects h count = last_round by u objects count (unit_done u top objects by h has.0 has.1.0)
    rounds (suc units) small by u objects h count =
        one_round units by u objects small count (rounds units (omega arith))
        (unit_done u top objects by h has.0 has.1.0)

-- ---- all of it

further_none : (shapes : List Shape) (functions : ℕ) (v : Value) → IsKnown shapes functions v → further v 0 ≡ v
further_none shapes functions (Live object low high offset permissions) held =
    let word = held.word in
    ap (λ n. Live object low high n permissions) (let e : (offset + 0) % 2 ^ 64 ≡ offset = omega arith in e)
further_none shapes functions (Int y) known = refl
further_none shapes functions (Fun f) known = refl
further_none shapes functions (Raw address upper) known = refl

module _ (s : Setting) (code : List Instr) (x : IsText s code) (w : World) (p : Typed) (running : Running)
    (from to bytes unit : ℕ) (from_pos to_pos : Pos) (rest : List TacInstr)
    (sel : IsSelectable s p running (instr.CopyUnits from to bytes unit from_pos to_pos) rest) (at : ℕ)
    (t : State modes.Store) (m : Machine)
    (point : IsAtPoint s code (before running (instr.CopyUnits from to bytes unit from_pos to_pos) rest) at t m)
    (kinded : AreOfKinds (kinds_in s running) t.vars) (skip : ℕ) (ws : List Instr) (has_words : HasAt code at ws) where
  abbrev this : TacInstr
  this = instr.CopyUnits from to bytes unit from_pos to_pos

  abbrev start : Point
  start = before running this rest

  abbrev units : ℕ
  units = bytes / unit

  abbrev Result_is : Type 0
  Result_is = StructCopied s code w p running this rest ws from_pos to_pos (at + skip) at t m

  is_whole : units_fit bytes unit ≡ true
  is_whole = (and_parts (has_capability p sel.d (kinds_in s running) (code_in s running) from
      && has_capability p sel.d (kinds_in s running) (code_in s running) to) (units_fit bytes unit) sel.fits).1

  is_unit_of : IsUnit unit
  is_unit_of = unit_is unit (and_parts (is_unit unit) _ is_whole).0

  -- the units are few
  few_units : 6 * units ≤ 128 * ((bytes + 15) / 16)
  few_units = by is_unit_of
    where
      by : IsUnit unit → 6 * (bytes / unit) ≤ 128 * ((bytes + 15) / 16)
      by (inl e) = rw e (omega arith)
      by (inr (inl e)) = rw e (omega arith)
      by (inr (inr (inl e))) = rw e (omega arith)
      by (inr (inr (inr (inl e)))) = rw e (omega arith)
      by (inr (inr (inr (inr e)))) = rw e (omega arith)

  abbrev Ends_at : (top end most units : ℕ) → Machine → Type 0
  Ends_at top end most n u =
      Ended s code x w p running from to bytes unit from_pos to_pos rest t is_unit_of top end most n 0 t.mem.memory u

  meant : (n : ℕ) → units ≡ n → (k : Way → State modes.Store → Fate)
      → effect (operations (placed_plan s.map)) w p (kinds_in s running) this t k
      ≡ copy_units (operations (placed_plan s.map)) w n unit 0 (At from_pos (temp_in t from))
      (At to_pos (temp_in t to)) t
      (λ _ u. k On u)
  meant n e k =
      ap (λ y. copy_units (operations (placed_plan s.map)) w y unit 0 (At from_pos (temp_in t from))
      (At to_pos (temp_in t to)) t (λ _ u. k On u)) e

  -- behind so many acts that lead to the first unit
  finish : (n front most end : ℕ) (u : Machine) → units ≡ n → Leads front m u
      → front + most ≤ copy_cost this → end ≡ at + length ws
      → Ends_at (at + skip) end most n u → Result_is
  finish n front most end u is leads le end_is (All new means count few after on there_is) =
      Goes (record {
        next = record t { mem = with_memory t.mem new };
        means = λ k. meant n is k ∙ means (λ _ u. k On u);
        kinded = kinded;
        does = record {
          count = front + count;
          to = after;
          ge = omega arith;
          le = omega arith;
          leads = join front count m u after leads on;
          point = record {
            fits = moves_on_law s start (record t { mem = with_memory t.mem new }) after there_is.fits rest
                (λ temp live. reads_as_before s running this rest refl refl temp live);
            counter = there_is.counter ∙ ap (counter_at (ground_of s code)) end_is;
          };
        };
      })
  finish n front most end u is leads le end_is (AtLoad c means count few after on ends) =
      StopsReading (record {
        cause = c;
        means = λ k. meant n is k ∙ means (λ _ u. k On u);
        count = front + count;
        to = after;
        lt = omega arith;
        leads = join front count m u after leads on;
        ends = ends;
      })
  finish n front most end u is leads le end_is (AtStore c means count few after on ends) =
      StopsWriting (record {
        cause = c;
        means = λ k. meant n is k ∙ means (λ _ u. k On u);
        count = front + count;
        to = after;
        lt = omega arith;
        leads = join front count m u after leads on;
        ends = ends;
      })
  finish n front most end u is leads le end_is (Elsewhere source means) =
      Leaves source (λ k. meant n is k ∙ means (λ _ u. k On u))

  -- ---- the pointers

  record Pointers (front : List Instr) : Type 0 where
    there_now : Machine
    leads : Leads (length front) m there_now
    now_at : IsAtPoint s code start (at + length front) t there_now
    reads : register there_now 28 ≡ bits s code x start t (temp_in t from)
    writes : register there_now 29 ≡ bits s code x start t (temp_in t to)
    few : length front ≤ 6

  pointers : (front : List Instr) → Brings (selecting s running.fun) from to front → HasAt code at front →
      Pointers front
  pointers front b has =
      let q = subst (HasAt code at) b.are has in
      let first = brings s code x start t m m 0 at refl point from 28 (now (zero, refl)) (omega arith) (omega arith)
      b.finds b.first (has_front code at b.finds b.others q) in
      let second = brings s code x start t m first.to (0 + length b.finds) (at + length b.finds) first.leads first.point
      to 29 (now (suc zero, refl)) (omega arith) (omega arith) b.others b.second
      (has_back code at b.finds b.others q) in
      let one_few = bring_few s running.fun from 28 b.finds b.first in
      let two_few = bring_few s running.fun to 29 b.others b.second in
      let long = ap length b.are ∙ length-append b.finds b.others in
      let count : 0 + length b.finds + length b.others ≡ length front = omega arith in
      let end : at + length b.finds + length b.others ≡ at + length front = omega arith in
      record {
        there_now = second.to;
        leads = subst (λ n. Leads n m second.to) count second.leads;
        now_at = subst (λ n. IsAtPoint s code start n t second.to) end second.point;
        reads = second.others 28 (λ e. absurd (omega (arith, e))) ∙ first.holds;
        writes = second.holds;
        few = omega arith;
      }

  known : (temp : ℕ) → IsLive s start temp → IsKnown t.mem.memory.shapes (functions_of s) (temp_in t temp)
  known temp live = point.fits.calls.1.known temp live

  abbrev Begun : Machine → ℕ → Type 0
  Begun u mid =
      AtUnit s code x w p running from to bytes unit from_pos to_pos rest t is_unit_of u mid t.mem.memory 0

  begun : (u : Machine) (mid : ℕ) → IsAtPoint s code start mid t u
      → register u 28 ≡ bits s code x start t (temp_in t from) → register u 29 ≡ bits s code x start t (temp_in t to)
      → Begun u mid
  begun u mid now_at reads writes =
      let source_known = known from (now (zero, refl)) in
      let target_known = known to (now (suc zero, refl)) in
      let source_is = further_none t.mem.memory.shapes (functions_of s) (temp_in t from) source_known in
      let target_is = further_none t.mem.memory.shapes (functions_of s) (temp_in t to) target_known in
      record {
        point = now_at;
        reads = reads ∙ ap (bits s code x start t) (sym source_is);
        writes = writes ∙ ap (bits s code x start t) (sym target_is);
        source_known = subst (IsKnown t.mem.memory.shapes (functions_of s)) (sym source_is) source_known;
        target_known = subst (IsKnown t.mem.memory.shapes (functions_of s)) (sym target_is) target_known;
      }

  -- ---- by the words

  no_unit : units ≡ 0 → ws ≡ [] → Result_is
  no_unit e none =
      Goes (record {
        next = t;
        means = λ k. meant 0 e k;
        kinded = kinded;
        does = record {
          count = 0;
          to = m;
          ge = omega arith;
          le = omega arith;
          leads = refl;
          point = record {
            fits = moves_on_law s start t m point.fits rest
                (λ temp live. reads_as_before s running this rest refl refl temp live);
            counter = point.counter ∙ ap (counter_at (ground_of s code))
                ((let z : at ≡ at + 0 = omega arith in z) ∙ sym (ap (λ y. at + length y) none));
          };
        };
      })

  one_unit : units ≡ 1 → (front : List Instr) → Brings (selecting s running.fun) from to front → skip ≡ length front
      → ws ≡ front ++ unit_words unit → Result_is
  one_unit e front b skips are =
      let q = subst (HasAt code at) are has_words in
      let f = pointers front b (has_front code at front (unit_words unit) q) in
      let few = f.few in
      let top : ℕ = at + length front in
      let end : top + 1 + 1 ≡ at + length ws =
      sym (ap (λ y. at + length y) are ∙ omega (arith, length-append front (unit_words unit))) in
      finish 1 (length front) 2 (top + 1 + 1) f.there_now e f.leads (omega arith) end
      (subst (λ n. Ends_at (at + n) (top + 1 + 1) 2 1 f.there_now) (sym skips)
      (alone s code x w p running from to bytes unit from_pos to_pos rest t is_unit_of f.there_now top 0 t.mem.memory
      (begun f.there_now top f.now_at f.reads f.writes) (has_back code at front (unit_words unit) q)))

  by_rounds : 0 < units → (front number : List Instr) → Brings (selecting s running.fun) from to front
      → MakesNumber 30 units number → length number ≤ 2 → skip ≡ length front + length number
      → ws ≡ front ++ (number ++ copy_loop unit) → units < 2 ^ 31 → Result_is
  by_rounds some front number b makes number_few skips are small =
      let q = subst (HasAt code at) are has_words in
      let tail = has_back code at front (number ++ copy_loop unit) q in
      let f = pointers front b (has_front code at front (number ++ copy_loop unit) q) in
      let few = f.few in
      let late : ℕ = at + length front in
      let top : ℕ = late + length number in
      let c = number_got s code x start t m f.there_now (length front) late f.leads f.now_at 30 units (omega arith)
      (omega arith) number makes (has_front code late number (copy_loop unit) tail) in
      let left_is : units ≡ suc (units - 1) = omega arith in
      let place_is : at + (length front + length number) ≡ top = omega arith in
      let end : top + 1 + 1 + 1 + 1 + 1 + 1 ≡ at + length ws =
      sym (ap (λ y. at + length y) are
      ∙ omega (arith, length-append front (number ++ copy_loop unit), length-append number (copy_loop unit))) in
      let more_few = few_units in
      finish (suc (units - 1)) (length front + length number) (6 * suc (units - 1)) (top + 1 + 1 + 1 + 1 + 1 + 1) c.to
      left_is c.leads (omega arith) end
      (subst (λ n. Ends_at n (top + 1 + 1 + 1 + 1 + 1 + 1) (6 * suc (units - 1)) (suc (units - 1)) c.to)
      (sym (ap (λ n. at + n) skips ∙ place_is))
      (rounds s code x w p running from to bytes unit from_pos to_pos rest t is_unit_of top
      (has_back code late number (copy_loop unit) tail) (units - 1) (omega arith) 0 c.to t.mem.memory
      (begun c.to top c.point (c.others 28 (λ e. absurd (omega (arith, e))) ∙ f.reads)
      (c.others 29 (λ e. absurd (omega (arith, e))) ∙ f.writes))
      (c.holds ∙ ap null_at left_is)))

pub struct_copies_run_law : StructCopiesRun
struct_copies_run_law s code x w p running from to bytes unit from_pos to_pos rest sel at t m point kinded skip ws form
    has = by form
  where
    by : CopyWords (selecting s running.fun) from to (bytes / unit) unit skip ws
        → StructCopied s code w p running (instr.CopyUnits from to bytes unit from_pos to_pos) rest ws from_pos to_pos
        (at + skip) at t m
    by (Nothing e none) =
        no_unit s code x w p running from to bytes unit from_pos to_pos rest sel at t m point kinded skip ws has e none
    by (One e front b skips are) =
        one_unit s code x w p running from to bytes unit from_pos to_pos rest sel at t m point kinded skip ws has e
        front
        b skips are
    by (Round some small front number b makes few skips are) =
        by_rounds s code x w p running from to bytes unit from_pos to_pos rest sel at t m point kinded skip ws has some
        front number b makes few skips are small
