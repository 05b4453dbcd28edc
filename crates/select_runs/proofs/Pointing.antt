-- Capabilities that are moved and narrowed: what they become in the meaning, the machine makes of them.
use Rattle.std.proofs.Common.{◌≡◌, ℕ, zero, suc, ◌+◌, ◌<◌, ◌≤◌, Bool, true, false, ◌&&◌, List, ◌∷◌, length, Some, refl}
use Rattle.std.proofs.Common.{sym, ap, ◌∙◌, subst, arith}
use Rattle.std.specs.Prelude.{slice_set}
use Rattle.std.proofs.lemmas.Bool.{and_parts, ltb-true}
use Rattle.cap_ops.specs.declared.capability.Cap.{Cap}
use Rattle.cap_ops.specs.Capability.{added, narrowed, narrowed_exactly, null_at}
use Rattle.rv_instr.specs.declared.instr.Instr.{Instr}
use Rattle.rv_instr.specs.declared.instr.Instr.TheVariants.{CapReg, CapImm}
use Rattle.rv_instr.specs.declared.ops.CapImmOp.TheVariants.{Cincoffsetimm}
use Rattle.rv_instr.specs.declared.ops.CapRegOp.TheVariants.{Cincoffset}
use Rattle.cap_machine.specs.declared.machine.Machine.{Machine}
use Rattle.cap_machine.specs.Integers.{extended}
use Rattle.cap_machine.specs.State.{register, integer}
use Rattle.cap_machine.specs.Rows.{row, cap_reg_row, cap_imm_row, set}
use Rattle.c_tree.specs.declared.typed.Typed.{Typed}
use Rattle.obj_mem.specs.Objects.{base_in}
use Rattle.obj_mem.specs.Pointers.{placed_move, placed_narrow}
use Rattle.obj_mem.specs.Table.{addresses_of}
use Rattle.obj_mem.specs.Values.{Value, capability_of}
use Rattle.cheri_c_sem.specs.Kinds.{Kind, Plain, Capability, number_of}
use Rattle.cheri_c_sem.specs.Modes as modes
use Rattle.cheri_c_sem.specs.Modes.{operations}
use Rattle.cheri_c_sem.specs.Steps.{State, Fate}
use Rattle.tac_ir.specs.Costs.{cost, amount_cost}
use Rattle.tac_ir.specs.Effects.{amount_of, kind_at, temp_in}
use Rattle.tac_ir.specs.Meaning.{Running}
use Rattle.tac_ir.specs.Temps.{IsIn as IsAmong, in_amount, reads, now}
use Rattle.tac_ir.specs.WellFormed.{has, has_capability, is_temp, is_capability, amount_fits, same_kind}
use Rattle.tac_ir.specs.declared.code.Amount.{Amount}
use Rattle.tac_ir.specs.declared.code.Amount.TheVariants as amount
use Rattle.tac_ir.specs.declared.code.TacInstr.{TacInstr}
use Rattle.tac_ir.specs.declared.code.TacInstr.TheVariants as instr
use Rattle.place_inject.specs.Values.{IsKnown}
use Rattle.place_inject.specs.Steps.{is_integer}
use Rattle.place_inject.specs.Pointers.{PointersFit}
use Rattle.place_inject.specs.Frames.{Setting, functions_of}
use Rattle.place_inject.specs.Spills.{StackIsThere}
use Rattle.place_inject.proofs.Pointing.{pointers_fit_law}
use Rattle.place_inject.proofs.Results.{numbers_read_back_law}
use Rattle.select_words.specs.Standing.{HasAt}
use Rattle.select_words.specs.Emitted.{IsNumber}
use Rattle.select_words.specs.Forms.{OfOne, OfTwo, Amounts}
use Rattle.select_words.specs.Capabilities.{exact_op, OneOfTwo, Advance, Offsets, Far, Near, NearTemp}
use Rattle.select_runs.specs.Kinds.{IsOfKind, AreOfKinds}
use Rattle.select_runs.specs.Operands.{IsText, IsAtPoint}
use Rattle.select_runs.specs.Results.{Arrives, before, behind, kinds_in, code_in, IsSelectable}
use Rattle.select_runs.specs.Instructions.{NarrowsRun, OffsetsRun}
use Rattle.select_runs.proofs.Numbers.{null_address}
use Rattle.select_runs.proofs.Kinded.{kinded_set, has_kind}
use Rattle.select_runs.proofs.Working.{integer_of, integer_bits, one_only, within, of_one, of_two, amount_in}
use Rattle.select_runs.proofs.Working.{amount_words, amount_comes}
use Rattle.select_runs.specs.Selecting.{selecting}

-- ---- values by their kinds

pub pointer_of : (k : Kind) (v : Value) → is_capability k ≡ true → IsOfKind k v → is_integer v ≡ false
pointer_of (Plain k) v i o = cc
pointer_of (Capability signed) v i o = o

pub pointer_kind : (k : Kind) (v : Value) → is_capability k ≡ true → is_integer v ≡ false → IsOfKind k v
pointer_kind (Plain k) v i o = cc
pointer_kind (Capability signed) v i o = o

pub same_capability : (a b : Kind) → same_kind a b ≡ true → is_capability b ≡ true → is_capability a ≡ true
same_capability (Plain j) (Plain k) h i = cc
same_capability (Capability s) (Capability s') h i = refl
same_capability (Plain j) (Capability s) h i = cc
same_capability (Capability s) (Plain k) h i = cc

-- ---- amounts

among_amount : (base : ℕ) (by : Amount) (k : ℕ) → by ≡ amount.Temp k → IsAmong k (base ∷ in_amount by)
among_amount base by k e = subst (λ y. IsAmong k (base ∷ in_amount y)) (sym e) (suc zero, refl)

amount_gives : (by : Amount) (t : State modes.Store) (k : ℕ → State modes.Store → Fate) → amount_of by t k ≡ k
    (amount_in t by) t
amount_gives (amount.Temp y) t k = refl
amount_gives (amount.Number n) t k = refl

amount_dear : (by : Amount) → amount_words by + 1 + 6 ≤ 6 + amount_cost by
amount_dear (amount.Temp y) = omega arith
amount_dear (amount.Number n) = omega arith

amount_some : (by : Amount) → 1 + 6 ≤ 6 + amount_cost by
amount_some (amount.Temp y) = omega arith
amount_some (amount.Number n) = omega arith

-- ---- an instruction that makes a capability of a capability

module _ (s : Setting) (code : List Instr) (x : IsText s code) (stack : StackIsThere s) (p : Typed) (running : Running)
    (i : TacInstr) (rest : List TacInstr) (to base : ℕ) (read : IsAmong base (reads i))
    (sel : IsSelectable s p running i rest) (at : ℕ)
    (t : State modes.Store) (m : Machine) (point : IsAtPoint s code (before running i rest) at t m)
    (kinded : AreOfKinds (kinds_in s running) t.vars)
    (is_pointer : has_capability p sel.d (kinds_in s running) (code_in s running) base ≡ true) where
  base_parts : (base < length (kinds_in s running)) × (is_capability (kind_at (kinds_in s running) base) ≡ true)
  base_parts =
      let q = and_parts (is_temp p sel.d (kinds_in s running) (code_in s running) base)
      (is_capability (kind_at (kinds_in s running) base)) is_pointer in
      (ltb-true base (length (kinds_in s running)) q.0, q.1)

  pub base_pointer : (is_integer (temp_in t base) ≡ false) × IsKnown t.mem.memory.shapes (functions_of s)
      (temp_in t base)
  base_pointer = (
    pointer_of (kind_at (kinds_in s running) base) (temp_in t base) base_parts.1 (kinded.each base base_parts.0),
    point.fits.calls.1.known base (now read),
  )

  pub fitting : PointersFit (functions_of s) (addresses_of s.map) t.mem.memory.shapes (temp_in t base)
  fitting =
      pointers_fit_law (functions_of s) (addresses_of s.map) t.mem.memory.shapes point.fits.objects.spread
      (temp_in t base)
      base_pointer.0 base_pointer.1

  pub pointer_kinded : has p sel.d (kinds_in s running) (code_in s running) to (kind_at
      (kinds_in s running) base) ≡ true
      → (v : Value) → is_integer v ≡ false → AreOfKinds (kinds_in s running) (slice_set t.vars to (Some v))
  pointer_kinded to_fits v not_int =
      let h = has_kind p sel.d (kinds_in s running) (code_in s running) to (kind_at
      (kinds_in s running) base) to_fits in
      kinded_set (kinds_in s running) t.vars to v kinded h.0
      (pointer_kind (kind_at (kinds_in s running) to) v
      (same_capability (kind_at (kinds_in s running) to) (kind_at (kinds_in s running) base) h.1 base_parts.1) not_int)

-- what is asked of a result that is made of a capability and an amount
pub three_parts : (a b c : Bool) → (a && b && c) ≡ true → (a ≡ true) × (b ≡ true) × (c ≡ true)
three_parts a b c e = let q = and_parts (a && b) c e in let r = and_parts a b q.0 in (r.0, r.1, q.1)

-- ---- narrowing

module _ (s : Setting) (code : List Instr) (x : IsText s code) (stack : StackIsThere s) (p : Typed) (running : Running)
    (to base : ℕ) (by : Amount) (exact : Bool) (rest : List TacInstr)
    (sel : IsSelectable s p running (instr.Narrow to base by exact) rest) (at : ℕ) (t : State modes.Store) (m : Machine)
    (point : IsAtPoint s code (before running (instr.Narrow to base by exact) rest) at t m)
    (kinded : AreOfKinds (kinds_in s running) t.vars) where
  abbrev narrow_i : TacInstr
  narrow_i = instr.Narrow to base by exact

  abbrev wide : Cap
  wide = capability_of (addresses_of s.map) (base_in t.mem.memory.shapes) (temp_in t base)

  narrow_parts : (has p sel.d (kinds_in s running) (code_in s running) to (kind_at (kinds_in s running) base) ≡ true)
      × (has_capability p sel.d (kinds_in s running) (code_in s running) base ≡ true)
      × (amount_fits p sel.d (kinds_in s running) (code_in s running) by ≡ true)
  narrow_parts = three_parts _ _ _ sel.fits

  abbrev narrower : Value
  narrower = placed_narrow (addresses_of s.map) (base_in t.mem.memory.shapes) (temp_in t base) (amount_in t by) exact

  narrow_fits : PointersFit (functions_of s) (addresses_of s.map) t.mem.memory.shapes (temp_in t base)
  narrow_fits = fitting s code x stack p running narrow_i rest to base
      (zero, refl) sel at t m point kinded narrow_parts.1

  narrows : (e : Bool) → exact ≡ e → (is_integer narrower ≡ false) × IsKnown t.mem.memory.shapes
      (functions_of s) narrower
      × ((n : Machine) (r a b : ℕ) → register n a ≡ wide → register n b ≡ null_at (amount_in t by)
      → row n (CapReg (exact_op exact) r a b) ≡ set n r (capability_of (addresses_of s.map)
      (base_in t.mem.memory.shapes) narrower))
  unfolding row cap_reg_row
  narrows true e =
      let f = narrow_fits.narrows_exactly (amount_in t by) in
      rw e (
        f.0,
        f.1,
        λ n r a b ea eb. ap (λ c. set n r (narrowed_exactly c (integer n b))) ea
            ∙ ap (λ (c : Cap). set n r (narrowed_exactly wide c.fields.address)) eb
            ∙ ap (λ k. set n r (narrowed_exactly wide k)) (null_address (amount_in t by)) ∙ ap (set n r) f.2,
      )
  narrows false e =
      let f = narrow_fits.narrows (amount_in t by) in
      rw e (
        f.0,
        f.1,
        λ n r a b ea eb. ap (λ c. set n r (narrowed c (integer n b))) ea
            ∙ ap (λ (c : Cap). set n r (narrowed wide c.fields.address)) eb
            ∙ ap (λ k. set n r (narrowed wide k)) (null_address (amount_in t by)) ∙ ap (set n r) f.2,
      )

  narrow_does : (ws : List Instr) →
      OfTwo (selecting s running.fun) to base (Amounts (selecting s running.fun) by) (OneOfTwo
      (exact_op exact)) ws
      → HasAt code at ws
      → Arrives s code (behind running rest) 0 (cost narrow_i) (at + length ws) (record t {
        vars = slice_set t.vars to
            (Some narrower);
      }) m
  narrow_does ws o has =
      let f = narrows exact refl in
      within s code (behind running rest) 0 (amount_words by + 1 + 6) (cost narrow_i) (at + length ws) _ m
      (amount_dear by)
      (of_two s code x stack p running narrow_i rest to refl refl (λ n h. h) sel t m at point base
      (zero, refl) narrower f.1
      (Amounts (selecting s running.fun) by) (null_at (amount_in t by)) (amount_words by)
      (amount_comes s code x stack p running narrow_i rest to refl refl (λ n h. h) sel t m at point base
      (zero, refl) kinded by narrow_parts.2
      (among_amount base by))
      (OneOfTwo (exact_op exact))
      (λ n mid a b here ea eb r us e range hs.
      one_only s code x (before running narrow_i rest) t n mid here (CapReg
      (exact_op exact) r a b) r _ us e hs refl range (f.2 n r a b ea eb))
      1 (λ r a b us e. subst (λ y. length y ≤ 1) (sym e) (omega arith)) ws o has)

  narrow_kinded : AreOfKinds (kinds_in s running) (slice_set t.vars to (Some narrower))
  narrow_kinded =
      pointer_kinded s code x stack p running narrow_i rest to base
      (zero, refl) sel at t m point kinded narrow_parts.1 narrow_parts.0 narrower
      (narrows exact refl).0

pub narrows_run_law : NarrowsRun
unfolding operations
narrows_run_law s code x stack w p running (instr.Narrow to base by exact) rest is sel at t m point kinded ws form has
    = record {
      next = record t {
        vars = slice_set t.vars to (Some (narrower s code x stack p running to base by exact rest sel at t
            m point kinded));
      };
      means = λ c. amount_gives by t _;
      kinded = narrow_kinded s code x stack p running to base by exact rest sel at t m point kinded;
      does = narrow_does s code x stack p running to base by exact rest sel at t m point kinded ws form has;
    }
narrows_run_law s code x stack w p running i rest is sel at t m point kinded ws form has = absurd is

-- ---- moves

module _ (s : Setting) (code : List Instr) (x : IsText s code) (stack : StackIsThere s) (p : Typed) (running : Running)
    (to base : ℕ) (by : Amount) (rest : List TacInstr) (sel : IsSelectable s p running (instr.Offset to base by) rest)
    (at : ℕ)
    (t : State modes.Store) (m : Machine) (point : IsAtPoint s code (before running
    (instr.Offset to base by) rest) at t m)
    (kinded : AreOfKinds (kinds_in s running) t.vars) where
  abbrev offset_i : TacInstr
  offset_i = instr.Offset to base by

  abbrev unmoved : Cap
  unmoved = capability_of (addresses_of s.map) (base_in t.mem.memory.shapes) (temp_in t base)

  offset_parts : (has p sel.d (kinds_in s running) (code_in s running) to (kind_at (kinds_in s running) base) ≡ true)
      × (has_capability p sel.d (kinds_in s running) (code_in s running) base ≡ true)
      × (amount_fits p sel.d (kinds_in s running) (code_in s running) by ≡ true)
  offset_parts = three_parts _ _ _ sel.fits

  abbrev further : Value
  further = placed_move (addresses_of s.map) (base_in t.mem.memory.shapes) (temp_in t base) (amount_in t by)

  offset_fits : (is_integer further ≡ false) × IsKnown t.mem.memory.shapes (functions_of s) further
      × (added unmoved (amount_in t by) ≡ capability_of (addresses_of s.map) (base_in t.mem.memory.shapes) further)
  offset_fits =
      (fitting s code x stack p running offset_i rest to base
      (zero, refl) sel at t m point kinded offset_parts.1).moves (amount_in t by)

  abbrev Offset_behind : List Instr → Type 0
  Offset_behind ws = Arrives s code (behind running rest) 0 (cost offset_i) (at + length ws)
      (record t { vars = slice_set t.vars to (Some further) }) m

  far_does : (ws : List Instr) →
      OfTwo (selecting s running.fun) to base (Amounts (selecting s running.fun) by) (OneOfTwo Cincoffset) ws
      → HasAt code at ws
      → Offset_behind ws
  unfolding row cap_reg_row
  far_does ws o has =
      within s code (behind running rest) 0 (amount_words by + 1 + 6) (cost offset_i) (at + length ws) _ m
      (amount_dear by)
      (of_two s code x stack p running offset_i rest to refl refl (λ n h. h) sel t m at point base
      (zero, refl) further offset_fits.1
      (Amounts (selecting s running.fun) by) (null_at (amount_in t by)) (amount_words by)
      (amount_comes s code x stack p running offset_i rest to refl refl (λ n h. h) sel t m at point base
      (zero, refl) kinded by offset_parts.2
      (among_amount base by))
      (OneOfTwo Cincoffset)
      (λ n mid a b here ea eb r us e range hs.
      one_only s code x (before running offset_i rest) t n mid here (CapReg Cincoffset r a b) r _ us e hs refl range
      (ap (λ c. set n r (added c (integer n b))) ea
      ∙ ap (λ (c : Cap). set n r (added unmoved c.fields.address)) eb
      ∙ ap (λ k. set n r (added unmoved k)) (null_address (amount_in t by)) ∙ ap (set n r) offset_fits.2))
      1 (λ r a b us e. subst (λ y. length y ≤ 1) (sym e) (omega arith)) ws o has)

  near_does : (n : ℕ) → n ≡ amount_in t by → (ws : List Instr) → OfOne (selecting s running.fun) to base (Advance n) ws
      → HasAt code at ws
      → Offset_behind ws
  unfolding row cap_imm_row
  near_does n same ws o has =
      within s code (behind running rest) 0 (1 + 6) (cost offset_i) (at + length ws) _ m (amount_some by)
      (of_one s code x stack p running offset_i rest to refl refl (λ n h. h) sel t m at point base
      (zero, refl) further offset_fits.1
      (Advance n)
      (λ u mid a here ea r us e range hs.
      one_only s code x (before running offset_i rest) t u mid here
      (CapImm Cincoffsetimm r a e.0) r _ us e.2 hs refl range
      (ap (λ c. set u r (added c (extended e.0))) ea
      ∙ ap (λ k. set u r (added unmoved k)) (e.1 ∙ same) ∙ ap (set u r) offset_fits.2))
      1 (λ r a us e. subst (λ y. length y ≤ 1) (sym e.2) (omega arith)) ws o has)

  -- a temp that is a number holds it
  numbered : (k n : ℕ) → by ≡ amount.Temp k → IsNumber (selecting s running.fun) k n → n ≡ amount_in t by
  numbered k n e is =
      let live = now (among_amount base by k e) in
      let c = (numbers_read_back_law s (before running offset_i rest) t m point.fits k n live is).0 in
      let fits = subst (λ y. amount_fits p sel.d (kinds_in s running) (code_in s running) y ≡ true) e offset_parts.2 in
      let parts = and_parts (is_temp p sel.d (kinds_in s running) (code_in s running) k) _ fits in
      let v_is = integer_of (kind_at (kinds_in s running) k) (temp_in t k) parts.1
      (kinded.each k (ltb-true k (length (kinds_in s running)) parts.0)) in
      sym (null_address n) ∙ sym (ap (λ (d : Cap). d.fields.address) c)
      ∙ ap (λ v. (capability_of (addresses_of s.map) (base_in t.mem.memory.shapes) v).fields.address) v_is
      ∙ ap (λ (d : Cap). d.fields.address) (integer_bits (addresses_of s.map) (base_in t.mem.memory.shapes) (number_of
      (temp_in t k)))
      ∙ null_address (number_of (temp_in t k)) ∙ sym (ap (amount_in t) e)

  offset_does : (ws : List Instr) → Offsets (selecting s running.fun) to base by ws → HasAt code at ws →
      Offset_behind ws
  offset_does ws (Far o) has = far_does ws o has
  offset_does ws (Near n e o) has = near_does n (sym (ap (amount_in t) e)) ws o has
  offset_does ws (NearTemp k n e is o) has = near_does n (numbered k n e is) ws o has

  offset_kinded : AreOfKinds (kinds_in s running) (slice_set t.vars to (Some further))
  offset_kinded =
      pointer_kinded s code x stack p running offset_i rest to base
      (zero, refl) sel at t m point kinded offset_parts.1 offset_parts.0 further
      offset_fits.0

pub offsets_run_law : OffsetsRun
unfolding operations
offsets_run_law s code x stack w p running (instr.Offset to base by) rest is sel at t m point kinded ws form has =
    record {
      next = record t {
        vars = slice_set t.vars to (Some (further s code x stack p running to base by rest sel at t m point
            kinded));
      };
      means = λ c. amount_gives by t _;
      kinded = offset_kinded s code x stack p running to base by rest sel at t m point kinded;
      does = offset_does s code x stack p running to base by rest sel at t m point kinded ws form has;
    }
offsets_run_law s code x stack w p running i rest is sel at t m point kinded ws form has = absurd is
