-- What is asked of capabilities and lengths, and made of them: the machine does it.
use Rattle.std.proofs.Common.{◌≡◌, ℕ, zero, suc, ◌+◌, ◌-◌, ◌%◌, ◌^◌, ◌<◌, ◌≤◌, Bool, true, false, ◌||◌, List, ◌∷◌}
use Rattle.std.proofs.Common.{length, Option, Some, None, refl, sym, ap, ◌∙◌, subst, arith, ⊎_elim}
use Rattle.std.specs.Prelude.{slice_set, Result, Ok, Err}
use Rattle.std.proofs.lemmas.Bool.{and_parts, ltb-true, or_cases}
use Rattle.ck_base.specs.World.{World}
use Rattle.ck_int.specs.declared.kinds.IntKind.{IntKind}
use Rattle.ck_int.specs.declared.kinds.IntKind.TheVariants as int
use Rattle.ck_int.specs.Kinds.{IsKept, wrapped, reduced, kept_of}
use Rattle.ck_int.proofs.OperationLaws.{IsKept-64}
use Rattle.cap_concentrate.specs.Decoding.{base_of}
use Rattle.cap_concentrate.specs.Rounding.{alignment, owned}
use Rattle.cap_concentrate.proofs.Laws.{alignment_pos}
use Rattle.cap_ops.specs.declared.capability.Cap.{Cap}
use Rattle.cap_ops.specs.Capability.{base, moved, masked, cleared, null_at}
use Rattle.rv_instr.specs.declared.instr.Instr.{Instr}
use Rattle.rv_instr.specs.declared.instr.Instr.TheVariants.{CapReg, CapGet}
use Rattle.rv_instr.specs.declared.ops.CapRegOp.{CapRegOp}
use Rattle.rv_instr.specs.declared.ops.CapRegOp.TheVariants.{Candperm, Csetaddr, Csetequalexact}
use Rattle.rv_instr.specs.declared.ops.CapGetOp.{CapGetOp}
use Rattle.rv_instr.specs.declared.ops.CapGetOp.TheVariants.{Cgetperm, Cgetbase, Cgetlen, Cgettag, Cgetoffset, Crrl}
use Rattle.rv_instr.specs.declared.ops.CapGetOp.TheVariants.{Cram, Ccleartag}
use Rattle.cap_machine.specs.declared.machine.Machine.{Machine}
use Rattle.cap_machine.specs.Integers.{one_where}
use Rattle.cap_machine.specs.State.{register, integer}
use Rattle.cap_machine.specs.Rows.{row, cap_reg_row, cap_get_row, set, set_integer, length_of, same}
use Rattle.c_tree.specs.declared.typed.Typed.{Typed}
use Rattle.obj_mem.specs.declared.ending.Fault.{Fault}
use Rattle.obj_mem.specs.Objects.{Shape, base_in}
use Rattle.obj_mem.specs.Table.{addresses_of}
use Rattle.obj_mem.specs.Values.{Value, Int, Addresses, capability_of}
use Rattle.cheri_c_sem.specs.Kinds.{Kind, Plain, Capability, nothing, number_of, truth}
use Rattle.cheri_c_sem.specs.Modes as modes
use Rattle.cheri_c_sem.specs.Modes.{operations, placed_plan, number_answer, truth_answer}
use Rattle.cheri_c_sem.specs.Steps.{State, Fate, answer}
use Rattle.tac_ir.specs.Effects.{kind_at, temp_in, optional, no_position, set as set_temp, work_of}
use Rattle.tac_ir.specs.Meaning.{Running}
use Rattle.tac_ir.specs.Temps.{IsIn as IsAmong, in_option, now}
use Rattle.tac_ir.specs.WellFormed.{has, has_capability, is_temp, is_int, is_capability, same_kind, word}
use Rattle.tac_ir.specs.declared.code.CapWork.{CapWork}
use Rattle.tac_ir.specs.declared.code.CapWork.TheVariants as cap
use Rattle.tac_ir.specs.declared.code.TacInstr.{TacInstr}
use Rattle.tac_ir.specs.declared.code.TacInstr.TheVariants as instr
use Rattle.place_inject.specs.Values.{IsKnown}
use Rattle.place_inject.specs.Steps.{is_integer}
use Rattle.place_inject.specs.Pointers.{IsCapabilityOf, PointersFit}
use Rattle.place_inject.specs.Getting.{GettersFit, GettingFits}
use Rattle.place_inject.specs.Frames.{Setting, functions_of}
use Rattle.place_inject.specs.Spills.{StackIsThere}
use Rattle.place_inject.proofs.Getting.{getting_fits_law}
use Rattle.select_words.specs.Standing.{HasAt}
use Rattle.select_words.specs.Forms.{OfOne, OfTwo}
use Rattle.select_words.specs.Capabilities.{OneOfOne, OneOfTwo, Seconds, IntrinsicWords, intrinsic_of}
use Rattle.select_runs.specs.Kinds.{IsOfKind, AreOfKinds}
use Rattle.select_runs.specs.Operands.{IsText, IsAtPoint}
use Rattle.select_runs.specs.Results.{Arrives, before, behind, kinds_in, code_in, IsSelectable}
use Rattle.select_runs.specs.Instructions.{IntrinsicsRun}
use Rattle.select_runs.proofs.Numbers.{null_address}
use Rattle.select_runs.proofs.Kinded.{kind_passes, kinded_set, has_kind}
use Rattle.select_runs.proofs.Working.{integer_of, integer_bits, one_only, within, of_one, of_two, other_comes}
use Rattle.select_runs.proofs.Pointing.{pointer_of, fitting, base_pointer, pointer_kinded, three_parts}
use Rattle.select_runs.specs.Selecting.{selecting}

-- ---- numbers

base_below : (internal : Bool) (t b address : ℕ) → base_of internal t b address < 2 ^ 64
unfolding base_of
base_below internal t b address = omega arith

length_below : (c : Cap) → length_of c < 2 ^ 64
length_below c = by (Rattle.std.specs.Prelude.nat_lt (Rattle.cap_ops.specs.Capability.top c) (base c))
  where
    by : (b : Bool) → (Rattle.std.specs.Prelude.if◌then◌else◌ b (2 ^ 64 - 1) (Rattle.std.specs.Prelude.min
        (Rattle.cap_ops.specs.Capability.top c - base c) (2 ^ 64 - 1))) < 2 ^ 64
    by true = omega arith
    by false = omega arith

pub truth_bits : (a : Addresses) (base : ℕ → ℕ) (b : Bool) → capability_of a base (truth b) ≡ null_at (one_where b)
truth_bits a base true = integer_bits a base 1
truth_bits a base false = integer_bits a base 0

pub truth_known : (shapes : List Shape) (functions : ℕ) (b : Bool) → IsKnown shapes functions (truth b)
truth_known shapes functions true = omega arith
truth_known shapes functions false = omega arith

bit_kept : (b : Bool) → IsKept int.Bool (one_where b)
unfolding wrapped reduced kept_of
bit_kept true = record { kept = refl }
bit_kept false = record { kept = refl }

pub truth_kept : (k : IntKind) → ((b : Bool) → IsKept k (one_where b)) → (b : Bool) → IsOfKind (Plain k) (truth b)
truth_kept k kept true = kept true
truth_kept k kept false = kept false

pub same_int : (a : Kind) (k : IntKind) → same_kind a (Plain k) ≡ true → is_int a ≡ true
same_int (Plain j) k h = refl
same_int (Capability signed) k h = cc

-- ---- an answer that is the value's

record Answer (functions : ℕ) (a : Addresses) (shapes : List Shape) (c : Cap) (r : Result Value Fault) : Type 0 where
  value : Value
  is : r ≡ Ok value
  pointer : is_integer value ≡ false
  known : IsKnown shapes functions value
  bits : c ≡ capability_of a (base_in shapes) value

answered : (functions : ℕ) (a : Addresses) (shapes : List Shape) (c : Cap) (r : Result Value Fault)
    → IsCapabilityOf functions a shapes c r → Answer functions a shapes c r
answered functions a shapes c (Ok v) h = record { value = v; is = refl; pointer = h.0; known = h.1; bits = h.2 }
answered functions a shapes c (Err e) h = absurd h

-- ---- the second operand

abbrev pub second_in : State modes.Store → Option ℕ → Value
second_in t None = nothing
second_in t (Some u) = temp_in t u

optional_gives : (b : Option ℕ) (t : State modes.Store) (k : Value → State modes.Store → Fate)
    → optional b t k ≡ k (second_in t b) t
optional_gives None t k = refl
optional_gives (Some u) t k = refl

module _ (s : Setting) (code : List Instr) (x : IsText s code) (stack : StackIsThere s) (w : World) (p : Typed)
    (running : Running)
    (op : CapWork) (to a : ℕ) (b : Option ℕ) (rest : List TacInstr) (sel : IsSelectable s p running
    (instr.Cap op to a b) rest)
    (at : ℕ) (t : State modes.Store) (m : Machine) (point : IsAtPoint s code (before running
    (instr.Cap op to a b) rest) at t m)
    (kinded : AreOfKinds (kinds_in s running) t.vars) where
  abbrev here_i : TacInstr
  here_i = instr.Cap op to a b

  abbrev bits : Value → Cap
  bits = capability_of (addresses_of s.map) (base_in t.mem.memory.shapes)

  abbrev Goes_home : List Instr → Value → Type 0
  Goes_home ws v = Arrives s code (behind running rest) 0 10 (at + length ws) (record t {
    vars = slice_set t.vars to
        (Some v);
  }) m

  -- what the instruction makes
  record Made : Type 0 where
    value : Value
    means : (operations (placed_plan s.map)).work t.mem (work_of op) (temp_in t a) (second_in t b) ≡ Ok value
    kind_is : AreOfKinds (kinds_in s running) (slice_set t.vars to (Some value))
    does : (ws : List Instr) → IntrinsicWords (selecting s running.fun) to a b (intrinsic_of op) ws → HasAt code at ws
        → Goes_home ws value

  one_does : (get : CapGetOp) (v : Value) → IsKnown t.mem.memory.shapes (functions_of s) v
      → ((u : Machine) (r q : ℕ) → register u q ≡ bits (temp_in t a) → row u (CapGet get r q) ≡ set u r (bits v))
      → (ws : List Instr) → OfOne (selecting s running.fun) to a (OneOfOne get) ws → HasAt code at ws → Goes_home ws v
  one_does get v known makes ws o has =
      within s code (behind running rest) 0 (1 + 6) 10 (at + length ws) _ m (omega arith)
      (of_one s code x stack p running here_i rest to refl refl (λ n h. h) sel t m at point a (zero, refl) v known
      (OneOfOne get)
      (λ u mid q here e r us is range hs.
      one_only s code x (before running here_i rest) t u mid here (CapGet get r q) r _ us is hs refl range
      (makes u r q e))
      1 (λ r q us is. subst (λ y. length y ≤ 1) (sym is) (omega arith)) ws o has)

  two_does : (get : CapRegOp) (y : ℕ) → b ≡ Some y → (v : Value) → IsKnown t.mem.memory.shapes (functions_of s) v
      → ((u : Machine) (r q z : ℕ) → register u q ≡ bits (temp_in t a) → register u z ≡ bits (temp_in t y)
      → row u (CapReg get r q z) ≡ set u r (bits v))
      → (ws : List Instr) → OfTwo (selecting s running.fun) to a (Seconds (selecting s running.fun) b)
      (OneOfTwo get) ws → HasAt code at ws
      → Goes_home ws v
  two_does get y is_some v known makes ws o has =
      within s code (behind running rest) 0 (3 + 1 + 6) 10 (at + length ws) _ m (omega arith)
      (of_two s code x stack p running here_i rest to refl refl (λ n h. h) sel t m at point a (zero, refl) v known
      (Seconds (selecting s running.fun) b) (bits (temp_in t y)) 3
      (λ n count mid leads here us z o' hs.
      other_comes s code x stack p running here_i rest to refl refl (λ n' h. h) sel t m at point a
      (zero, refl) y read_y n count mid leads here us z
      (subst (λ o. Seconds (selecting s running.fun) o us z) is_some o') hs)
      (OneOfTwo get)
      (λ u mid q z here e f r us is range hs.
      one_only s code x (before running here_i rest) t u mid here (CapReg get r q z) r _ us is hs refl range
      (makes u r q z e f))
      1 (λ r q z us is. subst (λ y'. length y' ≤ 1) (sym is) (omega arith)) ws o has)
    where
      read_y : IsAmong y (a ∷ in_option b)
      read_y = subst (λ o. IsAmong y (a ∷ in_option o)) (sym is_some) (suc zero, refl)

  -- ---- a number of a capability

  number_kinded : (k : IntKind) → has p sel.d (kinds_in s running) (code_in s running) to (Plain k) ≡ true →
      (v : Value) → IsOfKind (Plain k) v
      → AreOfKinds (kinds_in s running) (slice_set t.vars to (Some v))
  number_kinded k fits v kept =
      let h = has_kind p sel.d (kinds_in s running) (code_in s running) to (Plain k) fits in
      kinded_set (kinds_in s running) t.vars to v kinded h.0 (kind_passes (kind_at (kinds_in s running) to)
      (Plain k) v h.1 kept)

  word_kinded : has p sel.d (kinds_in s running) (code_in s running) to word ≡ true → (n : ℕ) → n < 2 ^ 64
      → AreOfKinds (kinds_in s running) (slice_set t.vars to (Some (Int n)))
  word_kinded fits n small = number_kinded int.U64 fits (Int n) (IsKept-64 int.U64 n refl small)

  gives_number : (u : Machine) (r n k : ℕ) → n ≡ k → set_integer u r n ≡ set u r (bits (Int k))
  gives_number u r n k e = ap (λ y. set u r (null_at y)) e ∙ ap (set u r) (sym (integer_bits (addresses_of s.map)
      (base_in t.mem.memory.shapes) k))

  module _ (is_pointer : has_capability p sel.d (kinds_in s running) (code_in s running) a ≡ true) where
    pointer_here : (is_integer (temp_in t a) ≡ false) × IsKnown t.mem.memory.shapes (functions_of s) (temp_in t a)
    pointer_here = base_pointer s code x stack p running here_i rest to a
        (zero, refl) sel at t m point kinded is_pointer

    gettings : GettingFits (functions_of s) (addresses_of s.map) t.mem.memory.shapes
    gettings =
        getting_fits_law (functions_of s) (addresses_of s.map) t.mem.memory m.mem point.fits.objects x.legal.text_exact

    getters : GettersFit (addresses_of s.map) t.mem.memory.shapes (temp_in t a) (bits (temp_in t a))
    getters = gettings.getters (temp_in t a) pointer_here

    pointers : PointersFit (functions_of s) (addresses_of s.map) t.mem.memory.shapes (temp_in t a)
    pointers = fitting s code x stack p running here_i rest to a (zero, refl) sel at t m point kinded is_pointer

    same_kinded : has p sel.d (kinds_in s running) (code_in s running) to (kind_at (kinds_in s running) a) ≡ true
        → (v : Value) → is_integer v ≡ false → AreOfKinds (kinds_in s running) (slice_set t.vars to (Some v))
    same_kinded fits v not_int =
        pointer_kinded s code x stack p running here_i rest to a
        (zero, refl) sel at t m point kinded is_pointer fits v not_int

  -- ---- a second operand that is an integer

  other_int : (y : ℕ) → b ≡ Some y → (k : IntKind) → has p sel.d (kinds_in s running) (code_in s running) y
      (Plain k) ≡ true
      → (temp_in t y ≡ Int (number_of (temp_in t y))) × (number_of (temp_in t y) < 2 ^ 64)
  other_int y is_some k fits =
      let h = has_kind p sel.d (kinds_in s running) (code_in s running) y (Plain k) fits in
      let e = integer_of (kind_at (kinds_in s running) y) (temp_in t y) (same_int (kind_at
      (kinds_in s running) y) k h.1) (kinded.each y h.0) in
      let read_y : IsAmong y (a ∷ in_option b) = subst (λ o. IsAmong y (a ∷ in_option o)) (sym is_some)
      (suc zero, refl) in
      (e, subst (IsKnown t.mem.memory.shapes (functions_of s)) e (point.fits.calls.1.known y (now read_y)))

  number_there : (u : Machine) (z : ℕ) (v : Value) → v ≡ Int (number_of v) → register u z ≡ bits v
      → integer u z ≡ number_of v
  number_there u z v e holds =
      ap (λ (c : Cap). c.fields.address) (holds ∙ ap bits e ∙ integer_bits (addresses_of s.map)
      (base_in t.mem.memory.shapes) (number_of v))
      ∙ null_address (number_of v)

  own_int : has p sel.d (kinds_in s running) (code_in s running) a word ≡ true → temp_in t a ≡ Int (number_of
      (temp_in t a))
  own_int fits =
      let h = has_kind p sel.d (kinds_in s running) (code_in s running) a word fits in
      integer_of (kind_at (kinds_in s running) a) (temp_in t a) (same_int (kind_at
      (kinds_in s running) a) int.U64 h.1) (kinded.each a h.0)

  -- an address has either 64-bit kind
  address_there : (y : ℕ) → b ≡ Some y
      → (has p sel.d (kinds_in s running) (code_in s running) y word || has p sel.d (kinds_in s running)
      (code_in s running) y (Plain int.I64)) ≡ true
      → (temp_in t y ≡ Int (number_of (temp_in t y))) × (number_of (temp_in t y) < 2 ^ 64)
  address_there y is_some fits = ⊎_elim (λ e. other_int y is_some int.U64 e) (λ e. other_int y is_some int.I64 e)
      (or_cases _ _ fits)

  other_pointer : (y : ℕ) → b ≡ Some y → has_capability p sel.d (kinds_in s running) (code_in s running) y ≡ true
      → (is_integer (temp_in t y) ≡ false) × IsKnown t.mem.memory.shapes (functions_of s) (temp_in t y)
  other_pointer y is_some fits =
      let q = and_parts (is_temp p sel.d (kinds_in s running) (code_in s running) y) (is_capability (kind_at
      (kinds_in s running) y)) fits in
      let read_y : IsAmong y (a ∷ in_option b) = subst (λ o. IsAmong y (a ∷ in_option o)) (sym is_some)
      (suc zero, refl) in (
        pointer_of (kind_at (kinds_in s running) y) (temp_in t y) q.1 (kinded.each y (ltb-true y (length
            (kinds_in s running)) q.0)),
        point.fits.calls.1.known y (now read_y),
      )

-- ---- all of them

made : (s : Setting) (code : List Instr) (x : IsText s code) (stack : StackIsThere s) (w : World) (p : Typed)
    (running : Running)
    (op : CapWork) (to a : ℕ) (b : Option ℕ) (rest : List TacInstr) (sel : IsSelectable s p running
    (instr.Cap op to a b) rest)
    (at : ℕ) (t : State modes.Store) (m : Machine) (point : IsAtPoint s code (before running
    (instr.Cap op to a b) rest) at t m)
    (kinded : AreOfKinds (kinds_in s running) t.vars) → Made s code x stack w p running op to a b rest sel at t m point
    kinded
unfolding operations row cap_get_row cap_reg_row
made s code x stack w p running cap.Base to a b rest sel at t m point kinded =
    let q = three_parts _ _ _ sel.fits in
    let g = getters s code x stack w p running cap.Base to a b rest sel at t m point kinded q.1 in
    let c = bits s code x stack w p running cap.Base to a b rest sel at t m point kinded (temp_in t a) in
    record {
      value = Int (base c);
      means = ap number_answer g.bases;
      kind_is = word_kinded s code x stack w p running cap.Base to a b rest sel at t m point kinded q.0 (base c)
          (base_below c.fields.internal c.fields.t c.fields.b c.fields.address);
      does = one_does s code x stack w p running cap.Base to a b rest sel at t m point kinded Cgetbase (Int (base c))
          (base_below c.fields.internal c.fields.t c.fields.b c.fields.address)
          (λ u r y e. gives_number s code x stack w p running cap.Base to a b rest sel at t m point kinded u r _
          (base c) (ap (λ (d : Cap). base d) e));
    }
made s code x stack w p running cap.Offset to a b rest sel at t m point kinded =
    let q = three_parts _ _ _ sel.fits in
    let g = getters s code x stack w p running cap.Offset to a b rest sel at t m point kinded q.1 in
    let c = bits s code x stack w p running cap.Offset to a b rest sel at t m point kinded (temp_in t a) in
    record {
      value = Int ((c.fields.address + (2 ^ 64 - base c)) % 2 ^ 64);
      means = ap number_answer g.offsets;
      kind_is = word_kinded s code x stack w p running cap.Offset to a b rest sel at t m point kinded q.0
          ((c.fields.address + (2 ^ 64 - base c)) % 2 ^ 64) (omega arith);
      does = one_does s code x stack w p running cap.Offset to a b rest sel at t m point kinded Cgetoffset (Int
          ((c.fields.address + (2 ^ 64 - base c)) % 2 ^ 64)) (omega arith)
          (λ u r y e. gives_number s code x stack w p running cap.Offset to a b rest sel at t m point kinded u r _
          ((c.fields.address + (2 ^ 64 - base c)) % 2 ^ 64) (ap (λ (d : Cap). (d.fields.address +
          (2 ^ 64 - base d)) % 2 ^ 64) e));
    }
made s code x stack w p running cap.Length to a b rest sel at t m point kinded =
    let q = three_parts _ _ _ sel.fits in
    let g = getters s code x stack w p running cap.Length to a b rest sel at t m point kinded q.1 in
    let c = bits s code x stack w p running cap.Length to a b rest sel at t m point kinded (temp_in t a) in
    record {
      value = Int (length_of c);
      means = ap number_answer g.lengths;
      kind_is = word_kinded s code x stack w p running cap.Length to a b rest sel at t m point kinded q.0
          (length_of c) (length_below c);
      does = one_does s code x stack w p running cap.Length to a b rest sel at t m point kinded Cgetlen (Int
          (length_of c)) (length_below c)
          (λ u r y e. gives_number s code x stack w p running cap.Length to a b rest sel at t m point kinded u r _
          (length_of c) (ap (λ (d : Cap). length_of d) e));
    }
made s code x stack w p running cap.Perms to a b rest sel at t m point kinded =
    let q = three_parts _ _ _ sel.fits in
    let g = getters s code x stack w p running cap.Perms to a b rest sel at t m point kinded q.1 in
    let c = bits s code x stack w p running cap.Perms to a b rest sel at t m point kinded (temp_in t a) in
    record {
      value = Int (c.fields.perms);
      means = ap (λ n. Ok (Int n)) g.permissions;
      kind_is = word_kinded s code x stack w p running cap.Perms to a b rest sel at t m point kinded q.0
          (c.fields.perms) (let h = c.fields.perms_in_range in omega arith);
      does = one_does s code x stack w p running cap.Perms to a b rest sel at t m point kinded Cgetperm (Int
          (c.fields.perms)) (let h = c.fields.perms_in_range in omega arith)
          (λ u r y e. gives_number s code x stack w p running cap.Perms to a b rest sel at t m point kinded u r _
          (c.fields.perms) (ap (λ (d : Cap). d.fields.perms) e));
    }
made s code x stack w p running cap.Tag to a b rest sel at t m point kinded =
    let q = three_parts _ _ _ sel.fits in
    let g = getters s code x stack w p running cap.Tag to a b rest sel at t m point kinded q.1 in
    let c = bits s code x stack w p running cap.Tag to a b rest sel at t m point kinded (temp_in t a) in
    record {
      value = truth c.tag;
      means = ap (λ y. Ok (truth y)) g.tags;
      kind_is = number_kinded s code x stack w p running cap.Tag to a b rest sel at t m point kinded int.Bool q.0
          (truth c.tag) (truth_kept int.Bool bit_kept c.tag);
      does = one_does s code x stack w p running cap.Tag to a b rest sel at t m point kinded Cgettag (truth c.tag)
          (truth_known t.mem.memory.shapes (functions_of s) c.tag)
          (λ u r y e. ap (λ (d : Cap). set_integer u r (one_where d.tag)) e
          ∙ ap (set u r) (sym (truth_bits (addresses_of s.map) (base_in t.mem.memory.shapes) c.tag)));
    }
made s code x stack w p running cap.Clear to a b rest sel at t m point kinded =
    let q = three_parts _ _ _ sel.fits in
    let g = answered _ _ _ _ _ (pointers s code x stack w p running cap.Clear to a b rest sel at t m point kinded
    q.1).clears in
    record {
      value = g.value;
      means = g.is;
      kind_is = same_kinded s code x stack w p running cap.Clear to a b rest sel at t m point kinded q.1 q.0 g.value
          g.pointer;
      does = one_does s code x stack w p running cap.Clear to a b rest sel at t m point kinded Ccleartag g.value
          g.known (λ u r y e. ap (λ c. set u r (cleared c)) e ∙ ap (set u r) g.bits);
    }
made s code x stack w p running cap.SetAddress to a None rest sel at t m point kinded =
    absurd (let e : false ≡ true = (three_parts (has p sel.d (kinds_in s running) (code_in s running) to (kind_at
    (kinds_in s running) a))
    (has_capability p sel.d (kinds_in s running) (code_in s running) a) false sel.fits).2 in cc)
made s code x stack w p running cap.SetAddress to a (Some y) rest sel at t m point kinded =
    let q = three_parts _ _ _ sel.fits in
    let o = address_there s code x stack w p running cap.SetAddress to a
    (Some y) rest sel at t m point kinded y refl q.2 in
    let n = number_of (temp_in t y) in
    let g = answered _ _ _ _ _ ((pointers s code x stack w p running cap.SetAddress to a
    (Some y) rest sel at t m point kinded q.1).sets n o.1) in
    record {
      value = g.value;
      means = g.is;
      kind_is = same_kinded s code x stack w p running cap.SetAddress to a
          (Some y) rest sel at t m point kinded q.1 q.0 g.value g.pointer;
      does = two_does s code x stack w p running cap.SetAddress to a
          (Some y) rest sel at t m point kinded Csetaddr y refl g.value g.known
          (λ u r j z e f. ap (λ c. set u r (moved c (integer u z))) e
          ∙ ap (λ k. set u r (moved (bits s code x stack w p running cap.SetAddress to a
          (Some y) rest sel at t m point kinded (temp_in t a)) k))
          (number_there s code x stack w p running cap.SetAddress to a
          (Some y) rest sel at t m point kinded u z (temp_in t y) o.0 f) ∙ ap (set u r) g.bits);
    }
made s code x stack w p running cap.AndPerms to a None rest sel at t m point kinded =
    absurd (let e : false ≡ true = (three_parts (has p sel.d (kinds_in s running) (code_in s running) to (kind_at
    (kinds_in s running) a))
    (has_capability p sel.d (kinds_in s running) (code_in s running) a) false sel.fits).2 in cc)
made s code x stack w p running cap.AndPerms to a (Some y) rest sel at t m point kinded =
    let q = three_parts _ _ _ sel.fits in
    let o = other_int s code x stack w p running cap.AndPerms to a
    (Some y) rest sel at t m point kinded y refl int.U64 q.2 in
    let n = number_of (temp_in t y) in
    let g = answered _ _ _ _ _ ((pointers s code x stack w p running cap.AndPerms to a
    (Some y) rest sel at t m point kinded q.1).masks n) in
    record {
      value = g.value;
      means = g.is;
      kind_is = same_kinded s code x stack w p running cap.AndPerms to a
          (Some y) rest sel at t m point kinded q.1 q.0 g.value g.pointer;
      does = two_does s code x stack w p running cap.AndPerms to a
          (Some y) rest sel at t m point kinded Candperm y refl g.value g.known
          (λ u r j z e f. ap (λ c. set u r (masked c (integer u z % 2 ^ 12))) e
          ∙ ap (λ k. set u r (masked (bits s code x stack w p running cap.AndPerms to a
          (Some y) rest sel at t m point kinded (temp_in t a)) (k % 2 ^ 12)))
          (number_there s code x stack w p running cap.AndPerms to a (Some y) rest sel at t m point kinded u z
          (temp_in t y) o.0 f)
          ∙ ap (set u r) g.bits);
    }
made s code x stack w p running cap.EqualExact to a None rest sel at t m point kinded =
    absurd (let e : false ≡ true = (three_parts (has p sel.d (kinds_in s running) (code_in s running) to
    (Plain int.Bool))
    (has_capability p sel.d (kinds_in s running) (code_in s running) a) false sel.fits).2 in cc)
made s code x stack w p running cap.EqualExact to a (Some y) rest sel at t m point kinded =
    let q = three_parts _ _ _ sel.fits in
    let c = bits s code x stack w p running cap.EqualExact to a (Some y) rest sel at t m point kinded (temp_in t a) in
    let d = bits s code x stack w p running cap.EqualExact to a (Some y) rest sel at t m point kinded (temp_in t y) in
    let g = (gettings s code x stack w p running cap.EqualExact to a
    (Some y) rest sel at t m point kinded q.1).comparisons (temp_in t a) (temp_in t y)
    (pointer_here s code x stack w p running cap.EqualExact to a (Some y) rest sel at t m point kinded q.1)
    (other_pointer s code x stack w p running cap.EqualExact to a
    (Some y) rest sel at t m point kinded y refl q.2) in
    record {
      value = truth (same c d);
      means = ap truth_answer g.identities;
      kind_is = number_kinded s code x stack w p running cap.EqualExact to a
          (Some y) rest sel at t m point kinded int.Bool q.0 (truth (same c d)) (truth_kept int.Bool bit_kept
          (same c d));
      does = two_does s code x stack w p running cap.EqualExact to a
          (Some y) rest sel at t m point kinded Csetequalexact y refl (truth (same c d))
          (truth_known t.mem.memory.shapes (functions_of s) (same c d))
          (λ u r j z e f. ap (λ k. set_integer u r (one_where (same k (register u z)))) e
          ∙ ap (λ k. set_integer u r (one_where (same c k))) f
          ∙ ap (set u r) (sym (truth_bits (addresses_of s.map) (base_in t.mem.memory.shapes) (same c d))));
    }
made s code x stack w p running cap.Rounded to a b rest sel at t m point kinded =
    let q = three_parts _ _ _ sel.fits in
    let o = own_int s code x stack w p running cap.Rounded to a b rest sel at t m point kinded q.1 in
    let n = number_of (temp_in t a) in
    let pos = alignment_pos n in
    record {
      value = Int (owned n % 2 ^ 64);
      means = refl;
      kind_is = word_kinded s code x stack w p running cap.Rounded to a b rest sel at t m point kinded q.0
          (owned n % 2 ^ 64) (omega (arith, pos));
      does = one_does s code x stack w p running cap.Rounded to a b rest sel at t m point kinded Crrl (Int
          (owned n % 2 ^ 64)) (omega (arith, pos))
          (λ u r y e. gives_number s code x stack w p running cap.Rounded to a b rest sel at t m point kinded u r _
          (owned n % 2 ^ 64) (ap (λ n. owned n % 2 ^ 64) (number_there s code x stack w p running cap.Rounded to a
          b rest sel at t m point kinded u y (temp_in t a) o e)));
    }
made s code x stack w p running cap.Mask to a b rest sel at t m point kinded =
    let q = three_parts _ _ _ sel.fits in
    let o = own_int s code x stack w p running cap.Mask to a b rest sel at t m point kinded q.1 in
    let n = number_of (temp_in t a) in
    let pos = alignment_pos n in
    record {
      value = Int (2 ^ 64 - alignment n);
      means = refl;
      kind_is = word_kinded s code x stack w p running cap.Mask to a b rest sel at t m point kinded q.0
          (2 ^ 64 - alignment n) (omega (arith, pos));
      does = one_does s code x stack w p running cap.Mask to a b rest sel at t m point kinded Cram (Int
          (2 ^ 64 - alignment n)) (omega (arith, pos))
          (λ u r y e. gives_number s code x stack w p running cap.Mask to a b rest sel at t m point kinded u r _
          (2 ^ 64 - alignment n) (ap (λ n. 2 ^ 64 - alignment n)
          (number_there s code x stack w p running cap.Mask to a b rest sel at t m point kinded u y
          (temp_in t a) o e)));
    }

pub intrinsics_run_law : IntrinsicsRun
intrinsics_run_law s code x stack w p running (instr.Cap op to a b) rest is sel at t m point kinded ws form has =
    let o = made s code x stack w p running op to a b rest sel at t m point kinded in
    record {
      next = record t { vars = slice_set t.vars to (Some o.value) };
      means = λ k. optional_gives b t _
          ∙ ap (λ r. answer no_position r t (λ v u. set_temp to v u k)) o.means;
      kinded = o.kind_is;
      does = o.does ws form has;
    }
intrinsics_run_law s code x stack w p running i rest is sel at t m point kinded ws form has = absurd is
