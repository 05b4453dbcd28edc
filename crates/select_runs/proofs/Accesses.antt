-- Loads and stores: what they mean, the machine does.
use Rattle.std.proofs.Common.{◌≡◌, ℕ, zero, suc, ◌+◌, ◌^◌, ◌<◌, ◌≤◌, pos, Bool, true, false, List, [], ◌∷◌, ◌++◌}
use Rattle.std.proofs.Common.{length, Some, refl, sym, ap, ◌∙◌, subst, arith}
use Rattle.std.specs.Prelude.{slice_get, slice_set, Result, Ok, Err}
use Rattle.std.proofs.lemmas.Bool.{and_parts}
use Rattle.std.proofs.lemmas.List.{length-append}
use Rattle.std.proofs.lemmas.Option.{slice_get_within}
use Rattle.ck_base.specs.Runs.{Goes as Acted}
use Rattle.ck_base.specs.World.{World}
use Rattle.ck_base.specs.declared.positions.Pos.{Pos}
use Rattle.ck_int.specs.declared.kinds.IntKind.{IntKind}
use Rattle.ck_int.specs.declared.kinds.IntKind.TheVariants as int
use Rattle.ck_int.specs.Kinds.{wrapped}
use Rattle.ck_int.proofs.Laws.{IsKept-wrapped, wrapped-below, IsKept-unsigned}
use Rattle.ck_int.proofs.OperationLaws.{IsKept-64}
use Rattle.cap_ops.specs.declared.access.Cause.{Cause}
use Rattle.cap_ops.specs.declared.capability.Cap.{Cap}
use Rattle.cap_ops.specs.Capability.{added, null_at}
use Rattle.rv_instr.specs.declared.instr.Instr.{Instr}
use Rattle.rv_instr.specs.declared.instr.Instr.TheVariants.{Load, Store, Clc, Op}
use Rattle.rv_instr.specs.declared.ops.StoreOp.{StoreOp}
use Rattle.rv_instr.specs.declared.ops.StoreOp.TheVariants.{Sb, Sh, Sw, Sd, Csc}
use Rattle.rv_instr.specs.declared.ops.RegOp.TheVariants as regs
use Rattle.tag_mem.specs.Areas.{is_inside}
use Rattle.cap_machine.specs.declared.machine.Machine.{Machine}
use Rattle.cap_machine.specs.declared.end.Step.{Step}
use Rattle.cap_machine.specs.declared.end.Step.TheVariants.{Next, Ended}
use Rattle.cap_machine.specs.Integers.{loaded_kind, loaded_bytes, stored_bytes, result_of}
use Rattle.cap_machine.specs.State.{register, integer}
use Rattle.cap_machine.specs.Rows.{row, load_row, store_row, clc_row, op_row, set_integer, trap, stored, store_checked}
use Rattle.cap_machine.specs.Step.{act, act_of, is_call}
use Rattle.c_tree.specs.declared.typed.Typed.{Typed}
use Rattle.obj_mem.specs.declared.ending.Fault.{Fault}
use Rattle.obj_mem.specs.declared.ending.Fault.TheVariants as fault
use Rattle.obj_mem.specs.Access.{load, store}
use Rattle.obj_mem.specs.Objects.{Memory, Placed, base_in}
use Rattle.obj_mem.specs.Table.{addresses_of}
use Rattle.obj_mem.specs.Values.{Value, Int, Live, Fun, Raw, capability_of}
use Rattle.cheri_c_sem.specs.Kinds.{bytes_of, int_bytes, number_of, read_as}
use Rattle.cheri_c_sem.specs.Modes as modes
use Rattle.cheri_c_sem.specs.Modes.{operations, placed_plan, with_memory}
use Rattle.cheri_c_sem.specs.Steps.{State, Fate, answer}
use Rattle.select_runs.proofs.Reduced.{reduce_truth}
use Rattle.tac_ir.specs.Costs.{load_cost}
use Rattle.tac_ir.specs.Effects.{Next as Way, On, kind_of, kind_at, temp_in, effect, set as set_temp}
use Rattle.tac_ir.specs.Meaning.{Running}
use Rattle.tac_ir.specs.Temps.{now}
use Rattle.tac_ir.specs.WellFormed.{has, has_capability}
use Rattle.tac_ir.specs.declared.code.TacInstr.{TacInstr}
use Rattle.tac_ir.specs.declared.code.TacInstr.TheVariants as instr
use Rattle.tac_ir.specs.declared.code.TacKind.{TacKind}
use Rattle.tac_ir.specs.declared.code.TacKind.TheVariants as kind
use Rattle.place_inject.specs.Values.{IsKnown}
use Rattle.place_inject.specs.Steps.{is_integer, stores_integer, LoadAnswers, CapabilityLoadAnswers}
use Rattle.place_inject.specs.Frames.{Setting, Point, functions_of}
use Rattle.place_inject.specs.Fits.{StoreKeeps}
use Rattle.place_inject.specs.Spills.{StackIsThere}
use Rattle.place_inject.proofs.Loading.{loads_fit_law}
use Rattle.place_inject.proofs.Results.{moves_on_law}
use Rattle.place_inject.proofs.StoresKeep.{stores_keep_law}
use Rattle.select_words.specs.Standing.{HasAt}
use Rattle.select_words.specs.Accesses.{load_op, store_op, load_words, Loads, StoreWords}
use Rattle.select_words.specs.Forms.{OfOne}
use Rattle.select_runs.specs.Acts.{Leads, counter_at, place}
use Rattle.select_runs.specs.Accesses.{AccessesRun, Accesses, Goes, Stops, Leaves}
use Rattle.select_runs.specs.Kinds.{IsOfKind, AreOfKinds}
use Rattle.select_runs.specs.Operands.{ground_of, IsText, IsAtPoint}
use Rattle.select_runs.specs.Results.{Computed, before, behind, kinds_in, code_in, IsSelectable}
use Rattle.select_runs.proofs.Acts.{fetched_here, next_is, has_front, has_back, join}
use Rattle.select_runs.proofs.Kinded.{kind_passes, same_turned, kinded_set, has_kind}
use Rattle.select_runs.proofs.Numbers.{number_at, null_address}
use Rattle.select_runs.proofs.Points.{laid, there, traps_at}
use Rattle.select_runs.proofs.Results.{reads_as_before}
use Rattle.select_runs.proofs.Simple.{operand_few}
use Rattle.select_runs.proofs.Working.{operand_got, integer_bits, unsecond, one_only, two_words, within, of_one}
use Rattle.select_runs.specs.Selecting.{selecting}

next_or_end : {e : Rattle.cap_machine.specs.declared.end.End.End} → Ended e ≡ Next → ⊥
next_or_end e = absurd cc

-- ---- loads

bytes_alike : (k : IntKind) → loaded_bytes (load_op k) ≡ int_bytes k
bytes_alike int.Bool = refl
bytes_alike int.I8 = refl
bytes_alike int.U8 = refl
bytes_alike int.I16 = refl
bytes_alike int.U16 = refl
bytes_alike int.I32 = refl
bytes_alike int.U32 = refl
bytes_alike int.I64 = refl
bytes_alike int.U64 = refl

-- what is loaded, but for a truth value, is kept in its kind
kinds_alike : (k : IntKind) (n : ℕ) → (k ≡ int.Bool → ⊥) → n < 256 ^ int_bytes k → wrapped (loaded_kind (load_op k))
    (pos n) ≡ wrapped k (pos n)
kinds_alike int.Bool n ne h = absurd (ne refl)
kinds_alike int.I8 n ne h = refl
kinds_alike int.U8 n ne h = refl
kinds_alike int.I16 n ne h = refl
kinds_alike int.U16 n ne h = refl
kinds_alike int.I32 n ne h = refl
kinds_alike int.U32 n ne h = refl
kinds_alike int.I64 n ne h = refl
kinds_alike int.U64 n ne h = (IsKept-64 int.I64 n refl h).kept ∙ sym (IsKept-64 int.U64 n refl h).kept

byte_loaded : (n : ℕ) → n < 256 → wrapped int.U8 (pos n) ≡ n
byte_loaded n h = (IsKept-unsigned int.U8 n refl h).kept

load_row_is : (k : IntKind) (r a : ℕ) (n : Machine) → row n (Load (load_op k) r a (pos 0)) ≡ load_row n
    (load_op k) r a (pos 0)
unfolding row
load_row_is k r a n = refl

clc_row_is : (r a : ℕ) (n : Machine) → row n (Clc r a (pos 0)) ≡ clc_row n r a (pos 0)
unfolding row
clc_row_is r a n = refl

words_few : (k : TacKind) (r a : ℕ) → length (load_words k r a) + 6 ≤ load_cost k
words_few (kind.Int int.Bool) r a = omega arith
words_few (kind.Int int.I8) r a = omega arith
words_few (kind.Int int.U8) r a = omega arith
words_few (kind.Int int.I16) r a = omega arith
words_few (kind.Int int.U16) r a = omega arith
words_few (kind.Int int.I32) r a = omega arith
words_few (kind.Int int.U32) r a = omega arith
words_few (kind.Int int.I64) r a = omega arith
words_few (kind.Int int.U64) r a = omega arith
words_few (kind.Cap signed) r a = omega arith

-- the words of an integer but a truth value
plain_words : (k : IntKind) (r a : ℕ) → (k ≡ int.Bool → ⊥) → load_words (kind.Int k) r a ≡ Load (load_op k) r a
    (pos 0) ∷ []
plain_words int.Bool r a ne = absurd (ne refl)
plain_words int.I8 r a ne = refl
plain_words int.U8 r a ne = refl
plain_words int.I16 r a ne = refl
plain_words int.U16 r a ne = refl
plain_words int.I32 r a ne = refl
plain_words int.U32 r a ne = refl
plain_words int.I64 r a ne = refl
plain_words int.U64 r a ne = refl

is_truth : IntKind → Bool
is_truth int.Bool = true
is_truth k = false

other_kind : {k : IntKind} → k ≡ int.Bool → is_truth k ≡ false → ⊥
unfolding is_truth
other_kind e f = true_is_not (sym (ap is_truth e) ∙ f)
  where
    true_is_not : true ≡ false → ⊥
    true_is_not g = absurd cc

-- an integer comes into its register
module _ (s : Setting) (code : List Instr) (x : IsText s code) (p : Point) (t : State modes.Store) (n : Machine)
    (mid : ℕ)
    (point : IsAtPoint s code p mid t n) (r : ℕ) (range : (4 < r) × (r < 29)) (words : List Instr)
    (has_words : HasAt code mid words) where
  loaded_plain : (k : IntKind) → (k ≡ int.Bool → ⊥) → (a v : ℕ) → v < 256 ^ int_bytes k
      → load_row n (load_op k) r a (pos 0) ≡ set_integer n r (wrapped (loaded_kind (load_op k)) (pos v))
      → words ≡ load_words (kind.Int k) r a
      → Computed s code n (length words) (mid + length words) r r (null_at (wrapped k (pos v)))
  loaded_plain k ne a v small does e =
      one_only s code x p t n mid point (Load (load_op k) r a (pos 0)) r (null_at (wrapped k (pos v))) words (e
      ∙ plain_words k r a ne) has_words
      refl range (load_row_is k r a n ∙ does ∙ ap (set_integer n r) (kinds_alike k v ne small))

  loaded : (k : IntKind) (a v : ℕ) → v < 256 ^ int_bytes k
      → load_row n (load_op k) r a (pos 0) ≡ set_integer n r (wrapped (loaded_kind (load_op k)) (pos v))
      → words ≡ load_words (kind.Int k) r a
      → Computed s code n (length words) (mid + length words) r r (null_at (wrapped k (pos v)))
  unfolding row op_row is_truth
  loaded int.Bool a v small does e =
      two_words s code x p t n mid point (Load (load_op int.Bool) r a (pos 0)) (Op regs.Sltu r 0 r) r (null_at v)
      (null_at (wrapped int.Bool (pos v)))
      words e has_words refl refl range
      (load_row_is int.Bool r a n ∙ does ∙ ap (set_integer n r) (byte_loaded v small))
      (λ u holds. ap (λ q. set_integer u r (result_of regs.Sltu q (integer u r))) (null_address 0)
      ∙ ap (λ q. set_integer u r (result_of regs.Sltu 0 q)) (number_at u r v holds)
      ∙ ap (set_integer u r) (reduce_truth v (omega (arith, small))))
  loaded int.I8 a v small does e = loaded_plain int.I8 (λ z. other_kind z refl) a v small does e
  loaded int.U8 a v small does e = loaded_plain int.U8 (λ z. other_kind z refl) a v small does e
  loaded int.I16 a v small does e = loaded_plain int.I16 (λ z. other_kind z refl) a v small does e
  loaded int.U16 a v small does e = loaded_plain int.U16 (λ z. other_kind z refl) a v small does e
  loaded int.I32 a v small does e = loaded_plain int.I32 (λ z. other_kind z refl) a v small does e
  loaded int.U32 a v small does e = loaded_plain int.U32 (λ z. other_kind z refl) a v small does e
  loaded int.I64 a v small does e = loaded_plain int.I64 (λ z. other_kind z refl) a v small does e
  loaded int.U64 a v small does e = loaded_plain int.U64 (λ z. other_kind z refl) a v small does e

-- the first of them
abbrev load_word : TacKind → (r a : ℕ) → Instr
load_word (kind.Int k) r a = Load (load_op k) r a (pos 0)
load_word (kind.Cap signed) r a = Clc r a (pos 0)

first_is : (code : List Instr) (k : TacKind) (r a at : ℕ) (more : List Instr) → HasAt code at (load_words k r a ++ more)
    → slice_get code at ≡ Some (load_word k r a)
first_is code (kind.Int int.Bool) r a at more h = h.0
first_is code (kind.Int int.I8) r a at more h = h.0
first_is code (kind.Int int.U8) r a at more h = h.0
first_is code (kind.Int int.I16) r a at more h = h.0
first_is code (kind.Int int.U16) r a at more h = h.0
first_is code (kind.Int int.I32) r a at more h = h.0
first_is code (kind.Int int.U32) r a at more h = h.0
first_is code (kind.Int int.I64) r a at more h = h.0
first_is code (kind.Int int.U64) r a at more h = h.0
first_is code (kind.Cap signed) r a at more h = h.0

no_call : (k : TacKind) (r a : ℕ) → is_call (load_word k r a) ≡ false
no_call (kind.Int k) r a = refl
no_call (kind.Cap signed) r a = refl

same_length : (k : TacKind) (r a : ℕ) → length (load_words k r a) ≤ length (load_words k 0 0)
same_length (kind.Int int.Bool) r a = omega arith
same_length (kind.Int int.I8) r a = omega arith
same_length (kind.Int int.U8) r a = omega arith
same_length (kind.Int int.I16) r a = omega arith
same_length (kind.Int int.U16) r a = omega arith
same_length (kind.Int int.I32) r a = omega arith
same_length (kind.Int int.U32) r a = omega arith
same_length (kind.Int int.I64) r a = omega arith
same_length (kind.Int int.U64) r a = omega arith
same_length (kind.Cap signed) r a = omega arith

module _ (s : Setting) (code : List Instr) (x : IsText s code) (stack : StackIsThere s) (w : World) (p : Typed)
    (running : Running)
    (to from : ℕ) (k : TacKind) (source : Pos) (rest : List TacInstr)
    (sel : IsSelectable s p running (instr.Load to from k source) rest) (at : ℕ) (t : State modes.Store) (m : Machine)
    (point : IsAtPoint s code (before running (instr.Load to from k source) rest) at t m)
    (kinded : AreOfKinds (kinds_in s running) t.vars) (words : List Instr)
    (form : OfOne (selecting s running.fun) to from (Loads k) words) (has_words : HasAt code at words) where
  abbrev load_i : TacInstr
  load_i = instr.Load to from k source

  abbrev here : Point
  here = before running load_i rest

  abbrev bits : Value → Cap
  bits = capability_of (addresses_of s.map) (base_in t.mem.memory.shapes)

  abbrev through : Value
  through = temp_in t from

  -- what the meaning loads
  abbrev found : Result Value Fault
  found = load (Placed (addresses_of s.map)) t.mem.memory through (bytes_of (kind_of k))

  abbrev Done : Type 0
  Done = Accesses s code w p running load_i rest words source (at + length form.finds) at t m

  known : IsKnown t.mem.memory.shapes (functions_of s) through
  known = point.fits.calls.1.known from (now (zero, refl))

  parts : (to < length (kinds_in s running)) × (Rattle.tac_ir.specs.WellFormed.same_kind (kind_at
      (kinds_in s running) to) (kind_of k) ≡ true)
  parts =
      has_kind p sel.d (kinds_in s running) (code_in s running) to (kind_of k)
      (and_parts (has p sel.d (kinds_in s running) (code_in s running) to (kind_of k))
      (has_capability p sel.d (kinds_in s running) (code_in s running) from) sel.fits).0

  meant : (r : Result Value Fault) → found ≡ r → (go : Way → State modes.Store → Fate)
      → effect (operations (placed_plan s.map)) w p (kinds_in s running) load_i t go
      ≡ answer source r t (λ y u. set_temp to (read_as (kind_of k) y) u go)
  unfolding operations
  meant r e go = ap (λ y. answer source y t (λ v u. set_temp to (read_as (kind_of k) v) u go)) e

  -- a machine that stands for the state, with the pointer in a register
  abbrev HasPointer : Machine → ℕ → ℕ → Type 0
  HasPointer n mid a = IsAtPoint s code here mid t n × (register n a ≡ bits through)

  goes_home : (v : Value) → found ≡ Ok v → IsKnown t.mem.memory.shapes (functions_of s) (read_as (kind_of k) v)
      → IsOfKind (kind_of k) (read_as (kind_of k) v)
      → ((n : Machine) (mid a : ℕ) → IsAtPoint s code here mid t n → register n a ≡ bits through → (r : ℕ)
      (us : List Instr)
      → Loads k r a us → (4 < r) × (r < 29) → HasAt code mid us
      → Computed s code n (length us) (mid + length us) r r (bits (read_as (kind_of k) v))) → Done
  goes_home v e v_known v_kind does =
      let few = length (load_words k 0 0) in
      Goes (record {
        next = record t { vars = slice_set t.vars to (Some (read_as (kind_of k) v)) };
        means = meant (Ok v) e;
        kinded = kinded_set (kinds_in s running) t.vars to (read_as (kind_of k) v) kinded parts.0
            (kind_passes (kind_at (kinds_in s running) to) (kind_of k) (read_as (kind_of k) v) parts.1 v_kind);
        does = within s code (behind running rest) 0 (few + 6) (load_cost k) (at + length words) _ m (words_few k 0 0)
            (of_one s code x stack p running load_i rest to refl refl (λ n h. h) sel t m at point from (zero, refl)
            (read_as (kind_of k) v) v_known
            (Loads k) does few
            (λ r a us is. subst (λ y. length y ≤ few) (sym is) (same_length k r a)) words form has_words);
      })

  stops : (c : Cause) → found ≡ Err (fault.Cause c)
      → ((n : Machine) (mid r a : ℕ) → IsAtPoint s code here mid t n → register n a ≡ bits through → row n
      (load_word k r a) ≡ trap n c) → Done
  stops c e does =
      let q = subst (HasAt code at) form.are has_words in
      let zero_count : 0 + length form.finds ≡ length form.finds = omega arith in
      let f = operand_got s code x here t m m 0 at refl point from 28 form.a (now (zero, refl)) (omega arith)
      (omega arith) form.finds form.found
      (has_front code at form.finds form.then_on q) in
      let mid : ℕ = at + length form.finds in
      let back = subst (HasAt code mid) form.makes.are (has_back code at form.finds form.then_on q) in
      let word = first_is code k form.makes.r form.a mid form.makes.keep
      (subst (λ y. HasAt code mid (y ++ form.makes.keep)) form.makes.works back) in
      let few = operand_few s running.fun from 28 form.finds form.a form.found in
      let dear = words_few k 0 0 in
      Stops (record {
        cause = c;
        means = meant (Err (fault.Cause c)) e;
        count = 0 + length form.finds;
        to = f.to;
        lt = omega (arith, few, dear);
        leads = f.leads;
        ends = traps_at s code x here mid t f.to f.point (load_word k form.makes.r form.a) word
            (no_call k form.makes.r form.a) c
            (does f.to mid form.makes.r form.a f.point f.holds);
      })

  -- the machine behind the operand
  behind_operand : (n : Machine) × IsAtPoint s code here (at + length form.finds) t n ×
      (register n form.a ≡ bits through)
  behind_operand =
      let q = subst (HasAt code at) form.are has_words in
      let f = operand_got s code x here t m m 0 at refl point from 28 form.a (now (zero, refl)) (omega arith)
      (omega arith) form.finds form.found
      (has_front code at form.finds form.then_on q) in
      (f.to, f.point, f.holds)

-- a capability
load_capability : (s : Setting) (code : List Instr) (x : IsText s code) (stack : StackIsThere s) (w : World)
    (p : Typed) (running : Running)
    (to from : ℕ) (signed : Bool) (source : Pos) (rest : List TacInstr)
    (sel : IsSelectable s p running (instr.Load to from (kind.Cap signed) source) rest) (at : ℕ)
    (t : State modes.Store) (m : Machine)
    (point : IsAtPoint s code (before running (instr.Load to from (kind.Cap signed) source) rest) at t m)
    (kinded : AreOfKinds (kinds_in s running) t.vars) (words : List Instr)
    (form : OfOne (selecting s running.fun) to from (Loads (kind.Cap signed)) words) (has_words : HasAt code at words)
    → Accesses s code w p running (instr.Load to from (kind.Cap signed) source) rest words source
    (at + length form.finds) at t m
load_capability s code x stack w p running to from signed source rest sel at t m point kinded words form has_words =
    by (load (Placed (addresses_of s.map)) t.mem.memory (temp_in t from) 16) refl
  where
    answers : (n : Machine) (mid a r : ℕ) → IsAtPoint s code (before running (instr.Load to from
        (kind.Cap signed) source) rest) mid t n
        → register n a ≡ capability_of (addresses_of s.map) (base_in t.mem.memory.shapes) (temp_in t from)
        → (y : Result Value Fault) → load (Placed (addresses_of s.map)) t.mem.memory (temp_in t from) 16 ≡ y
        → CapabilityLoadAnswers (functions_of s) (addresses_of s.map) t.mem.memory.shapes n r y (clc_row n r a (pos 0))
    answers n mid a r here holds y e =
        subst (λ z. CapabilityLoadAnswers (functions_of s) (addresses_of s.map) t.mem.memory.shapes n r z
        (clc_row n r a (pos 0))) e
        ((loads_fit_law (functions_of s) (addresses_of s.map) t.mem.memory n here.fits.objects).capabilities r a
        (temp_in t from)
        (point.fits.calls.1.known from (now (zero, refl))) holds)

    by : (y : Result Value Fault) → load (Placed (addresses_of s.map)) t.mem.memory (temp_in t from) 16 ≡ y
        → Accesses s code w p running (instr.Load to from (kind.Cap signed) source) rest words source
        (at + length form.finds) at t m
    by (Ok v) e =
        let b = behind_operand s code x stack w p running to from
        (kind.Cap signed) source rest sel at t m point kinded words form has_words in
        let o = answers b.0 (at + length form.finds) form.a 0 b.1 b.2 (Ok v) e in
        goes_home s code x stack w p running to from (kind.Cap signed) source rest sel at t m point kinded words form
        has_words v e o.1 o.0
        (λ n mid a here holds r us is range hs.
        one_only s code x (before running (instr.Load to from (kind.Cap signed) source) rest) t n mid here (Clc r a
        (pos 0)) r
        (capability_of (addresses_of s.map) (base_in t.mem.memory.shapes) v) us is hs refl range
        (clc_row_is r a n ∙ (answers n mid a r here holds (Ok v) e).2))
    by (Err (fault.Cause c)) e =
        stops s code x stack w p running to from (kind.Cap signed) source rest sel at t m point kinded words form
        has_words c e
        (λ n mid r a here holds. clc_row_is r a n ∙ answers n mid a r here holds (Err (fault.Cause c)) e)
    by (Err fault.Outside) e =
        Leaves (meant s code x stack w p running to from (kind.Cap signed) source rest sel at t m point kinded words
        form has_words (Err fault.Outside) e)
    by (Err (fault.Unspecified u)) e =
        let b = behind_operand s code x stack w p running to from
        (kind.Cap signed) source rest sel at t m point kinded words form has_words in
        absurd (answers b.0 (at + length form.finds) form.a 0 b.1 b.2 (Err (fault.Unspecified u)) e)

-- an integer
load_integer : (s : Setting) (code : List Instr) (x : IsText s code) (stack : StackIsThere s) (w : World) (p : Typed)
    (running : Running)
    (to from : ℕ) (k : IntKind) (source : Pos) (rest : List TacInstr)
    (sel : IsSelectable s p running (instr.Load to from (kind.Int k) source) rest) (at : ℕ) (t : State modes.Store)
    (m : Machine)
    (point : IsAtPoint s code (before running (instr.Load to from (kind.Int k) source) rest) at t m)
    (kinded : AreOfKinds (kinds_in s running) t.vars) (words : List Instr)
    (form : OfOne (selecting s running.fun) to from (Loads (kind.Int k)) words) (has_words : HasAt code at words)
    → Accesses s code w p running (instr.Load to from (kind.Int k) source) rest words source
    (at + length form.finds) at t m
load_integer s code x stack w p running to from k source rest sel at t m point kinded words form has_words =
    by (load (Placed (addresses_of s.map)) t.mem.memory (temp_in t from) (int_bytes k)) refl
  where
    answers : (n : Machine) (mid a r : ℕ) → IsAtPoint s code (before running (instr.Load to from
        (kind.Int k) source) rest) mid t n
        → register n a ≡ capability_of (addresses_of s.map) (base_in t.mem.memory.shapes) (temp_in t from)
        → (y : Result Value Fault) → load (Placed (addresses_of s.map)) t.mem.memory (temp_in t from) (int_bytes k) ≡ y
        → LoadAnswers n (load_op k) r y (load_row n (load_op k) r a (pos 0))
    answers n mid a r here holds y e =
        subst (λ z. LoadAnswers n (load_op k) r z (load_row n (load_op k) r a (pos 0)))
        (ap (load (Placed (addresses_of s.map)) t.mem.memory (temp_in t from)) (bytes_alike k) ∙ e)
        ((loads_fit_law (functions_of s) (addresses_of s.map) t.mem.memory n here.fits.objects).integers
        (load_op k) r a (temp_in t from)
        (point.fits.calls.1.known from (now (zero, refl))) holds)

    by : (y : Result Value Fault) → load (Placed (addresses_of s.map)) t.mem.memory (temp_in t from) (int_bytes k) ≡ y
        → Accesses s code w p running (instr.Load to from (kind.Int k) source) rest words source
        (at + length form.finds) at t m
    by (Ok v) e =
        let b = behind_operand s code x stack w p running to from
        (kind.Int k) source rest sel at t m point kinded words form has_words in
        let o = answers b.0 (at + length form.finds) form.a 0 b.1 b.2 (Ok v) e in
        let is_n : number_of v ≡ o.0 = ap number_of o.1 in
        goes_home s code x stack w p running to from (kind.Int k) source rest sel at t m point kinded words form
        has_words v e
        (wrapped-below k (pos (number_of v))) (IsKept-wrapped k (pos (number_of v)))
        (λ n mid a here holds r us is range hs.
        let q = answers n mid a r here holds (Ok v) e in
        subst (Computed s code n (length us) (mid + length us) r r)
        (ap (λ y. null_at (wrapped k (pos y))) (sym (ap number_of q.1))
        ∙ sym (integer_bits (addresses_of s.map) (base_in t.mem.memory.shapes) (wrapped k (pos (number_of v)))))
        (loaded s code x (before running (instr.Load to from
        (kind.Int k) source) rest) t n mid here r range us hs k a q.0
        (subst (λ y. q.0 < 256 ^ y) (bytes_alike k) q.2) q.3 is))
    by (Err (fault.Cause c)) e =
        stops s code x stack w p running to from (kind.Int k) source rest sel at t m point kinded words form has_words
        c e
        (λ n mid r a here holds. load_row_is k r a n ∙ answers n mid a r here holds (Err (fault.Cause c)) e)
    by (Err fault.Outside) e =
        Leaves (meant s code x stack w p running to from (kind.Int k) source rest sel at t m point kinded words form
        has_words (Err fault.Outside) e)
    by (Err (fault.Unspecified u)) e =
        let b = behind_operand s code x stack w p running to from
        (kind.Int k) source rest sel at t m point kinded words form has_words in
        absurd (answers b.0 (at + length form.finds) form.a 0 b.1 b.2 (Err (fault.Unspecified u)) e)

-- ---- stores

store_kinds : (k : TacKind) (v : Value) → IsOfKind (kind_of k) v → stores_integer (store_op k) ≡ is_integer v
store_kinds (kind.Int int.Bool) (Int n) o = refl
store_kinds (kind.Int int.I8) (Int n) o = refl
store_kinds (kind.Int int.U8) (Int n) o = refl
store_kinds (kind.Int int.I16) (Int n) o = refl
store_kinds (kind.Int int.U16) (Int n) o = refl
store_kinds (kind.Int int.I32) (Int n) o = refl
store_kinds (kind.Int int.U32) (Int n) o = refl
store_kinds (kind.Int int.I64) (Int n) o = refl
store_kinds (kind.Int int.U64) (Int n) o = refl
store_kinds (kind.Int k) (Live object low high offset permissions) o = absurd o
store_kinds (kind.Int k) (Fun f) o = absurd o
store_kinds (kind.Int k) (Raw address upper) o = absurd o
store_kinds (kind.Cap signed) v o = sym o

stored_alike : (k : TacKind) → stored_bytes (store_op k) ≡ bytes_of (kind_of k)
stored_alike (kind.Int int.Bool) = refl
stored_alike (kind.Int int.I8) = refl
stored_alike (kind.Int int.U8) = refl
stored_alike (kind.Int int.I16) = refl
stored_alike (kind.Int int.U16) = refl
stored_alike (kind.Int int.I32) = refl
stored_alike (kind.Int int.U32) = refl
stored_alike (kind.Int int.I64) = refl
stored_alike (kind.Int int.U64) = refl
stored_alike (kind.Cap signed) = refl

store_row_is : (k : TacKind) (b a : ℕ) (n : Machine) → row n (Store (store_op k) b a (pos 0)) ≡ store_row n
    (store_op k) b a (pos 0)
unfolding row
store_row_is k b a n = refl

-- a store that goes on goes to the next word
checked_on : (n : Machine) (size v : ℕ) (tag : Bool) (r : Result ℕ Cause) (after : Machine)
    → store_checked n size v tag r ≡ (Next, after) → after.pc ≡ added n.pc 4
checked_on n size v tag (Err c) after e = absurd (ended c e)
  where
    ended : (c : Cause) → trap n c ≡ (Next, after) → ⊥
    ended c f = next_or_end (ap (λ (z : Step × Machine). z.0) f)
checked_on n size v tag (Ok place) after e = by (is_inside n.mem place) e
  where
    by : (b : Bool) → stored n place size v tag b ≡ (Next, after) → after.pc ≡ added n.pc 4
    by true f = sym (ap (λ (z : Step × Machine). z.1.pc) f)
    by false f = absurd (next_or_end (ap (λ (z : Step × Machine). z.0) f))

store_on : (n : Machine) (o : StoreOp) (b a : ℕ) (after : Machine) → store_row n o b a (pos 0) ≡ (Next, after)
    → after.pc ≡ added n.pc 4
unfolding store_row
store_on n Csc b a after e = checked_on n _ _ _ _ after e
store_on n Sb b a after e = checked_on n _ _ _ _ after e
store_on n Sh b a after e = checked_on n _ _ _ _ after e
store_on n Sw b a after e = checked_on n _ _ _ _ after e
store_on n Sd b a after e = checked_on n _ _ _ _ after e

module _ (s : Setting) (code : List Instr) (x : IsText s code) (stack : StackIsThere s) (w : World) (p : Typed)
    (running : Running)
    (to value : ℕ) (k : TacKind) (source : Pos) (rest : List TacInstr)
    (sel : IsSelectable s p running (instr.Store to value k source) rest) (at : ℕ) (t : State modes.Store) (m : Machine)
    (point : IsAtPoint s code (before running (instr.Store to value k source) rest) at t m)
    (kinded : AreOfKinds (kinds_in s running) t.vars) (words : List Instr)
    (form : StoreWords (selecting s running.fun) to value k words) (has_words : HasAt code at words) where
  abbrev store_i : TacInstr
  store_i = instr.Store to value k source

  abbrev store_here : Point
  store_here = before running store_i rest

  abbrev as_bits : Value → Cap
  as_bits = capability_of (addresses_of s.map) (base_in t.mem.memory.shapes)

  abbrev stored_by : Result Memory Fault
  stored_by = store (Placed (addresses_of s.map)) t.mem.memory (temp_in t to) (bytes_of (kind_of k)) (temp_in t value)

  abbrev word : ℕ
  word = at + (length form.finds + length form.others)

  abbrev Store_done : Type 0
  Store_done = Accesses s code w p running store_i rest words source word at t m

  value_kind : IsOfKind (kind_of k) (temp_in t value)
  value_kind =
      let h = has_kind p sel.d (kinds_in s running) (code_in s running) value (kind_of k)
      (and_parts (has_capability p sel.d (kinds_in s running) (code_in s running) to)
      (has p sel.d (kinds_in s running) (code_in s running) value (kind_of k)) sel.fits).1 in
      kind_passes (kind_of k) (kind_at (kinds_in s running) value) (temp_in t value)
      (same_turned (kind_at (kinds_in s running) value) (kind_of k) h.1) (kinded.each value h.0)

  -- both operands in their registers
  record Both_there : Type 0 where
    at_word : Machine
    leads : Leads (length form.finds + length form.others) m at_word
    still : IsAtPoint s code store_here word t at_word
    pointer : register at_word form.a ≡ as_bits (temp_in t to)
    stored_value : register at_word form.b ≡ as_bits (temp_in t value)
    is_word : slice_get code word ≡ Some (Store (store_op k) form.b form.a (pos 0))

  both_there : Both_there
  both_there =
      let end = Store (store_op k) form.b form.a (pos 0) ∷ [] in
      let q = subst (HasAt code at) form.are has_words in
      let mid : ℕ = at + length form.finds in
      let f = operand_got s code x store_here t m m 0 at refl point to 28 form.a (now (zero, refl)) (omega arith)
      (omega arith) form.finds form.found
      (has_front code at form.finds (form.others ++ end) q) in
      let r = has_back code at form.finds (form.others ++ end) q in
      let e = operand_got s code x store_here t m f.to (0 + length form.finds) mid f.leads f.point value 29 form.b
      (now (suc zero, refl)) (omega arith)
      (omega arith) form.others form.other (has_front code mid form.others end r) in
      let count : 0 + length form.finds + length form.others ≡ length form.finds + length form.others = omega arith in
      let place : mid + length form.others ≡ word = omega arith in
      record {
        at_word = e.to;
        leads = subst (λ y. Leads y m e.to) count e.leads;
        still = subst (λ y. IsAtPoint s code store_here y t e.to) place e.point;
        pointer = e.others form.a (unsecond s code x running.fun to form.finds form.a form.found) ∙ f.holds;
        stored_value = e.holds;
        is_word = subst (λ y. slice_get code y ≡ Some (Store (store_op k) form.b form.a (pos 0))) place
            (has_back code mid form.others end r).0;
      }

  few_before : length form.finds + length form.others ≤ 6
  few_before =
      let a = operand_few s running.fun to 28 form.finds form.a form.found in
      let b = operand_few s running.fun value 29 form.others form.b form.other in
      omega (arith, a, b)

  answers : (y : Result Memory Fault) → stored_by ≡ y
      → StoreKeeps s (Some store_here) t both_there.at_word y (store_row both_there.at_word (store_op k) form.b form.a
      (pos 0))
  answers y e =
      let b = both_there in
      subst (λ z. StoreKeeps s (Some store_here) t b.at_word z (store_row b.at_word (store_op k) form.b form.a (pos 0)))
      (ap (λ n. store (Placed (addresses_of s.map)) t.mem.memory (temp_in t to) n (temp_in t value)) (stored_alike k)
      ∙ e)
      (stores_keep_law s x.legal (Some store_here) t b.at_word b.still.fits (store_op k) form.b form.a (temp_in t to)
      (temp_in t value)
      (store_kinds k (temp_in t value) value_kind) (point.fits.calls.1.known to (now (zero, refl)))
      (point.fits.calls.1.known value (now (suc zero, refl))) b.pointer b.stored_value)

  store_meant : (y : Result Memory Fault) → stored_by ≡ y → (go : Way → State modes.Store → Fate)
      → effect (operations (placed_plan s.map)) w p (kinds_in s running) store_i t go
      ≡ answer source (modes.stored t.mem y) t (λ mem u. go On (record u { mem = mem }))
  unfolding operations
  store_meant y e go = ap (λ z. answer source (modes.stored t.mem z) t (λ mem u. go On (record u { mem = mem }))) e

  store_goes : (objects : Memory) → stored_by ≡ Ok objects → Store_done
  store_goes objects e =
      let b = both_there in
      let o = answers (Ok objects) e in
      let few = few_before in
      let next_t : State modes.Store = record t { mem = with_memory t.mem objects } in
      let h = there s code x store_here word t b.at_word b.still in
      let within_it = slice_get_within code word (Store (store_op k) form.b form.a (pos 0)) b.is_word in
      let counter_is : o.0.pc ≡ counter_at (ground_of s code) (word + 1) =
      store_on b.at_word (store_op k) form.b form.a o.0 o.1
      ∙ ap (λ (n : Machine). n.pc) (next_is (ground_of s code)
      (laid s code x) b.at_word word b.still.counter within_it) in
      let goes : act b.at_word ≡ Acted o.0 =
      fetched_here (ground_of s code) (laid s code x) b.at_word word (Store (store_op k) form.b form.a
      (pos 0)) h.counter h.text b.is_word
      ∙ ap act_of (store_row_is k form.b form.a b.at_word ∙ o.1) in
      let size : word + 1 ≡ at + length words =
      sym (ap (λ y. at + length y) form.are
      ∙ long form.finds form.others (Store (store_op k) form.b form.a (pos 0) ∷ [])) in
      Goes (record {
        next = next_t;
        means = store_meant (Ok objects) e;
        kinded = kinded;
        does = record {
          count = length form.finds + length form.others + 1;
          to = o.0;
          ge = omega arith;
          le = omega (arith, few);
          leads = join (length form.finds + length form.others) 1 m b.at_word o.0 b.leads (o.0, goes, refl);
          point = record {
            fits = moves_on_law s store_here next_t o.0 o.2 rest
                (λ temp live. reads_as_before s running store_i rest refl refl temp live);
            counter = counter_is ∙ ap (counter_at (ground_of s code)) size;
          };
        };
      })
    where
      long : (a b c : List Instr) → at + length (a ++ (b ++ c)) ≡ at + (length a + length b) + length c
      long a b c = omega (arith, length-append a (b ++ c), length-append b c)

  store_stops : (c : Cause) → stored_by ≡ Err (fault.Cause c) → Store_done
  store_stops c e =
      let b = both_there in
      let few = few_before in
      Stops (record {
        cause = c;
        means = store_meant (Err (fault.Cause c)) e;
        count = length form.finds + length form.others;
        to = b.at_word;
        lt = omega (arith, few);
        leads = b.leads;
        ends = traps_at s code x store_here word t b.at_word b.still (Store (store_op k) form.b form.a
            (pos 0)) b.is_word refl c
            (store_row_is k form.b form.a b.at_word ∙ answers (Err (fault.Cause c)) e);
      })

  stores : Store_done
  stores = by stored_by refl
    where
      by : (y : Result Memory Fault) → stored_by ≡ y → Store_done
      by (Ok objects) e = store_goes objects e
      by (Err (fault.Cause c)) e = store_stops c e
      by (Err fault.Outside) e = Leaves (store_meant (Err fault.Outside) e)
      by (Err (fault.Unspecified u)) e = absurd (answers (Err (fault.Unspecified u)) e)

pub accesses_run_law : AccessesRun
accesses_run_law s code x stack w p running (instr.Load to from
    (kind.Cap signed) source) rest is sel at t m point kinded skip ws form held_words =
    subst (λ y. Accesses s code w p running (instr.Load to from (kind.Cap signed) source) rest ws source
    (at + y) at t m) (sym form.1)
    (load_capability s code x stack w p running to from signed source rest sel at t m point kinded ws form.0 held_words)
accesses_run_law s code x stack w p running (instr.Load to from
    (kind.Int k) source) rest is sel at t m point kinded skip ws form held_words =
    subst (λ y. Accesses s code w p running (instr.Load to from (kind.Int k) source) rest ws source (at + y) at t m)
    (sym form.1)
    (load_integer s code x stack w p running to from k source rest sel at t m point kinded ws form.0 held_words)
accesses_run_law s code x stack w p running (instr.Store to value k source) rest is sel at t m point kinded skip ws
    form held_words =
    subst (λ y. Accesses s code w p running (instr.Store to value k source) rest ws source (at + y) at t m) (sym form.1)
    (stores s code x stack w p running to value k source rest sel at t m point kinded ws form.0 held_words)
accesses_run_law s code x stack w p running i rest is sel at t m point kinded skip ws form held_words = absurd is
