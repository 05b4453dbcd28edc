-- Operations on integers: what they mean, the machine computes.
use Rattle.std.proofs.Common.{◌≡◌, ℕ, zero, suc, ◌+◌, ◌%◌, ◌^◌, ◌<◌, ◌≤◌, Bool, true, false, ◌&&◌, List, [], ◌∷◌}
use Rattle.std.proofs.Common.{length, Some, refl, sym, ap, ◌∙◌, subst, arith, pos, if◌then◌else◌}
use Rattle.std.specs.Prelude.{slice_set, Ok}
use Rattle.std.proofs.lemmas.Bool.{and_parts, ltb-true}
use Rattle.ck_base.specs.World.{World}
use Rattle.ck_int.specs.declared.kinds.IntKind.{IntKind}
use Rattle.ck_int.specs.declared.kinds.IntKind.TheVariants as int
use Rattle.ck_int.specs.declared.kinds.IntOp.{IntOp}
use Rattle.ck_int.specs.declared.kinds.IntOp.TheVariants as op
use Rattle.ck_int.specs.Arithmetic.{binary_of}
use Rattle.ck_int.specs.Kinds.{form_of, width_of, IsKept, wrapped}
use Rattle.ck_int.proofs.Laws.{IsKept-below, IsKept-binary_of, kept_of-below}
use Rattle.cap_ops.specs.declared.capability.Cap.{Cap}
use Rattle.cap_ops.specs.Capability.{null_at}
use Rattle.rv_instr.specs.declared.instr.Instr.{Instr}
use Rattle.rv_instr.specs.declared.instr.Instr.TheVariants.{Imm, Shift, Op}
use Rattle.rv_instr.specs.declared.ops.ShiftOp.TheVariants.{Slli, Srli, Srai}
use Rattle.rv_instr.specs.declared.ops.ShiftOp.{ShiftOp}
use Rattle.rv_instr.specs.declared.ops.ImmOp.TheVariants.{Andi}
use Rattle.rv_instr.specs.declared.ops.RegOp.TheVariants as regs
use Rattle.cap_machine.specs.declared.machine.Machine.{Machine}
use Rattle.cap_machine.specs.Integers.{extended, result_of, immediate_op, shift_op}
use Rattle.cap_machine.specs.State.{register, integer}
use Rattle.cap_machine.specs.Rows.{row, op_row, imm_row, shift_row, set_integer}
use Rattle.cap_machine.specs.Step.{is_call}
use Rattle.c_tree.specs.declared.typed.Typed.{Typed}
use Rattle.obj_mem.specs.Objects.{base_in}
use Rattle.obj_mem.specs.Table.{addresses_of}
use Rattle.obj_mem.specs.Values.{Value, Int, capability_of}
use Rattle.cheri_c_sem.specs.Kinds.{Kind, Plain, Capability, int_kind, number_of}
use Rattle.cheri_c_sem.specs.Modes as modes
use Rattle.cheri_c_sem.specs.Modes.{operations, placed_plan}
use Rattle.cheri_c_sem.specs.Operations.{on_ok, number_by}
use Rattle.cheri_c_sem.specs.Steps.{State, answer}
use Rattle.cheri_c_sem.specs.Types.{is_shift}
use Rattle.select_runs.proofs.Reduced.{IsPromoted, result_below, reduce_unsigned, reduce_8, reduce_16, reduce_truth}
use Rattle.select_runs.proofs.Reduced.{small_extended}
use Rattle.tac_ir.specs.Costs.{operation_cost, is_wide}
use Rattle.tac_ir.specs.Effects.{kind_at, temp_in, no_position, set as set_temp}
use Rattle.tac_ir.specs.Meaning.{Running}
use Rattle.tac_ir.specs.Temps.{IsIn as IsAmong, now}
use Rattle.tac_ir.specs.WellFormed.{has, has_int, is_temp, is_int, same_kind}
use Rattle.tac_ir.specs.declared.code.TacInstr.{TacInstr}
use Rattle.tac_ir.specs.declared.code.TacInstr.TheVariants as instr
use Rattle.place_inject.specs.Values.{IsKnown}
use Rattle.place_inject.specs.Frames.{Setting, Point, IsLive, functions_of}
use Rattle.place_inject.specs.Spills.{StackIsThere}
use Rattle.place_inject.proofs.Results.{numbers_read_back_law}
use Rattle.select_words.specs.Standing.{HasAt}
use Rattle.select_words.specs.Emitted.{IsNumber}
use Rattle.select_words.specs.Forms.{OfOne, Other}
use Rattle.select_words.specs.Operations.{AtKind, reduce_code, is_exact, finish_code, selected_op, add_op, shift_by}
use Rattle.select_words.specs.Operations.{OneThen, TwoThen}
use Rattle.select_words.specs.Operations.{IntegerWords, Registers, WithNumber, NumberWith, LessNumber, Shifted, Times}
use Rattle.select_words.specs.Operations.{TimesFirst}
use Rattle.select_runs.specs.Instructions.{OperationsRun}
use Rattle.select_runs.specs.Kinds.{IsOfKind, AreOfKinds}
use Rattle.select_runs.specs.Operands.{IsText, IsAtPoint}
use Rattle.select_runs.specs.Results.{Computed, Arrives, before, behind, kinds_in, code_in, IsSelectable}
use Rattle.select_runs.proofs.Arithmetic.{Gives, registers_give, immediate_is, no_shift, commutes, less_is, shift_gives}
use Rattle.select_runs.proofs.Arithmetic.{times_is, product_turns, mask_is}
use Rattle.select_runs.proofs.Kinded.{kind_passes, same_turned, kinded_set, has_kind}
use Rattle.select_runs.proofs.Numbers.{number_at, null_address}
use Rattle.select_runs.proofs.Intrinsics.{same_int}
use Rattle.select_runs.proofs.Working.{integer_of, integer_bits, first_word, next_word, within, of_one, of_two}
use Rattle.select_runs.proofs.Working.{other_comes}
use Rattle.select_runs.specs.Selecting.{selecting}

-- ---- integers in registers

-- a value of an integer kind, as it is kept
pub kept_integer : (k : IntKind) (j : Kind) (v : Value) → same_kind j (Plain k) ≡ true → IsOfKind j v
    → (v ≡ Int (number_of v)) × IsKept k (number_of v)
kept_integer k j v same o =
    let e = integer_of j v (same_int j k same) o in
    (e, kind_passes (Plain k) j (Int (number_of v)) (same_turned j (Plain k) same) (subst (IsOfKind j) e o))

true_false : true ≡ false → ⊥
true_false e = absurd cc

-- a kind of 64 bits has nothing to be reduced
wide_ends : (o : IntOp) (k : IntKind) → is_wide k ≡ true → (r : ℕ) → [] ≡ finish_code k o false r
wide_ends o int.I64 e r = refl
wide_ends o int.U64 e r = refl
wide_ends o int.Bool e r = cc
wide_ends o int.I8 e r = cc
wide_ends o int.U8 e r = cc
wide_ends o int.I16 e r = cc
wide_ends o int.U16 e r = cc
wide_ends o int.I32 e r = refl
wide_ends o int.U32 e r = cc

whole : (o : IntOp) (k : IntKind) → is_wide k ≡ true → (made v : ℕ) → made < 2 ^ 64 → made ≡ v → Gives k o false made v
whole o k e made v small same = record { below = small; exact = λ f. same; else_reduced = λ f. absurd (by k e f) }
  where
    by : (k : IntKind) → is_wide k ≡ true → is_exact k o false ≡ false → ⊥
    by int.U32 e f = true_false (sym e)
    by int.I64 e f = true_false f
    by int.U64 e f = true_false f
    by int.Bool e f = true_false (sym e)
    by int.I8 e f = true_false (sym e)
    by int.U8 e f = true_false (sym e)
    by int.I16 e f = true_false (sym e)
    by int.U16 e f = true_false (sym e)
    by int.I32 e f = true_false f

-- shifts are at promoted kinds
shifts_promoted : (o : IntOp) (k : IntKind) → is_shift o ≡ true → AtKind k o → IsPromoted k
shifts_promoted op.Shl k e p = p
shifts_promoted op.Shr k e p = p
shifts_promoted op.Add k e p = cc
shifts_promoted op.Sub k e p = cc
shifts_promoted op.Mul k e p = cc
shifts_promoted op.Div k e p = cc
shifts_promoted op.Rem k e p = cc
shifts_promoted op.And k e p = cc
shifts_promoted op.Or k e p = cc
shifts_promoted op.Xor k e p = cc

-- the count of a shift has any integer kind
number_by_int : (s : Setting) (t : State modes.Store) (k : Kind) (v : Value) → is_int k ≡ true
    → number_by (operations (placed_plan s.map)) t.mem k v ≡ Ok (number_of v)
number_by_int s t (Plain k) v h = refl
number_by_int s t (Capability signed) v h = cc

module _ (s : Setting) (code : List Instr) (x : IsText s code) (p : Point) (t : State modes.Store) where
  -- a temp that is a number holds it
  pub number_is : (at : ℕ) (m : Machine) → IsAtPoint s code p at t m → (temp n v : ℕ) → IsLive s p temp
      → IsNumber (selecting s p.running.fun) temp n → temp_in t temp ≡ Int v → v ≡ n
  number_is at m point temp n v live is e =
      let c = (numbers_read_back_law s p t m point.fits temp n live is).0 in
      sym (null_address v)
      ∙ sym (ap (λ (d : Cap). d.fields.address) (integer_bits (addresses_of s.map) (base_in t.mem.memory.shapes) v))
      ∙ sym (ap (λ y. (capability_of (addresses_of s.map) (base_in t.mem.memory.shapes) y).fields.address) e)
      ∙ ap (λ (d : Cap). d.fields.address) c ∙ null_address n

  -- ---- a result is reduced to its kind

  finish_more : (k : IntKind) → ℕ
  finish_more int.I32 = 0
  finish_more int.I64 = 0
  finish_more int.U64 = 0
  finish_more k = 2

  half_exact : (o : IntOp) (by_number : Bool) (r v : ℕ) → Gives int.U32 o by_number r v → (n : Machine)
      (mid count at : ℕ)
      → IsAtPoint s code p at t n → (q : ℕ) → (4 < q) × (q < 29) → (h : Computed s code n count mid q q (null_at r)) →
      (b : Bool)
      → is_exact int.U32 o by_number ≡ b → (ws : List Instr)
      → ws ≡ (if b then [] else Shift Slli q q 32 ∷ Shift Srli q q 32 ∷ []) → HasAt code mid ws
      → Computed s code n (count + length ws) (mid + length ws) q q (null_at v)
  unfolding row shift_row
  half_exact o by_number r v gives n mid count at point q range h true e ws is has =
      let one : count ≡ count + 0 = omega arith in
      let two : mid ≡ mid + 0 = omega arith in
      subst (λ y. Computed s code n (count + length y) (mid + length y) q q (null_at v)) (sym is)
      (subst (λ y. Computed s code n y (mid + 0) q q (null_at v)) one
      (subst (λ y. Computed s code n count y q q (null_at v)) two
      (subst (λ y. Computed s code n count mid q q (null_at y)) (gives.exact e) h)))
  half_exact o by_number r v gives n mid count at point q range h false e ws is has =
      let w = subst (HasAt code mid) is has in
      let up = result_of regs.Sll r 32 in
      let down = result_of regs.Srl up 32 in
      let a = next_word s code x p t n at count mid q (null_at r) (null_at up) point h
      (Shift Slli q q 32) w.0 refl range
      (λ u holds. ap (λ y. set_integer u q (result_of regs.Sll y 32)) (number_at u q r holds)) in
      let b = next_word s code x p t n at (count + 1) (mid + 1) q (null_at up) (null_at down) point a
      (Shift Srli q q 32) w.1.0 refl range
      (λ u holds. ap (λ y. set_integer u q (result_of regs.Srl y 32)) (number_at u q up holds)) in
      let is_v : down ≡ v = (reduce_unsigned r gives.below).2 ∙ gives.else_reduced e in
      let one : count + 1 + 1 ≡ count + 2 = omega arith in
      let two : mid + 1 + 1 ≡ mid + 2 = omega arith in
      subst (λ y. Computed s code n (count + length y) (mid + length y) q q (null_at v)) (sym is)
      (subst (λ y. Computed s code n y (mid + 2) q q (null_at v)) one
      (subst (λ y. Computed s code n (count + 1 + 1) y q q (null_at v)) two
      (subst (λ y. Computed s code n (count + 1 + 1) (mid + 1 + 1) q q (null_at y)) is_v b)))

  none_more : (r v : ℕ) → r ≡ v → (n : Machine) (mid count q : ℕ) → Computed s code n count mid q q (null_at r)
      → Computed s code n (count + 0) (mid + 0) q q (null_at v)
  none_more r v e n mid count q h =
      let one : count ≡ count + 0 = omega arith in
      let two : mid ≡ mid + 0 = omega arith in
      subst (λ y. Computed s code n y (mid + 0) q q (null_at v)) one
      (subst (λ y. Computed s code n count y q q (null_at v)) two
      (subst (λ y. Computed s code n count mid q q (null_at y)) e h))

  -- the kinds of fewer than 32 bits: what 32 gave is reduced
  module _ (n : Machine) (mid count at : ℕ) (point : IsAtPoint s code p at t n) (q r : ℕ) (range : (4 < q) × (q < 29))
      (h : Computed s code n count mid q q (null_at r)) where
    by_shifts : (back : ShiftOp) (c v : ℕ) → is_call (Shift back q q c) ≡ false
        → result_of (shift_op back) (result_of regs.Sll r c) c ≡ v
        → HasAt code mid (Shift Slli q q c ∷ Shift back q q c ∷ [])
        → Computed s code n (count + 2) (mid + 2) q q (null_at v)
    unfolding row shift_row
    by_shifts back c v plain is w =
        let up = result_of regs.Sll r c in
        let a = next_word s code x p t n at count mid q (null_at r) (null_at up) point h
        (Shift Slli q q c) w.0 refl range
        (λ u holds. ap (λ y. set_integer u q (result_of regs.Sll y c)) (number_at u q r holds)) in
        let b = next_word s code x p t n at (count + 1) (mid + 1) q (null_at up) (null_at v) point a
        (Shift back q q c) w.1.0 plain range
        (λ u holds. ap (λ y. set_integer u q (result_of (shift_op back) y c)) (number_at u q up holds) ∙ ap
        (set_integer u q) is) in
        let one : count + 1 + 1 ≡ count + 2 = omega arith in
        let two : mid + 1 + 1 ≡ mid + 2 = omega arith in
        subst (λ y. Computed s code n y (mid + 2) q q (null_at v)) one
        (subst (λ y. Computed s code n (count + 1 + 1) y q q (null_at v)) two b)

    by_word : (i : Instr) (v : ℕ) → is_call i ≡ false
        → ((u : Machine) → register u q ≡ null_at r → row u i ≡ set_integer u q v) → HasAt code mid (i ∷ [])
        → Computed s code n (count + 1) (mid + 1) q q (null_at v)
    by_word i v plain does w =
        next_word s code x p t n at count mid q (null_at r) (null_at v) point h i w.0 plain range does

    abbrev Reduced : List Instr → ℕ → Type 0
    Reduced ws v = Computed s code n (count + length ws) (mid + length ws) q q (null_at v)

    is_reduced : (k : IntKind) → width_of (form_of k) < 32 → r < 2 ^ 64 → HasAt code mid (reduce_code k q q)
        → Reduced (reduce_code k q q) (wrapped k (pos r))
    unfolding row op_row imm_row
    is_reduced int.Bool lt small w =
        by_word (Op regs.Sltu q 0 q) (wrapped int.Bool (pos r)) refl
        (λ u holds. ap (λ y. set_integer u q (result_of regs.Sltu y (integer u q))) (null_address 0)
        ∙ ap (λ y. set_integer u q (result_of regs.Sltu 0 y)) (number_at u q r holds) ∙ ap (set_integer u q)
        (reduce_truth r small)) w
    is_reduced int.I8 lt small w = by_shifts Srai 56 (wrapped int.I8 (pos r)) refl (reduce_8 r small) w
    is_reduced int.U8 lt small w =
        by_word (Imm Andi q q (pos 255)) (wrapped int.U8 (pos r)) refl
        (λ u holds. ap (λ y. set_integer u q (result_of regs.And y (extended (pos 255)))) (number_at u q r holds)
        ∙ ap (λ y. set_integer u q (result_of regs.And r y)) (small_extended 255 (omega arith)) ∙ ap (set_integer u q)
        (mask_is r small)) w
    is_reduced int.I16 lt small w = by_shifts Srai 48 (wrapped int.I16 (pos r)) refl (reduce_16 r small) w
    is_reduced int.U16 lt small w = by_shifts Srli 48 (wrapped int.U16 (pos r)) refl (reduce_unsigned r small).1 w
    is_reduced int.I32 lt small w = absurd (omega (arith, lt))
    is_reduced int.U32 lt small w = absurd (omega (arith, lt))
    is_reduced int.I64 lt small w = absurd (omega (arith, lt))
    is_reduced int.U64 lt small w = absurd (omega (arith, lt))

  narrow_finished : (k : IntKind) → width_of (form_of k) < 32 → (r v : ℕ) → r < 2 ^ 64 → wrapped k (pos r) ≡ v
      → (n : Machine) (mid count at : ℕ) → IsAtPoint s code p at t n → (q : ℕ) → (4 < q) × (q < 29)
      → Computed s code n count mid q q (null_at r) → HasAt code mid (reduce_code k q q)
      → Computed s code n (count + length (reduce_code k q q)) (mid + length (reduce_code k q q)) q q (null_at v)
  narrow_finished k lt r v small is n mid count at point q range h has =
      subst (λ y. Computed s code n (count + length (reduce_code k q q)) (mid + length (reduce_code k q q)) q q
      (null_at y)) is (is_reduced n mid count at point q r range h k lt small has)

  -- what one word gave is finished
  pub finished : (k : IntKind) (o : IntOp) (by_number : Bool) (r v : ℕ) → Gives k o by_number r v
      → (n : Machine) (mid count at : ℕ) → IsAtPoint s code p at t n → (q : ℕ) → (4 < q) × (q < 29)
      → Computed s code n count mid q q (null_at r) → HasAt code mid (finish_code k o by_number q)
      → Computed s code n (count + length (finish_code k o by_number q)) (mid + length
      (finish_code k o by_number q)) q q (null_at v)
  finished int.U32 o by_number r v gives n mid count at point q range h has =
      half_exact o by_number r v gives n mid count at point q range h (is_exact int.U32 o by_number) refl
      (finish_code int.U32 o by_number q)
      refl has
  finished int.I32 o by_number r v gives n mid count at point q range h has = none_more r v
      (gives.exact refl) n mid count q h
  finished int.I64 o by_number r v gives n mid count at point q range h has = none_more r v
      (gives.exact refl) n mid count q h
  finished int.U64 o by_number r v gives n mid count at point q range h has = none_more r v
      (gives.exact refl) n mid count q h
  finished int.Bool o by_number r v gives n mid count at point q range h has =
      narrow_finished int.Bool (omega arith) r v gives.below
      (gives.else_reduced refl) n mid count at point q range h has
  finished int.I8 o by_number r v gives n mid count at point q range h has =
      narrow_finished int.I8 (omega arith) r v gives.below (gives.else_reduced refl) n mid count at point q range h has
  finished int.U8 o by_number r v gives n mid count at point q range h has =
      narrow_finished int.U8 (omega arith) r v gives.below (gives.else_reduced refl) n mid count at point q range h has
  finished int.I16 o by_number r v gives n mid count at point q range h has =
      narrow_finished int.I16 (omega arith) r v gives.below (gives.else_reduced refl) n mid count at point q range h has
  finished int.U16 o by_number r v gives n mid count at point q range h has =
      narrow_finished int.U16 (omega arith) r v gives.below (gives.else_reduced refl) n mid count at point q range h has

  finish_few : (k : IntKind) (o : IntOp) (by_number : Bool) (q : ℕ) → length
      (finish_code k o by_number q) ≤ finish_more k
  unfolding finish_more
  finish_few int.U32 o by_number q = by (is_exact int.U32 o by_number)
    where
      by : (b : Bool) → length (if b then [] else Shift Slli q q 32 ∷ Shift Srli q q 32 ∷ []) ≤ 2
      by true = omega arith
      by false = omega arith
  finish_few int.I32 o by_number q = omega arith
  finish_few int.I64 o by_number q = omega arith
  finish_few int.U64 o by_number q = omega arith
  finish_few int.Bool o by_number q = omega arith
  finish_few int.I8 o by_number q = omega arith
  finish_few int.U8 o by_number q = omega arith
  finish_few int.I16 o by_number q = omega arith
  finish_few int.U16 o by_number q = omega arith

  finish_costs : (k : IntKind) → 3 + (1 + finish_more k) + 6 ≤ operation_cost k
  unfolding finish_more
  finish_costs int.Bool = omega arith
  finish_costs int.I8 = omega arith
  finish_costs int.U8 = omega arith
  finish_costs int.I16 = omega arith
  finish_costs int.U16 = omega arith
  finish_costs int.I32 = omega arith
  finish_costs int.U32 = omega arith
  finish_costs int.I64 = omega arith
  finish_costs int.U64 = omega arith

  -- one word and what finishes it
  pub word_then : (k : IntKind) (o : IntOp) (by_number : Bool) (r v : ℕ) → Gives k o by_number r v
      → (n : Machine) (mid : ℕ) → IsAtPoint s code p mid t n → (q : ℕ) → (4 < q) × (q < 29) → (i : Instr)
      (ws : List Instr)
      → ws ≡ i ∷ finish_code k o by_number q → HasAt code mid ws → is_call i ≡ false → row n i ≡ set_integer n q r
      → Computed s code n (length ws) (mid + length ws) q q (null_at v)
  word_then k o by_number r v gives n mid point q range i ws is has plain does =
      let w = subst (HasAt code mid) is has in
      let f = first_word s code x p t n mid point i q (null_at r) w.0 plain range does in
      let e = finished k o by_number r v gives n (mid + 1) 1 mid point q range f w.1 in
      let count : 1 + length (finish_code k o by_number q) ≡ suc (length (finish_code k o by_number q)) = omega arith in
      let place : mid + 1 + length (finish_code k o by_number q) ≡ mid + suc (length
      (finish_code k o by_number q)) = omega arith in
      subst (λ y. Computed s code n (length y) (mid + length y) q q (null_at v)) (sym is)
      (subst (λ y. Computed s code n y (mid + suc (length (finish_code k o by_number q))) q q (null_at v)) count
      (subst (λ y. Computed s code n (1 + length (finish_code k o by_number q)) y q q (null_at v)) place e))

module _ (s : Setting) (code : List Instr) (x : IsText s code) (stack : StackIsThere s) (w : World) (p : Typed)
    (running : Running)
    (o : IntOp) (k : IntKind) (at_kind : AtKind k o) (to a b : ℕ) (rest : List TacInstr)
    (sel : IsSelectable s p running (instr.Int o k to a b) rest) (at : ℕ) (t : State modes.Store) (m : Machine)
    (point : IsAtPoint s code (before running (instr.Int o k to a b) rest) at t m)
    (kinded : AreOfKinds (kinds_in s running) t.vars) where
  abbrev i : TacInstr
  i = instr.Int o k to a b

  abbrev here : Point
  here = before running i rest

  abbrev bits : Value → Cap
  bits = capability_of (addresses_of s.map) (base_in t.mem.memory.shapes)

  abbrev left : ℕ
  left = number_of (temp_in t a)

  abbrev right : ℕ
  right = number_of (temp_in t b)

  abbrev result : ℕ
  result = binary_of o k left right

  int_parts : (has p sel.d (kinds_in s running) (code_in s running) to (Plain k) ≡ true)
      × (has p sel.d (kinds_in s running) (code_in s running) a (Plain k) ≡ true)
      × ((if is_shift o then has_int p sel.d (kinds_in s running) (code_in s running) b
      else has p sel.d (kinds_in s running) (code_in s running) b (Plain k)) ≡ true)
  int_parts =
      let q = and_parts (has p sel.d (kinds_in s running) (code_in s running) to (Plain k) && has p sel.d
      (kinds_in s running) (code_in s running) a (Plain k)) _ sel.fits in
      let r = and_parts (has p sel.d (kinds_in s running) (code_in s running) to (Plain k)) _ q.0 in
      (r.0, r.1, q.1)

  left_is : (temp_in t a ≡ Int left) × IsKept k left
  left_is =
      let h = has_kind p sel.d (kinds_in s running) (code_in s running) a (Plain k) int_parts.1 in
      kept_integer k (kind_at (kinds_in s running) a) (temp_in t a) h.1 (kinded.each a h.0)

  -- the right operand is an integer, of the same kind but for a shift
  record Right : Type 0 where
    is : temp_in t b ≡ Int right
    kept : is_shift o ≡ false → IsKept k right
    integer_kind : is_int (kind_at (kinds_in s running) b) ≡ true

  right_is : Right
  right_is = by (is_shift o) refl int_parts.2
    where
      by : (c : Bool) → is_shift o ≡ c
          → (if c then has_int p sel.d (kinds_in s running) (code_in s running) b
          else has p sel.d (kinds_in s running) (code_in s running) b (Plain k)) ≡ true → Right
      by true e h =
          let q = and_parts (is_temp p sel.d (kinds_in s running) (code_in s running) b) (is_int (kind_at
          (kinds_in s running) b)) h in
          record {
            is = integer_of (kind_at (kinds_in s running) b) (temp_in t b) q.1
                (kinded.each b (ltb-true b (length (kinds_in s running)) q.0));
            kept = λ f. absurd (true_false (sym e ∙ f));
            integer_kind = q.1;
          }
      by false e h =
          let q = has_kind p sel.d (kinds_in s running) (code_in s running) b (Plain k) h in
          let v = kept_integer k (kind_at (kinds_in s running) b) (temp_in t b) q.1 (kinded.each b q.0) in
          record { is = v.0; kept = λ f. v.1; integer_kind = same_int (kind_at (kinds_in s running) b) k q.1 }

  right_below : right < 2 ^ 64
  right_below = subst (IsKnown t.mem.memory.shapes (functions_of s)) right_is.is (point.fits.calls.1.known b (now
      (suc zero, refl)))

  left_there : (u : Machine) (q : ℕ) → register u q ≡ bits (temp_in t a) → integer u q ≡ left
  left_there u q e =
      number_at u q left (e ∙ ap bits left_is.0 ∙ integer_bits (addresses_of s.map) (base_in t.mem.memory.shapes) left)

  right_there : (u : Machine) (q : ℕ) → register u q ≡ bits (temp_in t b) → integer u q ≡ right
  right_there u q e =
      number_at u q right (e ∙ ap bits right_is.is ∙ integer_bits (addresses_of s.map)
      (base_in t.mem.memory.shapes) right)

  result_bits : bits (Int result) ≡ null_at result
  result_bits = integer_bits (addresses_of s.map) (base_in t.mem.memory.shapes) result

  result_known : result < 2 ^ 64
  result_known = IsKept-below k result (IsKept-binary_of o k left right)

  abbrev Result_home : List Instr → Type 0
  Result_home ws =
      Arrives s code (behind running rest) 0 (operation_cost k) (at + length ws)
      (record t { vars = slice_set t.vars to (Some (Int result)) }) m

  few : ℕ
  few = 1 + finish_more s code x here t k

  -- of one operand, and what a word reads beside it
  by_one : (from : ℕ) → IsAmong from (a ∷ b ∷ []) → (by_number : Bool) (word : (r y : ℕ) → Instr) (ends : ℕ
      → List Instr)
      → ((r : ℕ) → ends r ≡ finish_code k o by_number r)
      → ((r y : ℕ) → is_call (word r y) ≡ false)
      → (made : ℕ) → Gives k o by_number made result
      → ((u : Machine) (r y : ℕ) → register u y ≡ bits (temp_in t from) → row u (word r y) ≡ set_integer u r made)
      → (ws : List Instr) → OfOne (selecting s running.fun) to from (OneThen word ends) ws → HasAt code at ws →
      Result_home ws
  unfolding few
  by_one from read by_number word ends same plain made gives does ws form has =
      let costs = finish_costs s code x here t k in
      within s code (behind running rest) 0 (few + 6) (operation_cost k) (at + length ws) _ m (omega arith)
      (of_one s code x stack p running i rest to refl refl (λ n h. h) sel t m at point from read
      (Int result) result_known (OneThen word ends)
      (λ u mid y now_here e r us is range hs.
      subst (Computed s code u (length us) (mid + length us) r r) (sym result_bits)
      (word_then s code x here t k o by_number made result gives u mid now_here r range (word r y) us
      (is ∙ ap (λ f. word r y ∷ f) (same r)) hs (plain r y) (does u r y e)))
      few (λ r y us is. subst (λ z. length z ≤ few) (sym (is ∙ ap (λ f. word r y ∷ f) (same r)))
      (one_more (length (finish_code k o by_number r)) (finish_more s code x here t k)
      (finish_few s code x here t k o by_number r)))
      ws form has)
    where
      one_more : (n m : ℕ) → n ≤ m → suc n ≤ 1 + m
      one_more n m h = omega arith

  integers : (ws : List Instr) → IntegerWords (selecting s running.fun) o k to a b ws → HasAt code at ws →
      Result_home ws
  unfolding few row op_row imm_row shift_row
  integers ws (Registers form) has =
      let costs = finish_costs s code x here t k in
      let made = result_of (selected_op k o) left right in
      within s code (behind running rest) 0 (3 + few + 6) (operation_cost k) (at + length ws) _ m (omega arith)
      (of_two s code x stack p running i rest to refl refl (λ n h. h) sel t m at point a (zero, refl)
      (Int result) result_known
      (Other (selecting s running.fun) b) (bits (temp_in t b)) 3
      (other_comes s code x stack p running i rest to refl refl (λ n h. h) sel t m at point a (zero, refl) b
      (suc zero, refl))
      (TwoThen (Op (selected_op k o)) (finish_code k o false))
      (λ u mid y z now_here e f r us is range hs.
      subst (Computed s code u (length us) (mid + length us) r r) (sym result_bits)
      (word_then s code x here t k o false made result
      (registers_give o k left right at_kind left_is.1 right_is.kept) u mid now_here
      r range (Op (selected_op k o) r y z) us is hs refl
      (ap (λ n. set_integer u r (result_of (selected_op k o) n (integer u z))) (left_there u y e)
      ∙ ap (λ n. set_integer u r (result_of (selected_op k o) left n)) (right_there u z f))))
      few (λ r y z us is. subst (λ q. length q ≤ few) (sym is)
      (one_more (length (finish_code k o false r)) (finish_more s code x here t k)
      (finish_few s code x here t k o false r)))
      ws form has)
    where
      one_more : (n m : ℕ) → n ≤ m → suc n ≤ 1 + m
      one_more n m h = omega arith
  integers ws (WithNumber j n z by is e form) has =
      let same : right ≡ n = number_is s code x here t at m point b n right (now (suc zero, refl)) is right_is.is in
      let kept = right_is.kept (no_shift o k j by) in
      by_one a (zero, refl) false (λ r y. Imm j r y z) (finish_code k o false) (λ r. refl) (λ r y. refl)
      (result_of (selected_op k o) left right) (registers_give o k left right at_kind left_is.1 right_is.kept)
      (λ u r y f. ap (λ q. set_integer u r (result_of (immediate_op j) q (extended z))) (left_there u y f)
      ∙ ap (λ q. set_integer u r (result_of (immediate_op j) left q)) (e ∙ sym same)
      ∙ ap (λ g. set_integer u r (result_of g left right)) (immediate_is o k j at_kind by)) ws form has
  integers ws (NumberWith j n z by is e form) has =
      let same : left ≡ n = number_is s code x here t at m point a n left (now (zero, refl)) is left_is.0 in
      let kept = right_is.kept (no_shift o k j by) in
      let turned = registers_give o k right left at_kind kept (λ f. left_is.1) in
      by_one b (suc zero, refl) false (λ r y. Imm j r y z) (finish_code k o false) (λ r. refl) (λ r y. refl)
      (result_of (selected_op k o) right left) (subst (Gives k o false (result_of (selected_op k o) right left)) (sym
      (commutes o k j left right by left_is.1 kept)) turned)
      (λ u r y f. ap (λ q. set_integer u r (result_of (immediate_op j) q (extended z))) (right_there u y f)
      ∙ ap (λ q. set_integer u r (result_of (immediate_op j) right q)) (e ∙ sym same)
      ∙ ap (λ g. set_integer u r (result_of g right left)) (immediate_is o k j at_kind by)) ws form has
  integers ws (LessNumber n z subtracts is e form) has =
      let same : right ≡ n = number_is s code x here t at m point b n right (now (suc zero, refl)) is right_is.is in
      let made = result_of (immediate_op (add_op k)) left (extended z) in
      let l = IsKept-below k left left_is.1 in
      let word = less_is k left right (extended z) l right_below (kept_of-below z)
      (ap (λ q. (extended z + q) % 2 ^ 64) same ∙ e) in
      let gives : Gives k o false made result =
      subst (λ q. Gives k o false q result) (sym (word ∙ ap (λ g. result_of (selected_op k g) left right)
      (sym subtracts)))
      (registers_give o k left right at_kind left_is.1 right_is.kept) in
      by_one a (zero, refl) false (λ r y. Imm (add_op k) r y z) (finish_code k o false) (λ r. refl)
      (λ r y. refl) made gives
      (λ u r y f. ap (λ q. set_integer u r (result_of (immediate_op (add_op k)) q (extended z)))
      (left_there u y f)) ws form has
  integers ws (Shifted n shift is form) has =
      let same : right ≡ n = number_is s code x here t at m point b n right (now (suc zero, refl)) is right_is.is in
      let made = result_of (shift_op (shift_by k o)) left (right % width_of (form_of k)) in
      by_one a (zero, refl) true (λ r y. Shift (shift_by k o) r y (n % width_of (form_of k))) (finish_code k o true)
      (λ r. refl) (λ r y. refl)
      made (shift_gives o k left right shift (shifts_promoted o k shift at_kind) left_is.1 right_below)
      (λ u r y f. ap (λ q. set_integer u r (result_of (shift_op (shift_by k o)) q (n % width_of (form_of k))))
      (left_there u y f)
      ∙ ap (λ q. set_integer u r (result_of (shift_op (shift_by k o)) left (q % width_of (form_of k))))
      (sym same)) ws form has
  integers ws (Times q times wide small is form) has =
      let same : right ≡ 2 ^ q = number_is s code x here t at m point b (2 ^ q) right (now
      (suc zero, refl)) is right_is.is in
      let made = result_of regs.Sll left q in
      let is_result : made ≡ result =
      times_is k left q wide left_is.1 small ∙ ap (λ n. binary_of op.Mul k left n) (sym same) ∙ ap
      (λ g. binary_of g k left right) (sym times) in
      by_one a (zero, refl) false (λ r y. Shift Slli r y q) (λ r. []) (λ r. wide_ends o k wide r) (λ r y. refl)
      made (whole o k wide made result (result_below regs.Sll left q) is_result)
      (λ u r y f. ap (λ n. set_integer u r (result_of regs.Sll n q)) (left_there u y f)) ws form has
  integers ws (TimesFirst q times wide small is form) has =
      let same : left ≡ 2 ^ q = number_is s code x here t at m point a (2 ^ q) left (now (zero, refl)) is left_is.0 in
      let made = result_of regs.Sll right q in
      let kept = right_is.kept (ap is_shift times) in
      let is_result : made ≡ result =
      times_is k right q wide kept small ∙ ap (λ n. binary_of op.Mul k right n) (sym same)
      ∙ product_turns k right left kept left_is.1
      ∙ ap (λ g. binary_of g k left right) (sym times) in
      by_one b (suc zero, refl) false (λ r y. Shift Slli r y q) (λ r. []) (λ r. wide_ends o k wide r) (λ r y. refl)
      made (whole o k wide made result (result_below regs.Sll right q) is_result)
      (λ u r y f. ap (λ n. set_integer u r (result_of regs.Sll n q)) (right_there u y f)) ws form has

pub operations_run_law : OperationsRun
unfolding operations
operations_run_law s code x stack w p running (instr.Int o k to a b) rest promoted sel at t m point kinded ws form
    held_words =
    let r = result s code x stack w p running o k promoted to a b rest sel at t m point kinded in
    let parts = int_parts s code x stack w p running o k promoted to a b rest sel at t m point kinded in
    let right = right_is s code x stack w p running o k promoted to a b rest sel at t m point kinded in
    let h = has_kind p sel.d (kinds_in s running) (code_in s running) to (Plain k) parts.0 in
    record {
      next = record t { vars = slice_set t.vars to (Some (Int r)) };
      means = λ go. ap (λ y. answer no_position (on_ok (operations (placed_plan s.map))
          (λ n. on_ok (operations (placed_plan s.map)) (λ q. Ok (Int q))
          ((operations (placed_plan s.map)).int o k (int_kind (kind_at (kinds_in s running) b)) (number_of
          (temp_in t a)) n)) y) t
          (λ v u. set_temp to v u go))
          (number_by_int s t (kind_at (kinds_in s running) b) (temp_in t b) right.integer_kind);
      kinded = kinded_set (kinds_in s running) t.vars to (Int r) kinded h.0
          (kind_passes (kind_at (kinds_in s running) to) (Plain k) (Int r) h.1
          (IsKept-binary_of o k (number_of (temp_in t a)) (number_of (temp_in t b))));
      does = integers s code x stack w p running o k promoted to a b rest sel at t m point kinded ws form held_words;
    }
operations_run_law s code x stack w p running i rest is sel at t m point kinded ws form held_words = absurd is
