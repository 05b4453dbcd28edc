-- Conversions between kinds: what they mean, the machine computes.
use Rattle.std.proofs.Common.{◌≡◌, ℕ, zero, ◌+◌, ◌^◌, ◌<◌, ◌≤◌, ℤ, pos, Bool, true, false, not, ◌&&◌, List, [], ◌∷◌}
use Rattle.std.proofs.Common.{length, Some, refl, sym, ap, ◌∙◌, subst, arith, if◌then◌else◌}
use Rattle.std.specs.Prelude.{slice_get, slice_set, ◌==◌, Ok}
use Rattle.std.proofs.lemmas.Bool.{and_parts}
use Rattle.std.proofs.lemmas.Int.{ints}
use Rattle.ck_int.specs.declared.kinds.IntKind.{IntKind}
use Rattle.ck_int.specs.declared.kinds.IntKind.TheVariants as int
use Rattle.ck_int.specs.Kinds.{form_of, width_of, Represents, IsKept, kept_of, reduced, value_of, wrapped, converted}
use Rattle.ck_int.proofs.Laws.{Represents-value_of, reduced-represented, IsKept-below, IsKept-converted, IsKept-wrapped}
use Rattle.ck_int.proofs.Laws.{wrapped-below, wrapped-kept_of}
use Rattle.ck_int.proofs.OperationLaws.{IsKept-64, compare_of-Eq_kept, converted-Bool}
use Rattle.cap_ops.specs.declared.capability.Cap.{Cap}
use Rattle.cap_ops.specs.Capability.{null_at}
use Rattle.rv_instr.specs.declared.instr.Instr.{Instr}
use Rattle.rv_instr.specs.declared.instr.Instr.TheVariants.{Imm, Shift, Op}
use Rattle.rv_instr.specs.declared.ops.ImmOp.TheVariants.{Addi, Andi, Addiw}
use Rattle.rv_instr.specs.declared.ops.ShiftOp.{ShiftOp}
use Rattle.rv_instr.specs.declared.ops.ShiftOp.TheVariants.{Slli, Srli, Srai}
use Rattle.rv_instr.specs.declared.ops.RegOp.TheVariants as regs
use Rattle.cap_machine.specs.declared.machine.Machine.{Machine}
use Rattle.cap_machine.specs.Integers.{extended, result_of, shift_op}
use Rattle.cap_machine.specs.State.{register, integer}
use Rattle.cap_machine.specs.Rows.{row, op_row, imm_row, shift_row, set_integer}
use Rattle.c_tree.specs.declared.typed.Typed.{Typed}
use Rattle.obj_mem.specs.Objects.{base_in}
use Rattle.obj_mem.specs.Table.{addresses_of}
use Rattle.obj_mem.specs.Values.{Value, Int, Raw, address_of, capability_of}
use Rattle.cheri_c_sem.specs.Kinds.{Kind, Plain, Capability, number_of, truth}
use Rattle.cheri_c_sem.specs.Modes as modes
use Rattle.cheri_c_sem.specs.Modes.{operations, placed_plan}
use Rattle.cheri_c_sem.specs.Operations.{convert_by}
use Rattle.cheri_c_sem.specs.Steps.{State, answer}
use Rattle.select_runs.proofs.Reduced.{is_some, small_extended, word_reduced, reduce_8, reduce_16, reduce_unsigned}
use Rattle.select_runs.proofs.Reduced.{reduce_truth}
use Rattle.tac_ir.specs.Costs.{conversion_cost, is_wide}
use Rattle.tac_ir.specs.Effects.{kind_of, kind_at, temp_in, no_position, set as set_temp}
use Rattle.tac_ir.specs.Meaning.{Running}
use Rattle.tac_ir.specs.Temps.{now}
use Rattle.tac_ir.specs.WellFormed.{has, same_kind}
use Rattle.tac_ir.specs.declared.code.TacInstr.{TacInstr}
use Rattle.tac_ir.specs.declared.code.TacInstr.TheVariants as instr
use Rattle.tac_ir.specs.declared.code.TacKind.{TacKind}
use Rattle.tac_ir.specs.declared.code.TacKind.TheVariants as kind
use Rattle.place_inject.specs.Values.{IsKnown}
use Rattle.place_inject.specs.Frames.{Setting, Point, functions_of}
use Rattle.place_inject.specs.Spills.{StackIsThere}
use Rattle.select_words.specs.Standing.{HasAt}
use Rattle.select_words.specs.Forms.{OfOne}
use Rattle.select_words.specs.Operations.{kept_code, is_widening, Reduces, CopiedOr, ConversionBy}
use Rattle.select_words.specs.Words.{Copied}
use Rattle.select_runs.specs.Instructions.{ConversionsRun}
use Rattle.select_runs.specs.Kinds.{IsOfKind, AreOfKinds}
use Rattle.select_runs.specs.Operands.{IsText, IsAtPoint}
use Rattle.select_runs.specs.Results.{Computed, Arrives, before, behind, kinds_in, code_in, IsSelectable}
use Rattle.select_runs.proofs.Arithmetic.{mask_is, sum_with_zero}
use Rattle.select_runs.proofs.Integers.{kept_integer}
use Rattle.select_runs.proofs.Jumps.{address_there, address_below, truth_is, zero_kept}
use Rattle.select_runs.proofs.Kinded.{kind_passes, raw_null, same_turned, kinded_set, has_kind}
use Rattle.select_runs.proofs.Numbers.{number_at, null_address}
use Rattle.select_runs.proofs.Simple.{copies}
use Rattle.select_runs.proofs.Working.{integer_bits, one_only, two_words, within, of_one}
use Rattle.select_runs.specs.Selecting.{selecting}

-- ---- numbers of one kind as those of another

-- the bits of a kept number, reduced to another kind, are those of the conversion
convert_is : (j k : IntKind) (n : ℕ) → IsKept j n → wrapped k (pos n) ≡ converted j k n
unfolding converted wrapped value_of
convert_is j int.Bool n x =
    let h = IsKept-below j n x in
    sym (reduce_truth n h) ∙ is_some n h
    ∙ ap (λ (b : Bool). if b then 0 else 1) (sym (compare_of-Eq_kept j n 0 x (zero_kept j)))
    ∙ sym (converted-Bool j n)
convert_is j k n x = ap (λ v. wrapped k (pos v)) (sym x.kept) ∙ wrapped-kept_of k (reduced j (pos n)) (omega arith)

-- where each number of a kind is one of another, its bits stay
wide_stays : (j k : IntKind) (n : ℕ) → IsKept j n → width_of (form_of k) ≡ 64 → converted j k n ≡ n
wide_stays j k n x e = sym (convert_is j k n x) ∙ (IsKept-64 k n e (IsKept-below j n x)).kept

same_kept : (j : IntKind) (n : ℕ) → IsKept j n → kept_of (value_of j n) ≡ n
unfolding value_of wrapped
same_kept j n x = x.kept

fits_stays : (j k : IntKind) (n : ℕ) → IsKept j n → Represents k (value_of j n) → converted j k n ≡ n
unfolding converted wrapped
fits_stays j k n x r = ap kept_of (reduced-represented k (value_of j n) r) ∙ same_kept j n x

false_true : false ≡ true → ⊥
false_true e = absurd cc

true_is_false : true ≡ false → ⊥
true_is_false e = absurd cc

-- the greater kinds have them
widens : (j k : IntKind) (z : ℤ) → is_widening j k ≡ true → width_of (form_of k) < 64 → Represents j z → Represents k z
widens int.Bool int.Bool z e h r = r
widens int.Bool int.I8 z e h r = let l = r.low in let g = r.high in record {
  low = omega
      (arith, ints, l);
  high = omega (arith, ints, g);
}
widens int.Bool int.U8 z e h r = let l = r.low in let g = r.high in record {
  low = omega
      (arith, ints, l);
  high = omega (arith, ints, g);
}
widens int.Bool int.I16 z e h r = let l = r.low in let g = r.high in record {
  low = omega
      (arith, ints, l);
  high = omega (arith, ints, g);
}
widens int.Bool int.U16 z e h r = let l = r.low in let g = r.high in record {
  low = omega
      (arith, ints, l);
  high = omega (arith, ints, g);
}
widens int.Bool int.I32 z e h r = let l = r.low in let g = r.high in record {
  low = omega
      (arith, ints, l);
  high = omega (arith, ints, g);
}
widens int.Bool int.U32 z e h r = let l = r.low in let g = r.high in record {
  low = omega
      (arith, ints, l);
  high = omega (arith, ints, g);
}
widens int.I8 int.Bool z e h r = absurd (false_true e)
widens int.I8 int.I8 z e h r = r
widens int.I8 int.U8 z e h r = absurd (false_true e)
widens int.I8 int.I16 z e h r = let l = r.low in let g = r.high in record {
  low = omega (arith, ints, l);
  high = omega
      (arith, ints, g);
}
widens int.I8 int.U16 z e h r = absurd (false_true e)
widens int.I8 int.I32 z e h r = let l = r.low in let g = r.high in record {
  low = omega (arith, ints, l);
  high = omega
      (arith, ints, g);
}
widens int.I8 int.U32 z e h r = absurd (false_true e)
widens int.U8 int.Bool z e h r = absurd (false_true e)
widens int.U8 int.I8 z e h r = absurd (false_true e)
widens int.U8 int.U8 z e h r = r
widens int.U8 int.I16 z e h r = let l = r.low in let g = r.high in record {
  low = omega (arith, ints, l);
  high = omega
      (arith, ints, g);
}
widens int.U8 int.U16 z e h r = let l = r.low in let g = r.high in record {
  low = omega (arith, ints, l);
  high = omega
      (arith, ints, g);
}
widens int.U8 int.I32 z e h r = let l = r.low in let g = r.high in record {
  low = omega (arith, ints, l);
  high = omega
      (arith, ints, g);
}
widens int.U8 int.U32 z e h r = let l = r.low in let g = r.high in record {
  low = omega (arith, ints, l);
  high = omega
      (arith, ints, g);
}
widens int.I16 int.Bool z e h r = absurd (false_true e)
widens int.I16 int.I8 z e h r = absurd (false_true e)
widens int.I16 int.U8 z e h r = absurd (false_true e)
widens int.I16 int.I16 z e h r = r
widens int.I16 int.U16 z e h r = absurd (false_true e)
widens int.I16 int.I32 z e h r = let l = r.low in let g = r.high in record {
  low = omega
      (arith, ints, l);
  high = omega (arith, ints, g);
}
widens int.I16 int.U32 z e h r = absurd (false_true e)
widens int.U16 int.Bool z e h r = absurd (false_true e)
widens int.U16 int.I8 z e h r = absurd (false_true e)
widens int.U16 int.U8 z e h r = absurd (false_true e)
widens int.U16 int.I16 z e h r = absurd (false_true e)
widens int.U16 int.U16 z e h r = r
widens int.U16 int.I32 z e h r = let l = r.low in let g = r.high in record {
  low = omega
      (arith, ints, l);
  high = omega (arith, ints, g);
}
widens int.U16 int.U32 z e h r = let l = r.low in let g = r.high in record {
  low = omega
      (arith, ints, l);
  high = omega (arith, ints, g);
}
widens int.I32 int.Bool z e h r = absurd (false_true e)
widens int.I32 int.I8 z e h r = absurd (false_true e)
widens int.I32 int.U8 z e h r = absurd (false_true e)
widens int.I32 int.I16 z e h r = absurd (false_true e)
widens int.I32 int.U16 z e h r = absurd (false_true e)
widens int.I32 int.I32 z e h r = r
widens int.I32 int.U32 z e h r = absurd (false_true e)
widens int.U32 int.Bool z e h r = absurd (false_true e)
widens int.U32 int.I8 z e h r = absurd (false_true e)
widens int.U32 int.U8 z e h r = absurd (false_true e)
widens int.U32 int.I16 z e h r = absurd (false_true e)
widens int.U32 int.U16 z e h r = absurd (false_true e)
widens int.U32 int.I32 z e h r = absurd (false_true e)
widens int.U32 int.U32 z e h r = r
widens int.I64 int.Bool z e h r = absurd (false_true e)
widens int.I64 int.I8 z e h r = absurd (false_true e)
widens int.I64 int.U8 z e h r = absurd (false_true e)
widens int.I64 int.I16 z e h r = absurd (false_true e)
widens int.I64 int.U16 z e h r = absurd (false_true e)
widens int.I64 int.I32 z e h r = absurd (false_true e)
widens int.I64 int.U32 z e h r = absurd (false_true e)
widens int.U64 int.Bool z e h r = absurd (false_true e)
widens int.U64 int.I8 z e h r = absurd (false_true e)
widens int.U64 int.U8 z e h r = absurd (false_true e)
widens int.U64 int.I16 z e h r = absurd (false_true e)
widens int.U64 int.U16 z e h r = absurd (false_true e)
widens int.U64 int.I32 z e h r = absurd (false_true e)
widens int.U64 int.U32 z e h r = absurd (false_true e)
widens j int.I64 z e h r = absurd (omega arith)
widens j int.U64 z e h r = absurd (omega arith)

widening_stays : (j k : IntKind) (n : ℕ) → is_widening j k ≡ true → IsKept j n → converted j k n ≡ n
widening_stays j int.I64 n e x = wide_stays j int.I64 n x refl
widening_stays j int.U64 n e x = wide_stays j int.U64 n x refl
widening_stays j k n e x = fits_stays j k n x (widens j k (value_of j n) e (omega arith) (Represents-value_of j n))

-- ---- a register that is reduced

module _ (s : Setting) (code : List Instr) (x : IsText s code) (p : Point) (t : State modes.Store) (n : Machine)
    (mid : ℕ)
    (point : IsAtPoint s code p mid t n) (r y v : ℕ) (range : (4 < r) × (r < 29)) (there_is : integer n y ≡ v)
    (small : v < 2 ^ 64)
    (words : List Instr) (has : HasAt code mid words) where
  abbrev Gives : ℕ → Type 0
  Gives c = Computed s code n (length words) (mid + length words) r r (null_at c)

  shifted : (back : ShiftOp) (c d : ℕ) → result_of (shift_op back) (result_of regs.Sll v c) c ≡ d
      → words ≡ Shift Slli r y c ∷ Shift back r r c ∷ []
      → Gives d
  unfolding row shift_row
  shifted back c d is e =
      let up = result_of regs.Sll v c in
      two_words s code x p t n mid point (Shift Slli r y c) (Shift back r r c) r (null_at up)
      (null_at d) words e has refl refl range
      (ap (λ q. set_integer n r (result_of regs.Sll q c)) there_is)
      (λ u holds. ap (λ q. set_integer u r (result_of (shift_op back) q c)) (number_at u r up holds) ∙ ap
      (set_integer u r) is)

  reduced_to : (k : IntKind) → words ≡ kept_code k r y → Gives (wrapped k (pos v))
  unfolding row op_row imm_row
  reduced_to int.Bool e =
      one_only s code x p t n mid point (Op regs.Sltu r 0 y) r (null_at (wrapped int.Bool
      (pos v))) words e has refl range
      (ap (λ q. set_integer n r (result_of regs.Sltu q (integer n y))) (null_address 0)
      ∙ ap (λ q. set_integer n r (result_of regs.Sltu 0 q)) there_is ∙ ap (set_integer n r) (reduce_truth v small))
  reduced_to int.I8 e = shifted Srai 56 (wrapped int.I8 (pos v)) (reduce_8 v small) e
  reduced_to int.U8 e =
      one_only s code x p t n mid point (Imm Andi r y (pos 255)) r (null_at (wrapped int.U8
      (pos v))) words e has refl range
      (ap (λ q. set_integer n r (result_of regs.And q (extended (pos 255)))) there_is
      ∙ ap (λ q. set_integer n r (result_of regs.And v q)) (small_extended 255 (omega arith)) ∙ ap (set_integer n r)
      (mask_is v small))
  reduced_to int.I16 e = shifted Srai 48 (wrapped int.I16 (pos v)) (reduce_16 v small) e
  reduced_to int.U16 e = shifted Srli 48 (wrapped int.U16 (pos v)) (reduce_unsigned v small).1 e
  reduced_to int.I32 e =
      one_only s code x p t n mid point (Imm Addiw r y (pos 0)) r (null_at (wrapped int.I32
      (pos v))) words e has refl range
      (ap (λ q. set_integer n r (result_of regs.Addw q (extended (pos 0)))) there_is ∙ ap (set_integer n r)
      (word_reduced v))
  reduced_to int.U32 e = shifted Srli 32 (wrapped int.U32 (pos v)) (reduce_unsigned v small).2 e
  reduced_to int.I64 e =
      one_only s code x p t n mid point (Imm Addi r y (pos 0)) r (null_at (wrapped int.I64
      (pos v))) words e has refl range
      (ap (λ q. set_integer n r (result_of regs.Add q (extended (pos 0)))) there_is
      ∙ ap (set_integer n r) (sum_with_zero v small ∙ sym (IsKept-64 int.I64 v refl small).kept))
  reduced_to int.U64 e =
      one_only s code x p t n mid point (Imm Addi r y (pos 0)) r (null_at (wrapped int.U64
      (pos v))) words e has refl range
      (ap (λ q. set_integer n r (result_of regs.Add q (extended (pos 0)))) there_is
      ∙ ap (set_integer n r) (sum_with_zero v small ∙ sym (IsKept-64 int.U64 v refl small).kept))

reduce_few : (k : IntKind) (r y : ℕ) → length (kept_code k r y) ≤ 2
reduce_few int.Bool r y = omega arith
reduce_few int.I8 r y = omega arith
reduce_few int.U8 r y = omega arith
reduce_few int.I16 r y = omega arith
reduce_few int.U16 r y = omega arith
reduce_few int.I32 r y = omega arith
reduce_few int.U32 r y = omega arith
reduce_few int.I64 r y = omega arith
reduce_few int.U64 r y = omega arith

-- what 64 bits take at most, and fewer bits
abbrev reduce_words : IntKind → ℕ
reduce_words int.I64 = 1
reduce_words int.U64 = 1
reduce_words k = 2

reduce_most : (k : IntKind) (r y : ℕ) → length (kept_code k r y) ≤ reduce_words k
reduce_most int.I64 r y = omega arith
reduce_most int.U64 r y = omega arith
reduce_most int.Bool r y = reduce_few int.Bool r y
reduce_most int.I8 r y = reduce_few int.I8 r y
reduce_most int.U8 r y = reduce_few int.U8 r y
reduce_most int.I16 r y = reduce_few int.I16 r y
reduce_most int.U16 r y = reduce_few int.U16 r y
reduce_most int.I32 r y = reduce_few int.I32 r y
reduce_most int.U32 r y = reduce_few int.U32 r y

address_costs : (signed : Bool) (k : IntKind) → reduce_words k + 6 ≤ conversion_cost (kind.Cap signed) (kind.Int k)
address_costs signed int.I64 = omega arith
address_costs signed int.U64 = omega arith
address_costs signed int.Bool = omega arith
address_costs signed int.I8 = omega arith
address_costs signed int.U8 = omega arith
address_costs signed int.I16 = omega arith
address_costs signed int.U16 = omega arith
address_costs signed int.I32 = omega arith
address_costs signed int.U32 = omega arith

-- ---- costs

copy_costs : (b : Bool) → 6 ≤ (if b then 11 else 8)
copy_costs true = omega arith
copy_costs false = omega arith

narrow_costs : (b : Bool) → 8 ≤ (if b && false then 11 else 8)
narrow_costs true = omega arith
narrow_costs false = omega arith

reduced_costs : (j k : IntKind) → is_widening j k ≡ false → 2 + 6 ≤ conversion_cost (kind.Int j) (kind.Int k)
reduced_costs j int.I64 e = absurd (true_is_false e)
reduced_costs j int.U64 e = absurd (true_is_false e)
reduced_costs j int.Bool e = narrow_costs (is_wide j)
reduced_costs j int.I8 e = narrow_costs (is_wide j)
reduced_costs j int.U8 e = narrow_costs (is_wide j)
reduced_costs j int.I16 e = narrow_costs (is_wide j)
reduced_costs j int.U16 e = narrow_costs (is_wide j)
reduced_costs j int.I32 e = narrow_costs (is_wide j)
reduced_costs j int.U32 e = narrow_costs (is_wide j)

-- no kind is an integer's and a capability's
kinds_differ : (a : Kind) (j : IntKind) (signed : Bool) → same_kind a (Plain j) ≡ true → same_kind a
    (Capability signed) ≡ true → ⊥
kinds_differ (Plain k) j signed h e = false_true e
kinds_differ (Capability s) j signed h e = false_true h

-- a capability as an integer
truth_wrapped : (n : ℕ) → n < 2 ^ 64 → truth (not (n == 0)) ≡ Int (wrapped int.Bool (pos n))
truth_wrapped n h = by (n == 0) ∙ ap (λ v. Int v) (sym (is_some n h) ∙ reduce_truth n h)
  where
    by : (b : Bool) → truth (not b) ≡ Int (if b then 0 else 1)
    by true = refl
    by false = refl

address_converts : (s : Setting) (t : State modes.Store) (signed : Bool) (k : IntKind) (v : Value) → IsOfKind
    (Capability signed) v
    → address_of (addresses_of s.map) (base_in t.mem.memory.shapes) v < 2 ^ 64
    → convert_by (operations (placed_plan s.map)) t.mem (Capability signed) (Plain k) v
    ≡ Ok (Int (wrapped k (pos (address_of (addresses_of s.map) (base_in t.mem.memory.shapes) v))))
unfolding operations
address_converts s t signed int.Bool v o h =
    ap (Rattle.cheri_c_sem.specs.Operations.on_ok (operations (placed_plan s.map)) (λ b. Ok (truth b))) (truth_is s t
    (Capability false) v o)
    ∙ ap (λ y. Ok y) (truth_wrapped (address_of (addresses_of s.map) (base_in t.mem.memory.shapes) v) h)
address_converts s t signed int.I8 v o h = refl
address_converts s t signed int.U8 v o h = refl
address_converts s t signed int.I16 v o h = refl
address_converts s t signed int.U16 v o h = refl
address_converts s t signed int.I32 v o h = refl
address_converts s t signed int.U32 v o h = refl
address_converts s t signed int.I64 v o h = refl
address_converts s t signed int.U64 v o h = refl

module _ (s : Setting) (code : List Instr) (x : IsText s code) (stack : StackIsThere s) (p : Typed) (running : Running)
    (to from : ℕ) (old new : TacKind) (rest : List TacInstr)
    (sel : IsSelectable s p running (instr.Convert to from old new) rest) (at : ℕ) (t : State modes.Store) (m : Machine)
    (point : IsAtPoint s code (before running (instr.Convert to from old new) rest) at t m)
    (kinded : AreOfKinds (kinds_in s running) t.vars) where
  abbrev i : TacInstr
  i = instr.Convert to from old new

  abbrev here : Point
  here = before running i rest

  abbrev bits : Value → Cap
  bits = capability_of (addresses_of s.map) (base_in t.mem.memory.shapes)

  abbrev value : Value
  value = temp_in t from

  parts : (has p sel.d (kinds_in s running) (code_in s running) to (kind_of new) ≡ true)
      × (has p sel.d (kinds_in s running) (code_in s running) from (kind_of old) ≡ true)
  parts =
      and_parts (has p sel.d (kinds_in s running) (code_in s running) to (kind_of new))
      (has p sel.d (kinds_in s running) (code_in s running) from (kind_of old)) sel.fits

  from_kind : (from < length (kinds_in s running)) × (same_kind (kind_at (kinds_in s running) from)
      (kind_of old) ≡ true)
  from_kind = has_kind p sel.d (kinds_in s running) (code_in s running) from (kind_of old) parts.1

  to_kind : (to < length (kinds_in s running)) × (same_kind (kind_at (kinds_in s running) to) (kind_of new) ≡ true)
  to_kind = has_kind p sel.d (kinds_in s running) (code_in s running) to (kind_of new) parts.0

  of_kind : IsOfKind (kind_of old) value
  of_kind =
      kind_passes (kind_of old) (kind_at (kinds_in s running) from) value (same_turned (kind_at
      (kinds_in s running) from) (kind_of old) from_kind.1)
      (kinded.each from from_kind.0)

  known : IsKnown t.mem.memory.shapes (functions_of s) value
  known = point.fits.calls.1.known from (now (zero, refl))

  abbrev Home : List Instr → Value → Type 0
  Home ws v = Arrives s code (behind running rest) 0 (conversion_cost old new) (at + length ws)
      (record t { vars = slice_set t.vars to (Some v) }) m

  -- a value that has the same capability is copied
  copied : (v : Value) → bits value ≡ bits v → IsKnown t.mem.memory.shapes (functions_of s) v
      → (to ≡ from → slice_get t.vars from ≡ Some (Some v)) → 6 ≤ conversion_cost old new → (ws : List Instr)
      → Copied (selecting s running.fun) to from ws
      → HasAt code at ws → Home ws v
  copied v same v_known itself dear ws form has =
      within s code (behind running rest) 0 6 (conversion_cost old new) (at + length ws) _ m dear
      (copies s code x stack p running i to from rest refl refl (zero, refl)
      (λ n h. h) sel at t m point v same v_known itself ws form has)

  -- the address is reduced
  kept_home : (k : IntKind) (n most : ℕ) → ((u : Machine) (q : ℕ) → register u q ≡ bits value → integer u q ≡ n)
      → n < 2 ^ 64
      → ((r y : ℕ) → length (kept_code k r y) ≤ most) → most + 6 ≤ conversion_cost old new
      → (ws : List Instr) → OfOne (selecting s running.fun) to from (Reduces k) ws → HasAt code at ws →
      Home ws (Int (wrapped k
      (pos n)))
  kept_home k n most there_is small few dear ws form has =
      within s code (behind running rest) 0 (most + 6) (conversion_cost old new) (at + length ws) _ m dear
      (of_one s code x stack p running i rest to refl refl (λ n' h. h) sel t m at point from (zero, refl) (Int
      (wrapped k (pos n)))
      (wrapped-below k (pos n)) (Reduces k)
      (λ u mid y now_here e r us is range hs.
      subst (Computed s code u (length us) (mid + length us) r r)
      (sym (integer_bits (addresses_of s.map) (base_in t.mem.memory.shapes) (wrapped k (pos n))))
      (reduced_to s code x here t u mid now_here r y n range (there_is u y e) small us hs k is))
      most (λ r y us is. subst (λ z. length z ≤ most) (sym is) (few r y)) ws form has)

  -- what the instruction makes
  record Made : Type 0 where
    value : Value
    converts : convert_by (operations (placed_plan s.map)) t.mem (kind_of old) (kind_of new) (temp_in t from) ≡ Ok value
    kind_is : IsOfKind (kind_of new) value
    does : (ws : List Instr) → ConversionBy (selecting s running.fun) to from old new ws → HasAt code at ws →
        Home ws value

made : (s : Setting) (code : List Instr) (x : IsText s code) (stack : StackIsThere s) (p : Typed) (running : Running)
    (to from : ℕ) (old new : TacKind) (rest : List TacInstr)
    (sel : IsSelectable s p running (instr.Convert to from old new) rest) (at : ℕ) (t : State modes.Store) (m : Machine)
    (point : IsAtPoint s code (before running (instr.Convert to from old new) rest) at t m)
    (kinded : AreOfKinds (kinds_in s running) t.vars) → Made s code x stack p running to from old new rest sel at t m
    point kinded
made s code x stack p running to from (kind.Int j) (kind.Int k) rest sel at t m point kinded =
    let v = temp_in t from in
    let o = kept_integer j (kind_at (kinds_in s running) from) v
    (from_kind s code x stack p running to from (kind.Int j) (kind.Int k) rest sel at t m point kinded).1
    (kinded.each from (from_kind s code x stack p running to from (kind.Int j)
    (kind.Int k) rest sel at t m point kinded).0) in
    let n = number_of v in
    let bits_are : capability_of (addresses_of s.map) (base_in t.mem.memory.shapes) v ≡ null_at n =
    ap (capability_of (addresses_of s.map) (base_in t.mem.memory.shapes)) o.0 ∙ integer_bits (addresses_of s.map)
    (base_in t.mem.memory.shapes) n in
    record {
      value = Int (converted j k n);
      converts = refl;
      kind_is = IsKept-converted j k n;
      does = λ ws form has. by (is_widening j k) refl n o.0 o.1 bits_are ws form has;
    }
  where
    by : (b : Bool) → is_widening j k ≡ b → (n : ℕ) → temp_in t from ≡ Int n → IsKept j n
        → capability_of (addresses_of s.map) (base_in t.mem.memory.shapes) (temp_in t from) ≡ null_at n
        → (ws : List Instr) → CopiedOr (selecting s running.fun) to from k b ws → HasAt code at ws
        → Home s code x stack p running to from (kind.Int j) (kind.Int k) rest sel at t m point kinded ws (Int
        (converted j k n))
    by true e n is kept bits_are ws form has =
        let stays = widening_stays j k n e kept in
        copied s code x stack p running to from (kind.Int j) (kind.Int k) rest sel at t m point kinded (Int
        (converted j k n))
        (bits_are ∙ ap null_at (sym stays)
        ∙ sym (integer_bits (addresses_of s.map) (base_in t.mem.memory.shapes) (converted j k n)))
        (IsKept-below k (converted j k n) (IsKept-converted j k n))
        (λ same. kinded.given from (from_kind s code x stack p running to from (kind.Int j)
        (kind.Int k) rest sel at t m point kinded).0
        ∙ ap (λ y. Some (Some y)) (is ∙ ap (λ y. Int y) (sym stays)))
        (copy_costs (is_wide j && is_wide k)) ws form has
    by false e n is kept bits_are ws form has =
        subst (Home s code x stack p running to from (kind.Int j) (kind.Int k) rest sel at t m point kinded ws)
        (ap (λ y. Int y) (convert_is j k n kept))
        (kept_home s code x stack p running to from (kind.Int j) (kind.Int k) rest sel at t m point kinded k n 2
        (λ u q f. number_at u q n (f ∙ bits_are)) (IsKept-below j n kept) (reduce_few k)
        (reduced_costs j k e) ws form has)
made s code x stack p running to from (kind.Int j) (kind.Cap signed) rest sel at t m point kinded =
    let v = temp_in t from in
    let fk = from_kind s code x stack p running to from (kind.Int j) (kind.Cap signed) rest sel at t m point kinded in
    let tk = to_kind s code x stack p running to from (kind.Int j) (kind.Cap signed) rest sel at t m point kinded in
    let o = kept_integer j (kind_at (kinds_in s running) from) v fk.1 (kinded.each from fk.0) in
    let n = number_of v in
    let small = IsKept-below j n o.1 in
    record {
      value = Raw n 0;
      converts = refl;
      kind_is = refl;
      does = λ ws form has.
          copied s code x stack p running to from (kind.Int j) (kind.Cap signed) rest sel at t m point kinded (Raw n 0)
          (ap (capability_of (addresses_of s.map) (base_in t.mem.memory.shapes)) o.0
          ∙ integer_bits (addresses_of s.map) (base_in t.mem.memory.shapes) n
          ∙ sym (raw_null (functions_of s) (addresses_of s.map) t.mem.memory.shapes point.fits.objects.spread n small))
          (small, omega arith)
          (λ same. absurd (kinds_differ (kind_at (kinds_in s running) from) j signed fk.1
          (subst (λ y. same_kind (kind_at (kinds_in s running) y) (Capability signed) ≡ true) same tk.1)))
          (omega arith) ws form has;
    }
made s code x stack p running to from (kind.Cap signed) (kind.Cap signed') rest sel at t m point kinded = record {
  value = temp_in t from;
  converts = refl;
  kind_is = of_kind s code x stack p running to from (kind.Cap signed) (kind.Cap signed') rest sel at t m point kinded;
  does = λ ws form has.
      copied s code x stack p running to from (kind.Cap signed) (kind.Cap signed') rest sel at t m point kinded
      (temp_in t from) refl
      (known s code x stack p running to from (kind.Cap signed) (kind.Cap signed') rest sel at t m point kinded)
      (λ same. kinded.given from (from_kind s code x stack p running to from (kind.Cap signed)
      (kind.Cap signed') rest sel at t m point kinded).0)
      (omega arith) ws form has;
}
made s code x stack p running to from (kind.Cap signed) (kind.Int k) rest sel at t m point kinded =
    let v = temp_in t from in
    let n = address_of (addresses_of s.map) (base_in t.mem.memory.shapes) v in
    let known_v = known s code x stack p running to from (kind.Cap signed) (kind.Int k) rest sel at t m point kinded in
    let small = address_below s code x (before running (instr.Convert to from (kind.Cap signed)
    (kind.Int k)) rest) at t m point v known_v in
    record {
      value = Int (wrapped k (pos n));
      converts = address_converts s t signed k v
          (of_kind s code x stack p running to from (kind.Cap signed) (kind.Int k) rest sel at t m point kinded) small;
      kind_is = IsKept-wrapped k (pos n);
      does = λ ws form has.
          kept_home s code x stack p running to from (kind.Cap signed) (kind.Int k) rest sel at t m point kinded k n
          (reduce_words k)
          (λ u q f. ap (λ (c : Cap). c.fields.address) f
          ∙ address_there s code x (before running (instr.Convert to from (kind.Cap signed)
          (kind.Int k)) rest) at t m point v known_v)
          small (reduce_most k) (address_costs signed k) ws form has;
    }

pub conversions_run_law : ConversionsRun
conversions_run_law s code x stack w p running (instr.Convert to from old new) rest is sel at t m point kinded ws form
    held_words =
    let o = made s code x stack p running to from old new rest sel at t m point kinded in
    let tk = to_kind s code x stack p running to from old new rest sel at t m point kinded in
    record {
      next = record t { vars = slice_set t.vars to (Some o.value) };
      means = λ go. ap (λ y. answer no_position y t (λ v u. set_temp to v u go)) o.converts;
      kinded = kinded_set (kinds_in s running) t.vars to o.value kinded tk.0
          (kind_passes (kind_at (kinds_in s running) to) (kind_of new) o.value tk.1 o.kind_is);
      does = o.does ws form held_words;
    }
conversions_run_law s code x stack w p running i rest is sel at t m point kinded ws form held_words = absurd is
