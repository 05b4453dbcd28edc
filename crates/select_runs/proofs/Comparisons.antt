-- Comparisons: what they mean, the machine computes.
use Rattle.std.proofs.Common.{◌≡◌, ℕ, zero, suc, ◌+◌, ◌-◌, ◌%◌, ◌^◌, ◌<◌, ◌≤◌, ◌⊎◌, inl, inr, ℤ, pos, negsuc, Bool}
use Rattle.std.proofs.Common.{true, false, not, ◌&&◌, List, [], ◌∷◌, length, Option, Some, None, refl, sym, ap, ◌∙◌}
use Rattle.std.proofs.Common.{subst, arith, ⊎_elim, if◌then◌else◌}
use Rattle.std.specs.Prelude.{slice_set, ◌==◌, bit_xor, Ok}
use Rattle.std.specs.Int.Bits.{xor_assoc, xor_self, xor_zero_r}
use Rattle.std.proofs.lemmas.Bool.{and_parts, cases_lt, eq-eqb, ne_eqb, cases_eq}
use Rattle.std.proofs.lemmas.Bool.Decides.{nat_tests}
use Rattle.std.proofs.lemmas.Nat.{xor_lt}
use Rattle.std.proofs.lemmas.Option.{same_Some, none-some}
use Rattle.ck_base.specs.World.{World}
use Rattle.ck_int.specs.declared.kinds.IntKind.{IntKind}
use Rattle.ck_int.specs.declared.kinds.IntKind.TheVariants as int
use Rattle.ck_int.specs.declared.kinds.CmpOp.{CmpOp}
use Rattle.ck_int.specs.declared.kinds.CmpOp.TheVariants as test
use Rattle.ck_int.specs.Arithmetic.{compare_of}
use Rattle.ck_int.specs.Kinds.{form_of, is_signed, twos_complement, IsKept, kept_of, reduced, value_of, wrapped}
use Rattle.ck_int.proofs.Forms.{twos_complement-low, twos_complement-high}
use Rattle.ck_int.proofs.OperationLaws.{compare_of-kept, compare_of-Eq_kept, compare_of-Gt, compare_of-Ge}
use Rattle.ck_int.proofs.OperationLaws.{compare_of-Le, compare_of-Ne, word_kind}
use Rattle.cap_ops.specs.declared.capability.Cap.{Cap}
use Rattle.cap_ops.specs.Capability.{null_at}
use Rattle.rv_instr.specs.declared.instr.Instr.{Instr}
use Rattle.rv_instr.specs.declared.instr.Instr.TheVariants.{Imm, Op}
use Rattle.rv_instr.specs.declared.ops.ImmOp.TheVariants.{Sltiu, Xori}
use Rattle.rv_instr.specs.declared.ops.RegOp.TheVariants as regs
use Rattle.cap_machine.specs.declared.machine.Machine.{Machine}
use Rattle.cap_machine.specs.Integers.{extended, result_of, immediate_op, one_where}
use Rattle.cap_machine.specs.State.{register, integer}
use Rattle.cap_machine.specs.Rows.{row, op_row, imm_row, set_integer}
use Rattle.c_tree.specs.declared.typed.Typed.{Typed}
use Rattle.obj_mem.specs.Comparisons.{less_word}
use Rattle.obj_mem.specs.Objects.{base_in}
use Rattle.obj_mem.specs.Table.{addresses_of}
use Rattle.obj_mem.specs.Values.{Value, Int, Live, Fun, Raw, address_of, capability_of}
use Rattle.cheri_c_sem.specs.Kinds.{truth}
use Rattle.cheri_c_sem.specs.Modes as modes
use Rattle.cheri_c_sem.specs.Modes.{operations, placed_plan}
use Rattle.cheri_c_sem.specs.Operations.{compare_by}
use Rattle.cheri_c_sem.specs.Steps.{State, answer}
use Rattle.select_runs.proofs.Reduced.{is_some, is_none, turned_round, one_extended}
use Rattle.tac_ir.specs.Effects.{kind_of, kind_at, temp_in, no_position, set as set_temp}
use Rattle.tac_ir.specs.Meaning.{Running}
use Rattle.tac_ir.specs.Temps.{now}
use Rattle.tac_ir.specs.WellFormed.{has, int_result}
use Rattle.tac_ir.specs.declared.code.TacInstr.{TacInstr}
use Rattle.tac_ir.specs.declared.code.TacInstr.TheVariants as instr
use Rattle.tac_ir.specs.declared.code.TacKind.{TacKind}
use Rattle.tac_ir.specs.declared.code.TacKind.TheVariants as kind
use Rattle.place_inject.specs.Values.{IsKnown}
use Rattle.place_inject.specs.Frames.{Setting, Point, functions_of}
use Rattle.place_inject.specs.Spills.{StackIsThere}
use Rattle.place_inject.proofs.Results.{numbers_read_back_law}
use Rattle.select_words.specs.Integers.{less}
use Rattle.select_words.specs.Standing.{HasAt}
use Rattle.select_words.specs.Emitted.{IsNumber}
use Rattle.select_words.specs.Forms.{Other}
use Rattle.select_words.specs.Operations.{compares_signed, compare_code, compare_number, compare_zero, less_number}
use Rattle.select_words.specs.Operations.{turn_round, ComparisonWords, Both, Number, Zero}
use Rattle.select_words.specs.Operations as forms
use Rattle.select_runs.specs.Instructions.{ComparisonsRun}
use Rattle.select_runs.specs.Kinds.{IsOfKind, AreOfKinds}
use Rattle.select_runs.specs.Operands.{IsText, IsAtPoint}
use Rattle.select_runs.specs.Results.{Computed, Arrives, before, behind, kinds_in, code_in, IsSelectable}
use Rattle.select_runs.proofs.Arithmetic.{xor_is}
use Rattle.select_runs.proofs.Intrinsics.{truth_bits, truth_known, truth_kept}
use Rattle.select_runs.proofs.Jumps.{address_there, address_below}
use Rattle.select_runs.proofs.Kinded.{kind_passes, same_turned, kinded_set, has_kind}
use Rattle.select_runs.proofs.Numbers.{number_at, null_address}
use Rattle.select_runs.proofs.Working.{one_only, two_words, within, of_one, of_two, other_comes}
use Rattle.select_runs.specs.Selecting.{selecting}

-- ---- comparisons of 64 bits

abbrev word_of_sign : Bool → IntKind
word_of_sign true = int.I64
word_of_sign false = int.U64

-- with their signs, or without
abbrev pub compares : Bool → CmpOp → (a b : ℕ) → Bool
compares signed test.Lt a b = compare_of test.Lt (word_of_sign signed) a b
compares signed test.Gt a b = compare_of test.Lt (word_of_sign signed) b a
compares signed test.Le a b = not (compare_of test.Lt (word_of_sign signed) b a)
compares signed test.Ge a b = not (compare_of test.Lt (word_of_sign signed) a b)
compares signed test.Eq a b = a == b
compares signed test.Ne a b = not (a == b)

word_kind_is : (k : IntKind) → word_kind (form_of k) ≡ word_of_sign (is_signed (form_of k))
word_kind_is int.Bool = refl
word_kind_is int.I8 = refl
word_kind_is int.U8 = refl
word_kind_is int.I16 = refl
word_kind_is int.U16 = refl
word_kind_is int.I32 = refl
word_kind_is int.U32 = refl
word_kind_is int.I64 = refl
word_kind_is int.U64 = refl

less_kept : (k : IntKind) (a b : ℕ) → IsKept k a → IsKept k b
    → compare_of test.Lt k a b ≡ compare_of test.Lt (word_of_sign (is_signed (form_of k))) a b
less_kept k a b x y = sym (compare_of-kept test.Lt k a b x y) ∙ ap (λ j. compare_of test.Lt j a b) (word_kind_is k)

-- kept integers
integers_compare : (o : CmpOp) (k : IntKind) (a b : ℕ) → IsKept k a → IsKept k b → compare_of o k a b ≡ compares
    (is_signed (form_of k)) o a b
integers_compare test.Lt k a b x y = less_kept k a b x y
integers_compare test.Gt k a b x y = compare_of-Gt k a b ∙ less_kept k b a y x
integers_compare test.Le k a b x y = compare_of-Le k a b ∙ ap not (less_kept k b a y x)
integers_compare test.Ge k a b x y = compare_of-Ge k a b ∙ ap not (less_kept k a b x y)
integers_compare test.Eq k a b x y = compare_of-Eq_kept k a b x y
integers_compare test.Ne k a b x y = compare_of-Ne k a b ∙ ap not (compare_of-Eq_kept k a b x y)

-- addresses
signed_value : (a : ℕ) → a < 2 ^ 64 → ((a < 2 ^ 63) × (value_of int.I64 a ≡ pos a)) ⊎ ((2 ^ 63 ≤ a) ×
    (value_of int.I64 a ≡ negsuc (2 ^ 64 - 1 - a)))
unfolding value_of reduced
signed_value a h =
    let small : a % 2 ^ 64 ≡ a = omega arith in
    ⊎_elim
    (λ low. inl (low, ap (twos_complement 64) small ∙ twos_complement-low 64 a low))
    (λ high. inr (high, ap (twos_complement 64) small ∙ twos_complement-high 64 a high h))
    (cases_lt a (2 ^ 63))

less_words : (signed : Bool) (a b : ℕ) → a < 2 ^ 64 → b < 2 ^ 64 → less_word signed a b ≡ compare_of test.Lt
    (word_of_sign signed) a b
unfolding compare_of value_of reduced
less_words false a b h j = grind (arith, nat_tests)
less_words true a b h j = grind (arith, nat_tests)

-- ---- the words

less_is : (signed : Bool) (a b : ℕ) → result_of (less signed) a b ≡ one_where (compare_of test.Lt
    (word_of_sign signed) a b)
unfolding result_of
less_is true a b = refl
less_is false a b = refl

less_number_is : (signed : Bool) → immediate_op (less_number signed) ≡ less signed
less_number_is true = refl
less_number_is false = refl

equal_by_bits : (a b : ℕ) → (bit_xor a b == 0) ≡ (a == b)
equal_by_bits a b = ⊎_elim
    (λ e. eq-eqb (bit_xor a b) 0 (ap (λ n. bit_xor n b) e ∙ xor_self b) ∙ sym (eq-eqb a b e))
    (λ ne. ne_eqb (bit_xor a b) 0 (λ z. ne (sym (xor_assoc a b b ∙ ap (bit_xor a) (xor_self b) ∙ xor_zero_r a) ∙ ap
    (λ n. bit_xor n b) z))
    ∙ sym (ne_eqb a b ne))
    (cases_eq a b)

zero_test : (b : Bool) → (if b then 1 else 0) ≡ one_where b
zero_test true = refl
zero_test false = refl

some_test : (b : Bool) → (if b then 0 else 1) ≡ one_where (not b)
some_test true = refl
some_test false = refl

-- whether a number is 0, and whether it is not
none_is : (v : ℕ) → v < 2 ^ 64 → result_of regs.Sltu v (extended (pos 1)) ≡ one_where (v == 0)
none_is v h = ap (result_of regs.Sltu v) one_extended ∙ is_none v h ∙ zero_test (v == 0)

some_is : (v : ℕ) → v < 2 ^ 64 → result_of regs.Sltu 0 v ≡ one_where (not (v == 0))
some_is v h = is_some v h ∙ some_test (v == 0)

round : (b : Bool) → result_of regs.Xor (one_where b) (extended (pos 1)) ≡ one_where (not b)
round b = ap (result_of regs.Xor (one_where b)) one_extended ∙ turned_round b

module _ (s : Setting) (code : List Instr) (x : IsText s code) (p : Point) (t : State modes.Store) (n : Machine)
    (mid : ℕ)
    (point : IsAtPoint s code p mid t n) (r : ℕ) (range : (4 < r) × (r < 29)) (words : List Instr)
    (has : HasAt code mid words) where
  abbrev Gives : Bool → Type 0
  Gives c = Computed s code n (length words) (mid + length words) r r (null_at (one_where c))

  -- a truth value that is turned round behind the first word
  turned : (i : Instr) (c : Bool) → Rattle.cap_machine.specs.Step.is_call i ≡ false → row n i ≡ set_integer n r
      (one_where c)
      → words ≡ i ∷ turn_round r ∷ [] → Gives (not c)
  unfolding row imm_row
  turned i c plain does e =
      two_words s code x p t n mid point i (turn_round r) r (null_at (one_where c)) (null_at (one_where
      (not c))) words e has plain refl range does
      (λ u holds. ap (λ v. set_integer u r (result_of regs.Xor v (extended (pos 1)))) (number_at u r
      (one_where c) holds)
      ∙ ap (set_integer u r) (round c))

  alone : (i : Instr) (c : Bool) → Rattle.cap_machine.specs.Step.is_call i ≡ false → row n i ≡ set_integer n r
      (one_where c) → words ≡ i ∷ [] → Gives c
  alone i c plain does e = one_only s code x p t n mid point i r (null_at (one_where c)) words e has plain range does

  -- the bits in which two numbers differ
  differ : (i : Instr) (a b : ℕ) → a < 2 ^ 64 → b < 2 ^ 64 → Rattle.cap_machine.specs.Step.is_call i ≡ false
      → row n i ≡ set_integer n r (bit_xor a b)
      → (words ≡ i ∷ forms.is_zero r r ∷ [] → Gives (a == b)) × (words ≡ i ∷ forms.is_some r r ∷ [] → Gives (not
      (a == b)))
  unfolding row imm_row op_row
  differ i a b h j plain does =
      let v = bit_xor a b in
      let small = xor_lt 64 a b h j in (
        λ e. two_words s code x p t n mid point i (Imm Sltiu r r (pos 1)) r (null_at v) (null_at (one_where
            (a == b))) words e has plain refl range does
            (λ u holds. ap (λ q. set_integer u r (result_of regs.Sltu q (extended (pos 1)))) (number_at u r v holds)
            ∙ ap (set_integer u r) (none_is v small ∙ ap one_where (equal_by_bits a b))),
        λ e. two_words s code x p t n mid point i (Op regs.Sltu r 0 r) r (null_at v) (null_at (one_where (not
            (a == b)))) words e has plain refl range does
            (λ u holds. ap (λ q. set_integer u r (result_of regs.Sltu q (integer u r))) (null_address 0)
            ∙ ap (λ q. set_integer u r (result_of regs.Sltu 0 q)) (number_at u r v holds)
            ∙ ap (set_integer u r) (some_is v small ∙ ap (λ c. one_where (not c)) (equal_by_bits a b))),
      )

  module _ (signed : Bool) (y z a b : ℕ) (left : integer n y ≡ a) (h : a < 2 ^ 64) (j : b < 2 ^ 64) where
    less_row : (y z a b : ℕ) → integer n y ≡ a → integer n z ≡ b
        → row n (Op (less signed) r y z) ≡ set_integer n r (one_where (compare_of test.Lt (word_of_sign signed) a b))
    unfolding row op_row
    less_row y z a b e f =
        ap (λ q. set_integer n r (result_of (less signed) q (integer n z))) e ∙ ap (λ q. set_integer n r (result_of
        (less signed) a q)) f
        ∙ ap (set_integer n r) (less_is signed a b)

    -- of two registers
    both_compare : integer n z ≡ b → (o : CmpOp) → words ≡ compare_code o signed r y z → Gives (compares signed o a b)
    unfolding row op_row
    both_compare right test.Lt e = alone (Op (less signed) r y z) (compares signed test.Lt a b) refl
        (less_row y z a b left right) e
    both_compare right test.Gt e = alone (Op (less signed) r z y) (compares signed test.Gt a b) refl
        (less_row z y b a right left) e
    both_compare right test.Le e = turned (Op (less signed) r z y) (compares signed test.Gt a b) refl
        (less_row z y b a right left) e
    both_compare right test.Ge e = turned (Op (less signed) r y z) (compares signed test.Lt a b) refl
        (less_row y z a b left right) e
    both_compare right test.Eq e =
        (differ (Op regs.Xor r y z) a b h j refl
        (ap (λ q. set_integer n r (result_of regs.Xor q (integer n z))) left ∙ ap (λ q. set_integer n r
        (result_of regs.Xor a q)) right
        ∙ ap (set_integer n r) (xor_is a b h j))).0 e
    both_compare right test.Ne e =
        (differ (Op regs.Xor r y z) a b h j refl
        (ap (λ q. set_integer n r (result_of regs.Xor q (integer n z))) left ∙ ap (λ q. set_integer n r
        (result_of regs.Xor a q)) right
        ∙ ap (set_integer n r) (xor_is a b h j))).1 e

    -- of a register and a number
    number_row : (w : ℤ) → extended w ≡ b
        → row n (Imm (less_number signed) r y w) ≡ set_integer n r (one_where (compare_of test.Lt
        (word_of_sign signed) a b))
    unfolding row imm_row
    number_row w e =
        ap (λ q. set_integer n r (result_of (immediate_op (less_number signed)) q (extended w))) left
        ∙ ap (λ q. set_integer n r (result_of (immediate_op (less_number signed)) a q)) e
        ∙ ap (λ g. set_integer n r (result_of g a b)) (less_number_is signed) ∙ ap (set_integer n r)
        (less_is signed a b)

    xor_row : (w : ℤ) → extended w ≡ b → row n (Imm Xori r y w) ≡ set_integer n r (bit_xor a b)
    unfolding row imm_row
    xor_row w e =
        ap (λ q. set_integer n r (result_of regs.Xor q (extended w))) left ∙ ap (λ q. set_integer n r
        (result_of regs.Xor a q)) e
        ∙ ap (set_integer n r) (xor_is a b h j)

    number_compare : (w : ℤ) → extended w ≡ b → (o : CmpOp) → Some words ≡ compare_number o signed w r y → Gives
        (compares signed o a b)
    number_compare w e test.Lt f =
        alone (Imm (less_number signed) r y w) (compares signed test.Lt a b) refl (number_row w e) (same_Some words _ f)
    number_compare w e test.Ge f =
        turned (Imm (less_number signed) r y w) (compares signed test.Lt a b) refl (number_row w e)
        (same_Some words _ f)
    number_compare w e test.Eq f = (differ (Imm Xori r y w) a b h j refl (xor_row w e)).0 (same_Some words _ f)
    number_compare w e test.Ne f = (differ (Imm Xori r y w) a b h j refl (xor_row w e)).1 (same_Some words _ f)
    number_compare w e test.Le f = absurd (none-some words (sym f))
    number_compare w e test.Gt f = absurd (none-some words (sym f))

    zero_compare : b ≡ 0 → (o : CmpOp) → Some words ≡ compare_zero o r y → Gives (compares signed o a b)
    unfolding row imm_row op_row
    zero_compare e test.Eq f =
        alone (Imm Sltiu r y (pos 1)) (a == b) refl
        (ap (λ q. set_integer n r (result_of regs.Sltu q (extended (pos 1)))) left
        ∙ ap (set_integer n r) (none_is a h ∙ ap (λ q. one_where (a == q)) (sym e))) (same_Some words _ f)
    zero_compare e test.Ne f =
        alone (Op regs.Sltu r 0 y) (not (a == b)) refl
        (ap (λ q. set_integer n r (result_of regs.Sltu q (integer n y))) (null_address 0)
        ∙ ap (λ q. set_integer n r (result_of regs.Sltu 0 q)) left
        ∙ ap (set_integer n r) (some_is a h ∙ ap (λ q. one_where (not (a == q))) (sym e))) (same_Some words _ f)
    zero_compare e test.Lt f = absurd (none-some words (sym f))
    zero_compare e test.Gt f = absurd (none-some words (sym f))
    zero_compare e test.Le f = absurd (none-some words (sym f))
    zero_compare e test.Ge f = absurd (none-some words (sym f))

-- what the comparison means
addresses_compare : (s : Setting) (t : State modes.Store) (o : CmpOp) (signed : Bool) (v w : Value)
    → address_of (addresses_of s.map) (base_in t.mem.memory.shapes) v < 2 ^ 64 → address_of (addresses_of s.map)
    (base_in t.mem.memory.shapes) w < 2 ^ 64
    → (operations (placed_plan s.map)).compare t.mem o signed v w
    ≡ Ok (compares signed o (address_of (addresses_of s.map) (base_in t.mem.memory.shapes) v) (address_of
    (addresses_of s.map) (base_in t.mem.memory.shapes) w))
unfolding operations
addresses_compare s t test.Lt signed v w h j = ap (λ b. Ok b) (less_words signed _ _ h j)
addresses_compare s t test.Gt signed v w h j = ap (λ b. Ok b) (less_words signed _ _ j h)
addresses_compare s t test.Le signed v w h j = ap (λ b. Ok (not b)) (less_words signed _ _ j h)
addresses_compare s t test.Ge signed v w h j = ap (λ b. Ok (not b)) (less_words signed _ _ h j)
addresses_compare s t test.Eq signed v w h j = refl
addresses_compare s t test.Ne signed v w h j = refl

compared : (s : Setting) (t : State modes.Store) (o : CmpOp) (k : TacKind) (v w : Value) → IsOfKind (kind_of k) v
    → IsOfKind (kind_of k) w
    → address_of (addresses_of s.map) (base_in t.mem.memory.shapes) v < 2 ^ 64 → address_of (addresses_of s.map)
    (base_in t.mem.memory.shapes) w < 2 ^ 64
    → compare_by (operations (placed_plan s.map)) t.mem o (kind_of k) v w
    ≡ Ok (compares (compares_signed k) o (address_of (addresses_of s.map) (base_in t.mem.memory.shapes) v) (address_of
    (addresses_of s.map) (base_in t.mem.memory.shapes) w))
compared s t o (kind.Int k) (Int n) (Int q) x y h j = ap (λ b. Ok b) (integers_compare o k n q x y)
compared s t o (kind.Int k) (Int n) (Live object low high offset permissions) x y h j = absurd y
compared s t o (kind.Int k) (Int n) (Fun f) x y h j = absurd y
compared s t o (kind.Int k) (Int n) (Raw address upper) x y h j = absurd y
compared s t o (kind.Int k) (Live object low high offset permissions) w x y h j = absurd x
compared s t o (kind.Int k) (Fun f) w x y h j = absurd x
compared s t o (kind.Int k) (Raw address upper) w x y h j = absurd x
compared s t o (kind.Cap signed) v w x y h j = addresses_compare s t o signed v w h j

int_bit : (b : Bool) → IsKept int.I32 (one_where b)
unfolding wrapped reduced kept_of
int_bit true = record { kept = refl }
int_bit false = record { kept = refl }

compare_few : (o : CmpOp) (signed : Bool) (r y z : ℕ) → length (compare_code o signed r y z) ≤ 2
compare_few test.Lt signed r y z = omega arith
compare_few test.Gt signed r y z = omega arith
compare_few test.Le signed r y z = omega arith
compare_few test.Ge signed r y z = omega arith
compare_few test.Eq signed r y z = omega arith
compare_few test.Ne signed r y z = omega arith

few_of : Option (List Instr) → Type 0
few_of None = Unit {0}
few_of (Some ws) = length ws ≤ 2

number_few : (o : CmpOp) (signed : Bool) (w : ℤ) (r y : ℕ) → few_of (compare_number o signed w r y)
unfolding few_of
number_few test.Lt signed w r y = omega arith
number_few test.Ge signed w r y = omega arith
number_few test.Eq signed w r y = omega arith
number_few test.Ne signed w r y = omega arith
number_few test.Le signed w r y = tt
number_few test.Gt signed w r y = tt

zero_few : (o : CmpOp) (r y : ℕ) → few_of (compare_zero o r y)
unfolding few_of
zero_few test.Eq r y = omega arith
zero_few test.Ne r y = omega arith
zero_few test.Lt r y = tt
zero_few test.Gt r y = tt
zero_few test.Le r y = tt
zero_few test.Ge r y = tt

some_few : (ws : List Instr) (o : Option (List Instr)) → Some ws ≡ o → few_of o → length ws ≤ 2
unfolding few_of
some_few ws o e f = subst few_of (sym e) f

module _ (s : Setting) (code : List Instr) (x : IsText s code) (stack : StackIsThere s) (w : World) (p : Typed)
    (running : Running)
    (o : CmpOp) (k : TacKind) (to a b : ℕ) (rest : List TacInstr)
    (sel : IsSelectable s p running (instr.Cmp o k to a b) rest) (at : ℕ) (t : State modes.Store) (m : Machine)
    (point : IsAtPoint s code (before running (instr.Cmp o k to a b) rest) at t m)
    (kinded : AreOfKinds (kinds_in s running) t.vars) where
  abbrev i : TacInstr
  i = instr.Cmp o k to a b

  abbrev here : Point
  here = before running i rest

  abbrev bits : Value → Cap
  bits = capability_of (addresses_of s.map) (base_in t.mem.memory.shapes)

  abbrev left : ℕ
  left = address_of (addresses_of s.map) (base_in t.mem.memory.shapes) (temp_in t a)

  abbrev right : ℕ
  right = address_of (addresses_of s.map) (base_in t.mem.memory.shapes) (temp_in t b)

  abbrev holds : Bool
  holds = compares (compares_signed k) o left right

  compare_parts : (has p sel.d (kinds_in s running) (code_in s running) to int_result ≡ true)
      × (has p sel.d (kinds_in s running) (code_in s running) a (kind_of k) ≡ true)
      × (has p sel.d (kinds_in s running) (code_in s running) b (kind_of k) ≡ true)
  compare_parts =
      let q = and_parts (has p sel.d (kinds_in s running) (code_in s running) to int_result && has p sel.d
      (kinds_in s running) (code_in s running) a (kind_of k))
      (has p sel.d (kinds_in s running) (code_in s running) b (kind_of k)) sel.fits in
      let r = and_parts (has p sel.d (kinds_in s running) (code_in s running) to int_result)
      (has p sel.d (kinds_in s running) (code_in s running) a (kind_of k)) q.0 in
      (r.0, r.1, q.1)

  of_kind : (v : ℕ) → has p sel.d (kinds_in s running) (code_in s running) v (kind_of k) ≡ true → IsOfKind (kind_of k)
      (temp_in t v)
  of_kind v fits =
      let h = has_kind p sel.d (kinds_in s running) (code_in s running) v (kind_of k) fits in
      kind_passes (kind_of k) (kind_at (kinds_in s running) v) (temp_in t v) (same_turned (kind_at
      (kinds_in s running) v) (kind_of k) h.1)
      (kinded.each v h.0)

  known_left : IsKnown t.mem.memory.shapes (functions_of s) (temp_in t a)
  known_left = point.fits.calls.1.known a (now (zero, refl))

  known_right : IsKnown t.mem.memory.shapes (functions_of s) (temp_in t b)
  known_right = point.fits.calls.1.known b (now (suc zero, refl))

  left_below : left < 2 ^ 64
  left_below = address_below s code x here at t m point (temp_in t a) known_left

  right_below : right < 2 ^ 64
  right_below = address_below s code x here at t m point (temp_in t b) known_right

  left_there : (u : Machine) (q : ℕ) → register u q ≡ bits (temp_in t a) → integer u q ≡ left
  left_there u q e = ap (λ (c : Cap). c.fields.address) e ∙ address_there s code x here at t m point
      (temp_in t a) known_left

  right_there : (u : Machine) (q : ℕ) → register u q ≡ bits (temp_in t b) → integer u q ≡ right
  right_there u q e = ap (λ (c : Cap). c.fields.address) e ∙ address_there s code x here at t m point
      (temp_in t b) known_right

  -- a temp that is a number has it as its address
  number_right : (n : ℕ) → IsNumber (selecting s running.fun) b n → right ≡ n
  number_right n is =
      sym (address_there s code x here at t m point (temp_in t b) known_right)
      ∙ ap (λ (c : Cap). c.fields.address) (numbers_read_back_law s here t m point.fits b n (now
      (suc zero, refl)) is).0 ∙ null_address n

  meant : compare_by (operations (placed_plan s.map)) t.mem o (kind_of k) (temp_in t a) (temp_in t b) ≡ Ok holds
  meant = compared s t o k (temp_in t a) (temp_in t b) (of_kind a compare_parts.1)
      (of_kind b compare_parts.2) left_below right_below

  result_bits : bits (truth holds) ≡ null_at (one_where holds)
  result_bits = truth_bits (addresses_of s.map) (base_in t.mem.memory.shapes) holds

  result_known : IsKnown t.mem.memory.shapes (functions_of s) (truth holds)
  result_known = truth_known t.mem.memory.shapes (functions_of s) holds

  abbrev Result_home : List Instr → Type 0
  Result_home ws = Arrives s code (behind running rest) 0 11 (at + length ws) (record t {
    vars = slice_set t.vars to
        (Some (truth holds));
  }) m

  comparisons : (ws : List Instr) → ComparisonWords (selecting s running.fun) o k to a b ws → HasAt code at ws →
      Result_home ws
  comparisons ws (Both form) has =
      within s code (behind running rest) 0 (3 + 2 + 6) 11 (at + length ws) _ m (omega arith)
      (of_two s code x stack p running i rest to refl refl (λ n h. h) sel t m at point a (zero, refl)
      (truth holds) result_known
      (Other (selecting s running.fun) b) (bits (temp_in t b)) 3
      (other_comes s code x stack p running i rest to refl refl (λ n h. h) sel t m at point a (zero, refl) b
      (suc zero, refl))
      (λ r y z us. us ≡ compare_code o (compares_signed k) r y z)
      (λ u mid y z now_here e f r us is range hs.
      subst (Computed s code u (length us) (mid + length us) r r) (sym result_bits)
      (both_compare s code x here t u mid now_here r range us hs (compares_signed k) y z left right
      (left_there u y e) left_below right_below
      (right_there u z f) o is))
      2 (λ r y z us is. subst (λ q. length q ≤ 2) (sym is) (compare_few o (compares_signed k) r y z)) ws form has)
  comparisons ws (Number n v is e form) has =
      within s code (behind running rest) 0 (2 + 6) 11 (at + length ws) _ m (omega arith)
      (of_one s code x stack p running i rest to refl refl (λ n h. h) sel t m at point a (zero, refl)
      (truth holds) result_known
      (λ r y us. Some us ≡ compare_number o (compares_signed k) v r y)
      (λ u mid y now_here f r us is' range hs.
      subst (Computed s code u (length us) (mid + length us) r r) (sym result_bits)
      (number_compare s code x here t u mid now_here r range us hs (compares_signed k) y 0 left right
      (left_there u y f) left_below right_below
      v (e ∙ sym (number_right n is)) o is'))
      2 (λ r y us is'. some_few us (compare_number o (compares_signed k) v r y) is' (number_few o
      (compares_signed k) v r y)) ws form has)
  comparisons ws (Zero is form) has =
      within s code (behind running rest) 0 (2 + 6) 11 (at + length ws) _ m (omega arith)
      (of_one s code x stack p running i rest to refl refl (λ n h. h) sel t m at point a (zero, refl)
      (truth holds) result_known
      (λ r y us. Some us ≡ compare_zero o r y)
      (λ u mid y now_here f r us is' range hs.
      subst (Computed s code u (length us) (mid + length us) r r) (sym result_bits)
      (zero_compare s code x here t u mid now_here r range us hs (compares_signed k) y 0 left right
      (left_there u y f) left_below right_below
      (number_right 0 is) o is'))
      2 (λ r y us is'. some_few us (compare_zero o r y) is' (zero_few o r y)) ws form has)

pub comparisons_run_law : ComparisonsRun
comparisons_run_law s code x stack w p running (instr.Cmp o k to a b) rest is sel at t m point kinded ws form
    held_words =
    let c = holds s code x stack w p running o k to a b rest sel at t m point kinded in
    let parts = compare_parts s code x stack w p running o k to a b rest sel at t m point kinded in
    let h = has_kind p sel.d (kinds_in s running) (code_in s running) to int_result parts.0 in
    record {
      next = record t { vars = slice_set t.vars to (Some (truth c)) };
      means = λ go. ap (λ y. answer no_position y t (λ v u. set_temp to (truth v) u go))
          (meant s code x stack w p running o k to a b rest sel at t m point kinded);
      kinded = kinded_set (kinds_in s running) t.vars to (truth c) kinded h.0
          (kind_passes (kind_at (kinds_in s running) to) int_result (truth c) h.1 (truth_kept int.I32 int_bit c));
      does = comparisons s code x stack w p running o k to a b rest sel at t m point kinded ws form held_words;
    }
comparisons_run_law s code x stack w p running i rest is sel at t m point kinded ws form held_words = absurd is
