-- Words that make a number do so on the machine.
use Rattle.std.proofs.Common.{◌≡◌, ℕ, suc, ◌+◌, ◌-◌, ◌*◌, ◌%◌, ◌^◌, ◌<◌, ◌≤◌, inl, inr, ℤ, pos, negsuc, false, List, []}
use Rattle.std.proofs.Common.{◌∷◌, length, Some, refl, sym, ap, ◌∙◌, subst, arith, ⊎_elim, if◌then◌else◌}
use Rattle.std.specs.Prelude.{slice_get, ◌==◌}
use Rattle.std.proofs.Math.Nat.{mod-eq_of_lt}
use Rattle.std.proofs.lemmas.Bool.{cases_lt, eq-eqb, ne_eqb}
use Rattle.std.proofs.lemmas.Bool.Decides.{nat_tests}
use Rattle.std.proofs.lemmas.Int.{ints}
use Rattle.ck_int.specs.declared.kinds.IntKind.TheVariants as kind
use Rattle.ck_int.specs.declared.kinds.IntOp.TheVariants as op
use Rattle.ck_int.specs.Arithmetic.{binary_of}
use Rattle.ck_int.specs.Arithmetic as arithmetic
use Rattle.ck_int.specs.Kinds.{twos_complement, modulo, reduced, kept_of, wrapped, value_of, converted}
use Rattle.ck_int.proofs.Forms.{twos_complement-low, twos_complement-high}
use Rattle.ck_int.proofs.OperationLaws.{binary_of-modular, wrapped-64, binary_of-Shl}
use Rattle.cap_ops.specs.declared.capability.Cap.{Cap}
use Rattle.cap_ops.specs.Capability.{null_at}
use Rattle.rv_instr.specs.Range.{InRange, FitsBits}
use Rattle.rv_instr.specs.declared.instr.Instr.{Instr}
use Rattle.rv_instr.specs.declared.instr.Instr.TheVariants.{Upper, Imm, Shift}
use Rattle.rv_instr.specs.declared.ops.UpperOp.TheVariants.{Lui}
use Rattle.rv_instr.specs.declared.ops.ImmOp.TheVariants.{Addi, Addiw}
use Rattle.rv_instr.specs.declared.ops.ShiftOp.TheVariants.{Slli}
use Rattle.rv_instr.specs.declared.ops.RegOp.TheVariants.{Add, Addw, Sll}
use Rattle.cap_machine.specs.declared.machine.Machine.{Machine}
use Rattle.cap_machine.specs.Integers.{result_of, word, upper, extended}
use Rattle.cap_machine.specs.State.{register, integer}
use Rattle.cap_machine.specs.Rows.{row, upper_row, imm_row, shift_row, set_integer}
use Rattle.purecap_abi.specs.Numbers.{signed_word, plus, set_by, number_after, ReadsOwn, IsNumberWord}
use Rattle.select_words.specs.Standing.{HasAt}
use Rattle.select_words.specs.Numbers.{AreNumberWords, MakesNumber}
use Rattle.select_runs.specs.Acts.{Ground, Laid, Holds, IsThere}
use Rattle.select_runs.specs.Numbers.{NumbersAreMade}
use Rattle.select_runs.proofs.Acts.{still, one_set, after}

-- ---- arithmetic of the words

pub null_address : (n : ℕ) → (null_at n).fields.address ≡ n
unfolding null_at
null_address n = refl

-- the number of a register that has an integer
pub number_at : (u : Machine) (r n : ℕ) → register u r ≡ null_at n → integer u r ≡ n
number_at u r n e = ap (λ (c : Cap). c.fields.address) e ∙ null_address n

small_kept : (n : ℕ) → n < 2 ^ 31 → kept_of (twos_complement 32 n) ≡ n
unfolding kept_of
small_kept n h = ap (λ z. modulo z (2 ^ 64)) (twos_complement-low 32 n h) ∙ mod-eq_of_lt (omega arith)

great_kept : (n : ℕ) → 2 ^ 31 ≤ n → n < 2 ^ 32 → kept_of (twos_complement 32 n) ≡ n + (2 ^ 64 - 2 ^ 32)
unfolding kept_of
great_kept n h j = ap (λ z. modulo z (2 ^ 64)) (twos_complement-high 32 n h j) ∙ omega arith

pub signed_small : (v : ℕ) → v % 2 ^ 32 < 2 ^ 31 → signed_word v ≡ v % 2 ^ 32
unfolding signed_word
signed_small v h = grind (arith, nat_tests)

pub signed_great : (v : ℕ) → 2 ^ 31 ≤ v % 2 ^ 32 → signed_word v ≡ v % 2 ^ 32 + (2 ^ 64 - 2 ^ 32)
unfolding signed_word
signed_great v h = grind (arith, nat_tests)

kept_word : (v : ℕ) → kept_of (twos_complement 32 (v % 2 ^ 32)) ≡ signed_word v
kept_word v = ⊎_elim
    (λ low. small_kept (v % 2 ^ 32) low ∙ sym (signed_small v low))
    (λ high. great_kept (v % 2 ^ 32) high (omega arith) ∙ sym (signed_great v high))
    (cases_lt (v % 2 ^ 32) (2 ^ 31))

-- 32 bits with their sign
pub wrapped_word : (v : ℕ) → wrapped kind.I32 (pos v) ≡ signed_word v
unfolding wrapped reduced
wrapped_word v = kept_word v

pub word_is : (v : ℕ) → word v ≡ signed_word v
unfolding converted wrapped reduced value_of
word_is v =
    let e : v % 2 ^ 32 % 2 ^ 32 ≡ v % 2 ^ 32 = omega arith in
    ap (λ n. kept_of (twos_complement 32 n)) e ∙ kept_word v

-- sums
pub add_is : (a b : ℕ) → result_of Add a b ≡ (a + b) % 2 ^ 64
unfolding result_of kept_of
add_is a b = binary_of-modular op.Add kind.I64 a b tt (omega arith) ∙ wrapped-64 kind.I64 (pos (a + b)) refl

pub addw_is : (a b : ℕ) → result_of Addw a b ≡ signed_word (a + b)
unfolding result_of
addw_is a b = binary_of-modular op.Add kind.I32 a b tt (omega arith) ∙ wrapped_word (a + b)

signed_again : (v : ℕ) → signed_word (v % 2 ^ 64) ≡ signed_word v
signed_again v =
    let e : v % 2 ^ 64 % 2 ^ 32 ≡ v % 2 ^ 32 = omega arith in
    ⊎_elim
    (λ low. signed_small (v % 2 ^ 64) (omega arith) ∙ e ∙ sym (signed_small v low))
    (λ high. signed_great (v % 2 ^ 64) (omega arith) ∙ ap (λ n. n + (2 ^ 64 - 2 ^ 32)) e ∙ sym (signed_great v high))
    (cases_lt (v % 2 ^ 32) (2 ^ 31))

-- a small number is the same with its sign in 64 bits
pub plus_extended : (a : ℕ) (z : ℤ) → FitsBits 12 z → (a + extended z) % 2 ^ 64 ≡ plus a z
unfolding plus kept_of
plus_extended a (pos n) h = omega arith
plus_extended a (negsuc n) h = let low = h.0 in let small : n < 2048 = omega (arith, ints, low) in omega (arith, small)

shift_low : (a : ℕ) → binary_of op.Shl kind.I64 a 12 ≡ binary_of op.Shl kind.I64 (a % 2 ^ 64) 12
unfolding binary_of value_of reduced
shift_low a =
    let e : a % 2 ^ 64 ≡ a % 2 ^ 64 % 2 ^ 64 = omega arith in
    ap (λ n. wrapped kind.I64 (arithmetic.result_of op.Shl 64 (twos_complement 64 n) (value_of kind.I64 12))) e

shifted_is : (a : ℕ) → result_of Sll a 12 ≡ (a * 2 ^ 12) % 2 ^ 64
unfolding result_of
shifted_is a =
    let e : a % 2 ^ 64 < 2 ^ 64 = omega arith in
    shift_low a ∙ binary_of-Shl kind.I64 (a % 2 ^ 64) 12 refl e (omega arith) ∙ omega arith

-- ---- one word

own_number : (m : Machine) (to from x : ℕ) → ReadsOwn to from → 0 < to → integer m to ≡ x
    → integer m from ≡ (if from == 0 then 0 else x)
own_number m to from x (inl e) some is =
    ap (integer m) e ∙ is ∙ sym (ap (λ b. if b then 0 else x) (ne_eqb from 0 (omega arith)))
own_number m to from x (inr e) some is =
    ap (integer m) e ∙ null_address 0 ∙ sym (ap (λ b. if b then 0 else x) (eq-eqb from 0 e))

does : (m : Machine) (to x : ℕ) (i : Instr) → IsNumberWord to i → InRange i → 0 < to → integer m to ≡ x
    → row m i ≡ set_integer m to (set_by i x)
unfolding row upper_row imm_row shift_row InRange
does m to x (Upper Lui r field) own range some is =
    ap (λ q. set_integer m q (upper field)) own ∙ ap (set_integer m to) (word_is (field * 4096))
does m to x (Imm Addi r from z) own range some is =
    ap (λ q. set_integer m q (result_of Add (integer m from) (extended z))) own.0
    ∙ ap (λ n. set_integer m to (result_of Add n (extended z))) (own_number m to from x own.1 some is)
    ∙ ap (set_integer m to) (add_is _ (extended z) ∙ plus_extended _ z range.2)
does m to x (Imm Addiw r from z) own range some is =
    ap (λ q. set_integer m q (result_of Addw (integer m from) (extended z))) own.0
    ∙ ap (λ n. set_integer m to (result_of Addw n (extended z))) (own_number m to from x own.1 some is)
    ∙ ap (set_integer m to) (addw_is _ (extended z) ∙ sym (signed_again _) ∙ ap signed_word (plus_extended _ z range.2))
does m to x (Shift Slli r from n) own range some is =
    ap (λ q. set_integer m q (result_of Sll (integer m from) n)) own.0
    ∙ ap (λ q. set_integer m to (result_of Sll (integer m q) n)) own.1
    ∙ ap (λ q. set_integer m to (result_of Sll q n)) is
    ∙ ap (λ q. set_integer m to (result_of Sll x q)) own.2
    ∙ ap (set_integer m to) (shifted_is x ∙ sym (ap (λ q. (x * 2 ^ q) % 2 ^ 64) own.2))
does m to x i own range some is = absurd own

no_call : (to : ℕ) (i : Instr) → IsNumberWord to i → Rattle.cap_machine.specs.Step.is_call i ≡ false
no_call to Rattle.rv_instr.specs.declared.instr.Instr.TheVariants.Ecall h = absurd h
no_call to i h = refl

-- ---- all of them

module _ (g : Ground) (laid : Laid g) (to : ℕ) (some : 0 < to) (below : to < 32) where
  one : (m : Machine) (at : ℕ) (there : IsThere g m at) (i : Instr) (x : ℕ) → IsNumberWord to i
      → slice_get g.code at ≡ Some i → integer m to ≡ x → Holds g m 1 (at + 1) to to (null_at (set_by i x))
  one m at there i x own has is =
      one_set g laid m at there i to (null_at (set_by i x)) has (no_call to i own) some below
      (does m to x i own (laid.in_range at i has) some is)

  all : (words : List Instr) (m : Machine) (at : ℕ) (there : IsThere g m at) (i : Instr) (x : ℕ) → IsNumberWord to i
      → AreNumberWords to words → slice_get g.code at ≡ Some i → HasAt g.code (at + 1) words → integer m to ≡ x
      → Holds g m (suc (length words)) (at + suc (length words)) to to (null_at (number_after (i ∷ words) x))
  unfolding number_after
  all [] m at there i x own owns has rest is = one m at there i x own has is
  all (j ∷ js) m at there i x own owns has rest is =
      let h = one m at there i x own has is in
      let k = all js h.to (at + 1) (still g laid m (at + 1) at to to 1 (null_at (set_by i x)) there h) j (set_by i x)
      owns.0 owns.1 rest.0 rest.1 (ap (λ (c : Cap). c.fields.address) h.holds ∙ null_address (set_by i x)) in
      let e : at + 1 + suc (length js) ≡ at + suc (suc (length js)) = omega arith in
      let f : 1 + suc (length js) ≡ suc (suc (length js)) = omega arith in
      subst (λ n. Holds g m n (at + suc (suc (length js))) to to (null_at (number_after js (set_by j (set_by i x))))) f
      (subst (λ n. Holds g m (1 + suc (length js)) n to to (null_at (number_after js (set_by j (set_by i x))))) e
      (after g laid m at (at + 1) (at + 1 + suc (length js)) to to to 1 (suc (length js)) (null_at (set_by i x))
      (null_at (number_after js (set_by j (set_by i x)))) h k))

pub numbers_are_made_law : NumbersAreMade
numbers_are_made_law g laid m at there to value some below words makes has = go words makes has
  where
    go : (ws : List Instr) → MakesNumber to value ws → HasAt g.code at ws
        → Holds g m (length ws) (at + length ws) to to (null_at value)
    go [] w h = absurd (omega (arith, w.some))
    go (i ∷ is) w h =
        subst (λ v. Holds g m (length (i ∷ is)) (at + length (i ∷ is)) to to (null_at v)) (w.made (integer m to))
        (all g laid to some below is m at there i (integer m to) w.own.0 w.own.1 h.0 h.1 refl)
