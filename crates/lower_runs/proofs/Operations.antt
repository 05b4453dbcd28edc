-- Operations on values that are in temps.
use Rattle.std.proofs.Common.{◌≡◌, ℕ, ◌≤◌, Bool, true, false, not, List, [], ◌∷◌, Option, Some}
use Rattle.std.proofs.Common.{Result, Ok, refl, sym, ap, ◌∙◌, arith, if◌then◌else◌, length-set}
use Rattle.std.specs.Prelude.{slice_get, slice_set, ◌&&◌, ◌==◌, ◌^◌, ◌-◌, pos}
use Rattle.ck_base.specs.World.{World}
use Rattle.ck_base.specs.declared.positions.Pos.{Pos}
use Rattle.ck_int.specs.Arithmetic.{binary_of, promoted_width_of, result_of}
use Rattle.ck_int.specs.Kinds.{wrapped, kept_of, value_of as value_of_kind}
use Rattle.ck_int.proofs.OperationLaws.{IsKept-64}
use Rattle.std.proofs.lemmas.Nat.{xor_comm}
use Rattle.ck_int.proofs.Laws.{value_of-wrapped}
use Rattle.ck_int.specs.declared.kinds.CmpOp.{CmpOp}
use Rattle.ck_int.specs.declared.kinds.CmpOp.TheVariants.{Eq, Ne}
use Rattle.ck_int.specs.declared.kinds.IntKind.{IntKind}
use Rattle.ck_int.specs.declared.kinds.IntKind.TheVariants as int
use Rattle.ck_int.specs.declared.kinds.IntOp.{IntOp}
use Rattle.ck_int.specs.declared.kinds.IntOp.TheVariants.{Sub, Xor}
use Rattle.c_tree.specs.declared.typed.Typed.{Typed}
use Rattle.obj_mem.specs.Values.{Value}
use Rattle.obj_mem.specs.Values as value
use Rattle.obj_mem.specs.declared.ending.Fault.{Fault}
use Rattle.cheri_c_sem.specs.Kinds.{Kind, Plain, Capability, zero_of, number_of, truth}
use Rattle.cheri_c_sem.specs.Modes.{Store}
use Rattle.cheri_c_sem.specs.Meaning.{test, operate_by, sign_by}
use Rattle.cheri_c_sem.specs.Operations.{Operations, on_ok, compare_by, convert_by, int_by}
use Rattle.cheri_c_sem.specs.Steps.{State, Fate, Then, ◌>>=◌, give, ask, answer}
use Rattle.cheri_c_sem.specs.Tree.{Whole, Sign, Positive, Negative, Complement}
use Rattle.tac_ir.specs.Effects.{kind_of, kind_at, held, no_position}
use Rattle.tac_ir.specs.Meaning.{Running, Runs, turns}
use Rattle.tac_ir.specs.Temps.{behind}
use Rattle.tac_ir.specs.WellFormed.{is_int}
use Rattle.cheri_c_sem.specs.Types.{is_shift}
use Rattle.tac_ir.specs.declared.code.Tac.{Tac}
use Rattle.tac_ir.specs.declared.code.TacInstr.{TacInstr}
use Rattle.tac_ir.specs.declared.code.TacInstr.TheVariants as instr
use Rattle.tac_ir.specs.declared.code.TacKind.{TacKind}
use Rattle.tac_ir.specs.declared.code.TacKind.TheVariants as kind
use Rattle.lower_runs.specs.States.{Scene, IsScene, IsPlaced}
use Rattle.lower_runs.specs.Operating.{Code, AreInts, word, is_capability, transfer, negated, signed_integer}
use Rattle.lower_runs.specs.Operating.{sign_temps, all_ones, whole, right_temps}
use Rattle.lower_runs.specs.Expressions.{int_kind, IsRight}
use Rattle.lower_runs.specs.Simulation.{Scratched, UnaryRuns, BinaryRuns, goes, kinds}
use Rattle.lower_runs.proofs.Agreement.{get_set_same, get_set_other}
use Rattle.lower_runs.proofs.Steps.{truth_is_of, compares, converts, computes, computes_address}
use Rattle.lower_runs.proofs.Steps.{computed_is_of, opposite_truth, constant, constant_zero, constant_runs, held_is}
use Rattle.lower_runs.proofs.Steps.{transfer_runs}

-- an operation takes all ones as its kind keeps them
pub ones_same : (i : IntKind) (y : ℕ) → binary_of Xor i (2 ^ 64 - 1) y ≡ binary_of Xor i y (all_ones i)
unfolding binary_of value_of_kind
ones_same i y =
    ap (λ x. wrapped i (result_of Xor (promoted_width_of i) x (value_of_kind i y))) (sym (value_of-wrapped i _))
    ∙ ap (λ n. wrapped i (pos n)) (xor_comm (kept_of (value_of_kind i (all_ones i))) (kept_of (value_of_kind i y)))

-- a transfer has no label
pub transfer_plain : (to from o : ℕ) (rest : List TacInstr) → behind o (transfer to from rest) ≡ behind o rest
transfer_plain to from o rest = by (to == from)
  where
    by : (b : Bool) → behind o (if b then rest else instr.Copy to from ∷ rest) ≡ behind o rest
    by true = refl
    by false = refl

module _ (ops : Operations Store) (placed : IsPlaced ops) (w : World) (t : Tac) (p : Typed)
    (objects : ℕ → List ℕ) (r : Running) (call : ℕ → List Value → Then Store Value) (g : Scene)
    (scene : IsScene g) where
  abbrev run : List TacInstr → State Store → List (Option Value) → Fate
  run = goes ops w t p objects r call g

  -- behind an instruction that gives a temp its value, where so many turns are left
  abbrev sets : ℕ → ℕ → Value → List TacInstr → State Store → Fate
  sets n to v rest s = turns ops w t p objects n rest Runs r (record s { vars = slice_set s.vars to (Some v) })

  abbrev kind_in : ℕ → Kind
  kind_in = kind_at (kinds ops w t p objects r call g)

  abbrev Unary : (j k : TacKind) (to x from more : ℕ) (part : Value → Then Store Value) (d : Code) → Type 0
  Unary = UnaryRuns ops w t p objects r call g

  abbrev Binary : (i j k : TacKind) (to x y from more : ℕ) (part : Value → Value → Then Store Value) (d : Code) → Type 0
  Binary = BinaryRuns ops w t p objects r call g

  pub untouched : (n : ℕ) (us : List (Option Value)) → Scratched ops w t p objects r call g n us us
  untouched n us = record { room = refl; same = λ j lt. refl }

  pub scratch : (n j : ℕ) (us : List (Option Value)) (v : Option Value) → n ≤ j →
      Scratched ops w t p objects r call g n us (slice_set us j v)
  scratch n j us v le = record {
    room = length-set us j v;
    same = λ i lt. get_set_other us j i v (λ e. absurd (omega arith));
  }

  -- a value that operands determine, whose answer has a position in the meaning and none in the code
  asked : (q : Pos) (a b : Result Value Fault) (y : Value) (to : ℕ) (u : State Store) (us : List (Option Value))
      (rest : List TacInstr) → a ≡ Ok y → b ≡ a
      → answer no_position b (record u { vars = us }) (λ v. sets u.left to v rest)
      ≡ run rest u (slice_set us to (Some y))
  asked q a b y to u us rest e f =
      ap (λ z. answer no_position z (record u { vars = us }) (λ v. sets u.left to v rest)) (f ∙ e)

  pub means : (q : Pos) (a : Result Value Fault) (y : Value) (u : State Store) (l : Value → State Store → Fate) →
      a ≡ Ok y →
      answer q a u l ≡ l y u
  means q a y u l e = ap (λ z. answer q z u l) e

  -- ---- conversions

  pub conversion_runs : (q : Pos) (j k : TacKind) (to x from : ℕ) →
      Unary j k to x from 0 (λ v. ask q (λ m. convert_by ops m (kind_of j) (kind_of k) v))
      (λ rest. instr.Convert to x j k ∷ rest)
  conversion_runs q j k to x from = record {
    plain = λ o rest. refl;
    runs = λ v u us h room sound.
        let c = converts ops placed u.mem (kind_of j) (kind_of k) v h.typed in
        record {
          value = c.0;
          typed = c.2;
          temps = us;
          scratched = untouched from us;
          means = λ l. means q _ c.0 u l c.1;
          runs = λ rest. asked q _ (convert_by ops u.mem (kind_of j) (kind_of k) (held (slice_get us x))) c.0 to u us
              rest c.1 (ap (convert_by ops u.mem (kind_of j) (kind_of k))
              (held_is ops w t p objects r call g scene us x v h.value));
        };
  }

  -- ---- comparisons

  pub comparison_runs : (q : Pos) (op : CmpOp) (k : TacKind) (to x y from : ℕ)
      → Binary k k int_kind to x y from 0 (λ v z. ask q (λ m. compare_by ops m op (kind_of k) v z)
      >>= (λ b. give (truth b))) (λ rest. instr.Cmp op k to x y ∷ rest)
  comparison_runs q op k to x y from = record {
    plain = λ o rest. refl;
    runs = λ v z u us h i room sound.
        let c = compares ops placed u.mem op (kind_of k) v z in
        record {
          value = truth c.0;
          typed = truth_is_of c.0;
          temps = us;
          scratched = untouched from us;
          means = λ l. ap (λ a. answer q a u (λ b s. l (truth b) s)) c.1;
          runs = λ rest.
              let after : Result Bool Fault → Fate =
              λ a. answer no_position a (record u { vars = us }) (λ b. sets u.left to (truth b) rest) in
              ap after (ap (λ a. compare_by ops u.mem op (kind_of k) a (held (slice_get us y)))
              (held_is ops w t p objects r call g scene us x v h.value)
              ∙ ap (compare_by ops u.mem op (kind_of k) v) (held_is ops w t p objects r call g scene us y z i.value)
              ∙ c.1);
        };
  }

  -- ---- `!`

  pub negated_runs : (q : Pos) (k : TacKind) (to x from : ℕ) →
      Unary k int_kind to x from 1 (λ v. test ops w q (kind_of k) v >>= (λ b. give (truth (not b))))
      (negated k to x from)
  negated_runs q k to x from = record {
    plain = λ o rest. refl;
    runs = λ v u us h room sound.
        let c = compares ops placed u.mem Ne (kind_of k) v (zero_of (kind_of k)) in
        let vs = slice_set us from (Some (constant k 0)) in
        record {
          value = truth (not c.0);
          typed = truth_is_of (not c.0);
          temps = vs;
          scratched = scratch from from us (Some (constant k 0)) (omega arith);
          means = λ l. ap (λ a. answer q a u (λ b s. l (truth (not b)) s)) c.1;
          runs = λ rest.
              let after : Result Bool Fault → Fate =
              λ a. answer no_position a (record u { vars = vs }) (λ b. sets u.left to (truth b) rest) in
              constant_runs ops w t p objects r call g scene k from 0 (instr.Cmp Eq k to x from ∷ rest) u us
              ∙ ap after (ap (λ a. compare_by ops u.mem Eq (kind_of k) a (held (slice_get vs from)))
              (held_is ops w t p objects r call g scene vs x v
              (get_set_other us from x (Some (constant k 0)) (λ e. let lt = h.below in absurd (omega arith))
              ∙ h.value))
              ∙ ap (compare_by ops u.mem Eq (kind_of k) v)
              (held_is ops w t p objects r call g scene vs from (constant k 0)
              (get_set_same us from (Some (constant k 0)) (omega arith)) ∙ constant_zero k)
              ∙ opposite_truth ops placed u.mem (kind_of k) v c.0 c.1);
        };
  }

  -- ---- operations on integers

  pub int_runs : (op : IntOp) (i : IntKind) (to x y : ℕ) (v z : Value) (u : State Store) (us : List (Option Value))
      (rest : List TacInstr) → slice_get us x ≡ Some (Some v) → slice_get us y ≡ Some (Some z) →
      is_int (kind_in y) ≡ true
      → run (instr.Int op i to x y ∷ rest) u us
      ≡ run rest u (slice_set us to (Some (value.Int (binary_of op i (number_of v) (number_of z)))))
  int_runs op i to x y v z u us rest hv hz hk =
      let after : Result Value Fault → Fate =
      λ a. answer no_position a (record u { vars = us }) (λ b. sets u.left to b rest) in
      ap after (ap (λ a. int_by ops u.mem op i (kind_in y) a (held (slice_get us y)))
      (held_is ops w t p objects r call g scene us x v hv)
      ∙ ap (int_by ops u.mem op i (kind_in y) v) (held_is ops w t p objects r call g scene us y z hz)
      ∙ computes ops placed u.mem op i (kind_in y) v z hk)

  abbrev whole_by : Bool → IntOp → IntKind → TacKind → (to x y n : ℕ) → Code
  whole_by s op i k to x y n rest =
      if s && is_capability k then instr.Convert n y k word
      ∷ instr.Int op i to x (if s && is_capability k then n else y) ∷ rest
      else instr.Int op i to x (if s && is_capability k then n else y) ∷ rest

  whole_plain : (q : Pos) (op : IntOp) (i j : IntKind) (to x y from : ℕ) → is_int (kind_in y) ≡ true
      → Binary (kind.Int i) (kind.Int j) (kind.Int i) to x y from 0
      (λ v z. ask q (λ m. operate_by ops w (Whole op i (Plain j)) m v z)) (λ rest. instr.Int op i to x y ∷ rest)
  whole_plain q op i j to x y from hk = record {
    plain = λ o rest. refl;
    runs = λ v z u us h h2 room sound. record {
      value = value.Int (binary_of op i (number_of v) (number_of z));
      typed = computed_is_of ops placed op i (number_of v) (number_of z);
      temps = us;
      scratched = untouched from us;
      means = λ l. means q _ _ u l (computes ops placed u.mem op i (Plain j) v z refl);
      runs = λ rest. int_runs op i to x y v z u us rest h.value h2.value hk;
    };
  }

  whole_cases : (q : Pos) (op : IntOp) (i : IntKind) (k : TacKind) (s : Bool) (to x y from : ℕ) →
      IsRight s (kind.Int i) k → AreInts (kinds ops w t p objects r call g) (whole_by s op i k to x y from [])
      → Binary (kind.Int i) k (kind.Int i) to x y from (if s && is_capability k then 1 else 0)
      (λ v z. ask q (λ m. operate_by ops w (Whole op i (kind_of k)) m v z)) (whole_by s op i k to x y from)
  whole_cases q op i (kind.Int j) true to x y from right ints = whole_plain q op i j to x y from ints.0
  whole_cases q op i (kind.Int j) false to x y from right ints = whole_plain q op i j to x y from ints.0
  whole_cases q op i (kind.Cap z) false to x y from right ints = absurd cc
  whole_cases q op i (kind.Cap z) true to x y from right ints = record {
    plain = λ o rest. refl;
    runs = λ v b u us h h2 room sound.
        let a = placed.address u.mem b in
        let n = value.Int a.0 in
        let vs = slice_set us from (Some n) in
        let c : convert_by ops u.mem (Capability z) (Plain int.U64) (held (slice_get us y)) ≡ Ok n =
        ap (convert_by ops u.mem (Capability z) (Plain int.U64))
        (held_is ops w t p objects r call g scene us y b h2.value)
        ∙ ap (on_ok ops (λ c. Ok (value.Int (wrapped int.U64 (pos c))))) a.1
        ∙ ap (λ c. Ok (value.Int c)) (IsKept-64 int.U64 a.0 refl (placed.address_word u.mem b a.0 h2.typed a.1)).kept in
        record {
          value = value.Int (binary_of op i (number_of v) a.0);
          typed = computed_is_of ops placed op i (number_of v) a.0;
          temps = vs;
          scratched = scratch from from us (Some n) (omega arith);
          means = λ l. means q _ _ u l (computes_address ops placed u.mem op i z v b a.0 a.1);
          runs = λ rest.
              ap (λ c. answer no_position c (record u { vars = us })
              (λ d. sets u.left from d (instr.Int op i to x from ∷ rest))) c
              ∙ int_runs op i to x from v n u vs rest
              (get_set_other us from x (Some n) (λ e. let lt = h.below in absurd (omega arith)) ∙ h.value)
              (get_set_same us from (Some n) (omega arith)) ints.0;
        };
  }

  pub whole_runs : (q : Pos) (op : IntOp) (i : IntKind) (k : TacKind) (to x y from : ℕ) →
      IsRight (is_shift op) (kind.Int i) k → AreInts (kinds ops w t p objects r call g) (whole op i k to x y from [])
      → Binary (kind.Int i) k (kind.Int i) to x y from (right_temps op k)
      (λ v z. ask q (λ m. operate_by ops w (Whole op i (kind_of k)) m v z)) (whole op i k to x y from)
  whole_runs q op i k to x y from right ints = whole_cases q op i k (is_shift op) to x y from right ints

  -- ---- signs

  -- the other operand is a constant: in its temp may be another number that the operation reduces to the same
  negative_runs : (q : Pos) (i : IntKind) (to x from : ℕ) → is_int (kind_in x) ≡ true
      → Unary (kind.Int i) (kind.Int i) to x from 1 (λ v. ask q (λ m. sign_by ops w Negative (Plain i) m v))
      (λ rest. instr.Const from (kind.Int i) 0 ∷ instr.Int Sub i to from x ∷ rest)
  negative_runs q i to x from hk = record {
    plain = λ o rest. refl;
    runs = λ v u us h room sound.
        let vs = slice_set us from (Some (value.Int 0)) in
        record {
          value = value.Int (binary_of Sub i 0 (number_of v));
          typed = computed_is_of ops placed Sub i 0 (number_of v);
          temps = vs;
          scratched = scratch from from us (Some (value.Int 0)) (omega arith);
          means = λ l. means q _ _ u l (computes ops placed u.mem Sub i (Plain i) (value.Int 0) v refl);
          runs = λ rest. int_runs Sub i to from x (value.Int 0) v u vs rest
              (get_set_same us from (Some (value.Int 0)) (omega arith))
              (get_set_other us from x (Some (value.Int 0)) (λ z. let lt = h.below in absurd (omega arith)) ∙ h.value)
              hk;
        };
  }

  complement_runs : (q : Pos) (i : IntKind) (to x from : ℕ) → is_int (kind_in from) ≡ true
      → Unary (kind.Int i) (kind.Int i) to x from 1 (λ v. ask q (λ m. sign_by ops w Complement (Plain i) m v))
      (λ rest. instr.Const from (kind.Int i) (all_ones i) ∷ instr.Int Xor i to x from ∷ rest)
  complement_runs q i to x from hk = record {
    plain = λ o rest. refl;
    runs = λ v u us h room sound.
        let ones = value.Int (all_ones i) in
        let vs = slice_set us from (Some ones) in
        record {
          value = value.Int (binary_of Xor i (number_of v) (all_ones i));
          typed = computed_is_of ops placed Xor i (number_of v) (all_ones i);
          temps = vs;
          scratched = scratch from from us (Some ones) (omega arith);
          means = λ l. means q _ _ u l (computes ops placed u.mem Xor i (Plain i) (value.Int (2 ^ 64 - 1)) v refl
              ∙ ap (λ n. Ok (value.Int n)) (ones_same i (number_of v)));
          runs = λ rest. int_runs Xor i to x from v ones u vs rest
              (get_set_other us from x (Some ones) (λ z. let lt = h.below in absurd (omega arith)) ∙ h.value)
              (get_set_same us from (Some ones) (omega arith)) hk;
        };
  }

  positive_runs : (q : Pos) (i : IntKind) (to x from : ℕ) →
      Unary (kind.Int i) (kind.Int i) to x from 0 (λ v. ask q (λ m. sign_by ops w Positive (Plain i) m v))
      (transfer to x)
  positive_runs q i to x from = record {
    plain = transfer_plain to x;
    runs = λ v u us h room sound. record {
      value = v;
      typed = h.typed;
      temps = us;
      scratched = untouched from us;
      means = λ l. refl;
      runs = λ rest. transfer_runs ops w t p objects r call g scene to x rest u us v h.value;
    };
  }

  pub sign_runs : (q : Pos) (sign : Sign) (i : IntKind) (to x from : ℕ) →
      AreInts (kinds ops w t p objects r call g) (signed_integer sign i to x from [])
      → Unary (kind.Int i) (kind.Int i) to x from (sign_temps sign) (λ v. ask q (λ m. sign_by ops w sign (Plain i) m v))
      (signed_integer sign i to x from)
  sign_runs q Positive i to x from ints = positive_runs q i to x from
  sign_runs q Negative i to x from ints = negative_runs q i to x from ints.0
  sign_runs q Complement i to x from ints = complement_runs q i to x from ints.0
