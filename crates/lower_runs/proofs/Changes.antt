-- A value that is converted, changed by a right operand, and converted back, as in compound assignments.
use Rattle.std.proofs.Common.{◌≡◌, ◌≢◌, ℕ, ◌+◌, ◌≤◌, ◌<◌, Bool, true, false, not, List, [], ◌∷◌, length, Option, Some}
use Rattle.std.proofs.Common.{Ok, refl, sym, ap, subst, ◌∙◌, arith, if◌then◌else◌, length-set}
use Rattle.std.specs.Prelude.{slice_get, slice_set, ◌&&◌, ◌==◌, ◌*◌, ◌%◌, ◌^◌, pos}
use Rattle.ck_base.specs.World.{World}
use Rattle.ck_base.specs.declared.positions.Pos.{Pos}
use Rattle.ck_int.specs.Arithmetic.{binary_of}
use Rattle.ck_int.specs.Kinds.{IsKept, wrapped, converted, width_of, form_of}
use Rattle.ck_int.specs.declared.kinds.IntKind.{IntKind}
use Rattle.ck_int.specs.declared.kinds.IntKind.TheVariants as int
use Rattle.ck_int.specs.declared.kinds.IntOp.{IntOp}
use Rattle.ck_int.specs.declared.kinds.IntOp.TheVariants.{Add, Sub}
use Rattle.ck_int.proofs.Laws.{IsKept-below, IsKept-binary_of, IsKept-converted}
use Rattle.ck_int.proofs.OperationLaws.{IsKept-64, binary_of-Add, binary_of-Sub}
use Rattle.c_tree.specs.declared.typed.Typed.{Typed}
use Rattle.obj_mem.specs.Values.{Value}
use Rattle.obj_mem.specs.Values as value
use Rattle.cheri_c_sem.specs.Compatible.{kind_number}
use Rattle.cheri_c_sem.specs.Kinds as kinds
use Rattle.cheri_c_sem.specs.Kinds.{Kind, Plain, Capability, null_at, number_of, truth}
use Rattle.cheri_c_sem.specs.Meaning.{operate_by}
use Rattle.cheri_c_sem.specs.Modes.{Store}
use Rattle.cheri_c_sem.specs.Operations as asked
use Rattle.cheri_c_sem.specs.Operations.{Operations, on_ok, convert_by, to_int, int_by, number_by, capability_by}
use Rattle.cheri_c_sem.specs.Operations.{plus_by}
use Rattle.cheri_c_sem.specs.Steps.{State, Fate, Then, ◌>>=◌, ask, answer}
use Rattle.cheri_c_sem.specs.Tree.{Operation, Whole, Derived, Moved}
use Rattle.cheri_c_sem.specs.Types.{is_shift, promoted}
use Rattle.tac_ir.specs.Effects.{kind_of, kind_at}
use Rattle.tac_ir.specs.Meaning.{Running}
use Rattle.tac_ir.specs.Temps.{behind}
use Rattle.tac_ir.specs.WellFormed.{same_kind, is_int}
use Rattle.tac_ir.specs.declared.code.Amount.TheVariants as amount
use Rattle.tac_ir.specs.declared.code.CapWork.TheVariants as cap
use Rattle.tac_ir.specs.declared.code.Tac.{Tac}
use Rattle.tac_ir.specs.declared.code.TacInstr.{TacInstr}
use Rattle.tac_ir.specs.declared.code.TacInstr.TheVariants as instr
use Rattle.tac_ir.specs.declared.code.TacKind.{TacKind}
use Rattle.tac_ir.specs.declared.code.TacKind.TheVariants as kind
use Rattle.lower_runs.specs.Sound.{IsPointer, IsSound}
use Rattle.lower_runs.specs.States.{Scene, IsScene, IsOf, IsPlaced}
use Rattle.lower_runs.specs.Operating as operating
use Rattle.lower_runs.specs.Operating.{Code, AreInts, word, is_capability, keeps_count, address_temps, right_temps}
use Rattle.lower_runs.specs.Operating.{stepped, stepped_temps, changed, changed_temps, stride, moved, moved_temps}
use Rattle.lower_runs.specs.Operating.{whole}
use Rattle.lower_runs.specs.Expressions.{pointer_kind, IsRight, IsChange, IsStep}
use Rattle.lower_runs.specs.Simulation.{Holds, Operated, UnaryRuns, BinaryRuns, goes, kinds as temp_kinds}
use Rattle.lower_runs.proofs.Agreement.{get_set_same, get_set_other}
use Rattle.lower_runs.proofs.Steps.{ok_same, kept_zero, converts, converts_same, computes, computes_address}
use Rattle.lower_runs.proofs.Steps.{computed_is_of}
use Rattle.lower_runs.proofs.Operations.{int_runs, scratch, untouched}
use Rattle.lower_runs.proofs.Addresses.{as_number, computed_with, computed_runs, computed_plain}
use Rattle.lower_runs.proofs.Addresses.{computed_ints, convert_runs, address_runs, scratch_more, capability_is}
use Rattle.lower_runs.proofs.Addresses.{address_operation, kept_count, wide_operation, wide_address}
use Rattle.lower_runs.proofs.Moves.{moved_runs, offset_by, strides, stride_below}
use Rattle.lower_runs.proofs.Words.{converted_bits, converted_truth, plus_one, minus_one}

-- the kinds of integers by their numbers
pub same_number : (i j : IntKind) → (kind_number i == kind_number j) ≡ true → i ≡ j
same_number int.Bool int.Bool h = refl
same_number int.I8 int.I8 h = refl
same_number int.U8 int.U8 h = refl
same_number int.I16 int.I16 h = refl
same_number int.U16 int.U16 h = refl
same_number int.I32 int.I32 h = refl
same_number int.U32 int.U32 h = refl
same_number int.I64 int.I64 h = refl
same_number int.U64 int.U64 h = refl
same_number i j h = absurd cc

pub same_plain : (j : TacKind) (i : IntKind) → same_kind (kind_of j) (Plain i) ≡ true → j ≡ kind.Int i
same_plain (kind.Int c) i h = ap kind.Int (same_number c i h)
same_plain (kind.Cap s) i h = absurd cc

module _ (ops : Operations Store) (placed : IsPlaced ops) where
  -- a capability with an address becomes the integer that the address becomes
  pub address_converts : (m : Store) (i j : IntKind) (o : Value) (n : ℕ) → width_of (form_of i) ≡ 64 → n < 2 ^ 64 →
      ops.address m o ≡ Ok n → to_int ops m j o ≡ Ok (value.Int (converted i j n))
  address_converts m i int.Bool o n wide lt e =
      ap (on_ok ops (λ b. Ok (truth b))) (placed.compare_null m false o n e)
      ∙ ap Ok (by (n == 0) ∙ ap value.Int (sym (converted_truth i n (IsKept-64 i n wide lt) (kept_zero i))))
    where
      by : (b : Bool) → truth (not b) ≡ value.Int (if b then 0 else 1)
      by true = refl
      by false = refl
  address_converts m i int.I8 o n wide lt e =
      ap (on_ok ops (λ a. Ok (value.Int (wrapped int.I8 (pos a))))) e
      ∙ ap (λ z. Ok (value.Int z)) (sym (converted_bits i int.I8 n wide (omega arith)))
  address_converts m i int.U8 o n wide lt e =
      ap (on_ok ops (λ a. Ok (value.Int (wrapped int.U8 (pos a))))) e
      ∙ ap (λ z. Ok (value.Int z)) (sym (converted_bits i int.U8 n wide (omega arith)))
  address_converts m i int.I16 o n wide lt e =
      ap (on_ok ops (λ a. Ok (value.Int (wrapped int.I16 (pos a))))) e
      ∙ ap (λ z. Ok (value.Int z)) (sym (converted_bits i int.I16 n wide (omega arith)))
  address_converts m i int.U16 o n wide lt e =
      ap (on_ok ops (λ a. Ok (value.Int (wrapped int.U16 (pos a))))) e
      ∙ ap (λ z. Ok (value.Int z)) (sym (converted_bits i int.U16 n wide (omega arith)))
  address_converts m i int.I32 o n wide lt e =
      ap (on_ok ops (λ a. Ok (value.Int (wrapped int.I32 (pos a))))) e
      ∙ ap (λ z. Ok (value.Int z)) (sym (converted_bits i int.I32 n wide (omega arith)))
  address_converts m i int.U32 o n wide lt e =
      ap (on_ok ops (λ a. Ok (value.Int (wrapped int.U32 (pos a))))) e
      ∙ ap (λ z. Ok (value.Int z)) (sym (converted_bits i int.U32 n wide (omega arith)))
  address_converts m i int.I64 o n wide lt e =
      ap (on_ok ops (λ a. Ok (value.Int (wrapped int.I64 (pos a))))) e
      ∙ ap (λ z. Ok (value.Int z)) (sym (converted_bits i int.I64 n wide (omega arith)))
  address_converts m i int.U64 o n wide lt e =
      ap (on_ok ops (λ a. Ok (value.Int (wrapped int.U64 (pos a))))) e
      ∙ ap (λ z. Ok (value.Int z)) (sym (converted_bits i int.U64 n wide (omega arith)))

module _ (ops : Operations Store) (placed : IsPlaced ops) (w : World) (t : Tac) (p : Typed)
    (objects : ℕ → List ℕ) (r : Running) (call : ℕ → List Value → Then Store Value) (g : Scene)
    (scene : IsScene g) where
  abbrev run : List TacInstr → State Store → List (Option Value) → Fate
  run = goes ops w t p objects r call g

  abbrev kind_in : ℕ → Kind
  kind_in = kind_at (temp_kinds ops w t p objects r call g)

  abbrev Ints : List TacInstr → Type 0
  Ints = AreInts (temp_kinds ops w t p objects r call g)

  abbrev Binary : (i j k : TacKind) (to x y from more : ℕ) (part : Value → Value → Then Store Value) (d : Code) →
      Type 0
  Binary = BinaryRuns ops w t p objects r call g

  -- the meaning: converted to the kind that is computed with, changed, and converted back
  abbrev pub change : Pos → Operation → TacKind → Kind → Value → Value → Then Store Value
  change q op j computed v z =
      ask q (λ m. convert_by ops m (kind_of j) computed v)
      >>= (λ a. ask q (λ m. operate_by ops w op m a z) >>= (λ b. ask q (λ m. convert_by ops m computed (kind_of j) b)))

  pub change_is : (q : Pos) (op : Operation) (j : TacKind) (computed : Kind) (v z a b c : Value) (u : State Store)
      (l : Value → State Store → Fate) → convert_by ops u.mem (kind_of j) computed v ≡ Ok a →
      operate_by ops w op u.mem a z ≡ Ok b → convert_by ops u.mem computed (kind_of j) b ≡ Ok c
      → change q op j computed v z u l ≡ l c u
  change_is q op j computed v z a b c u l e f h =
      ap (λ i. answer q i u (λ x s. answer q (operate_by ops w op s.mem x z) s
      (λ y s2. answer q (convert_by ops s2.mem computed (kind_of j) y) s2 l))) e
      ∙ ap (λ i. answer q i u (λ y s2. answer q (convert_by ops s2.mem computed (kind_of j) y) s2 l)) f
      ∙ ap (λ i. answer q i u l) h

  -- ---- operations on integers

  module _ (q : Pos) (op : IntOp) (i : IntKind) (j k : TacKind) (to x y from : ℕ) where
    -- a value of the kind that is computed with is not converted
    abbrev mixed_with : Bool → ℕ → ℕ → Code
    mixed_with same m at rest =
        if same then instr.Int op i to x at ∷ rest
        else instr.Convert m x j (kind.Int i) ∷ instr.Int op i m m at ∷ instr.Convert to m (kind.Int i) j ∷ rest

    mixed_plain : (same : Bool) (m at o : ℕ) (rest : List TacInstr) →
        behind o (mixed_with same m at rest) ≡ behind o rest
    mixed_plain true m at o rest = refl
    mixed_plain false m at o rest = refl

    -- what is computed where the right operand stands for a number
    mixed_runs : (same : Bool) (m at n : ℕ) (v z : Value) (u : State Store) (us : List (Option Value))
        (after : List TacInstr) → same_kind (kind_of j) (Plain i) ≡ same → from ≤ m → at ≢ m →
        Ints (mixed_with same m at after) → m + (if same then 0 else 1) ≤ length us → Holds from j x v us →
        slice_get us at ≡ Some (Some (value.Int n))
        → ((a : Value) → int_by ops u.mem op i (kind_of k) a z ≡ Ok (value.Int (binary_of op i (number_of a) n)))
        → Operated ops w t p objects r call g j to from (change q (Whole op i (kind_of k)) j (Plain i) v z)
        (mixed_with same m at) u us
    mixed_runs true m at n v z u us after is le ne ints room h there value_is =
        let e : j ≡ kind.Int i = same_plain j i is in
        let typed : IsOf (Plain i) v = subst (λ d. IsOf (kind_of d) v) e h.typed in
        let y = value.Int (binary_of op i (number_of v) n) in
        let y_typed : IsOf (Plain i) y = computed_is_of ops placed op i (number_of v) n in
        record {
          value = y;
          typed = subst (λ d. IsOf (kind_of d) y) (sym e) y_typed;
          temps = us;
          scratched = untouched ops placed w t p objects r call g scene from us;
          means = λ l. change_is q (Whole op i (kind_of k)) j (Plain i) v z v y y u l
              (ap (λ d. convert_by ops u.mem (kind_of d) (Plain i) v) e
              ∙ converts_same ops placed u.mem (Plain i) v typed) (value_is v)
              (ap (λ d. convert_by ops u.mem (Plain i) (kind_of d) y) e
              ∙ converts_same ops placed u.mem (Plain i) y y_typed);
          runs = λ rest. int_runs ops placed w t p objects r call g scene op i to x at v (value.Int n) u us rest h.value
              there ints.0;
        }
    mixed_runs false m at n v z u us after is le ne ints room h there value_is =
        let a = converts ops placed u.mem (kind_of j) (Plain i) v h.typed in
        let vs = slice_set us m (Some a.0) in
        let y = value.Int (binary_of op i (number_of a.0) n) in
        let ws = slice_set vs m (Some y) in
        let c = converts ops placed u.mem (Plain i) (kind_of j) y
        (computed_is_of ops placed op i (number_of a.0) n) in
        record {
          value = c.0;
          typed = c.2;
          temps = ws;
          scratched = scratch_more ops placed w t p objects r call g scene from m us vs (Some y) le
              (scratch ops placed w t p objects r call g scene from m us (Some a.0) le);
          means = λ l. change_is q (Whole op i (kind_of k)) j (Plain i) v z a.0 y c.0 u l a.1 (value_is a.0) c.1;
          runs = λ rest.
              convert_runs ops placed w t p objects r call g scene m x j (kind.Int i) v a.0 u us
              (instr.Int op i m m at ∷ instr.Convert to m (kind.Int i) j ∷ rest) h.value a.1
              ∙ int_runs ops placed w t p objects r call g scene op i m m at a.0 (value.Int n) u vs
              (instr.Convert to m (kind.Int i) j ∷ rest) (get_set_same us m (Some a.0) (omega arith))
              (get_set_other us m at (Some a.0) ne ∙ there) ints.0
              ∙ convert_runs ops placed w t p objects r call g scene to m (kind.Int i) j y c.0 u ws rest
              (get_set_same vs m (Some y) (let same_length = length-set us m (Some a.0) in omega arith)) c.1;
        }

    -- a count that is a capability is converted first
    abbrev whole_with : Bool → Bool → Code
    whole_with shifts same rest =
        if shifts && is_capability k then instr.Convert from y k word
        ∷ mixed_with same (from + (if shifts && is_capability k then 1 else 0))
        (if shifts && is_capability k then from else y) rest
        else mixed_with same (from + (if shifts && is_capability k then 1 else 0))
        (if shifts && is_capability k then from else y) rest

  whole_changed_plain : (q : Pos) (op : IntOp) (i : IntKind) (j : TacKind) (c : IntKind) (to x y from : ℕ)
      (same : Bool) → same_kind (kind_of j) (Plain i) ≡ same →
      Ints (mixed_with q op i j (kind.Int c) to x y from same (from + 0) y [])
      → Binary j (kind.Int c) j to x y from (0 + (if same then 0 else 1)) (change q (Whole op i (Plain c)) j (Plain i))
      (mixed_with q op i j (kind.Int c) to x y from same (from + 0) y)
  whole_changed_plain q op i j c to x y from same is ints = record {
    plain = λ o rest. mixed_plain q op i j (kind.Int c) to x y from same (from + 0) y o rest;
    runs = λ v z u us h h2 room sound.
        mixed_runs q op i j (kind.Int c) to x y from same (from + 0) y (number_of z) v z u us [] is (omega arith)
        (λ e. let lt = h2.below in absurd (omega arith)) ints (omega arith) h
        (h2.value ∙ ap (λ d. Some (Some d)) (h2.typed.1 ∙ ap value.Int (ap number_of (sym h2.typed.1))))
        (λ a. computes ops placed u.mem op i (Plain c) a z refl);
  }

  whole_changed : (q : Pos) (op : IntOp) (i : IntKind) (j k : TacKind) (to x y from : ℕ) (shifts same : Bool) →
      same_kind (kind_of j) (Plain i) ≡ same → IsRight shifts (kind.Int i) k →
      Ints (whole_with q op i j k to x y from shifts same [])
      → Binary j k j to x y from ((if shifts && is_capability k then 1 else 0) + (if same then 0 else 1))
      (change q (Whole op i (kind_of k)) j (Plain i)) (whole_with q op i j k to x y from shifts same)
  whole_changed q op i j (kind.Int c) to x y from true same is right ints =
      whole_changed_plain q op i j c to x y from same is ints
  whole_changed q op i j (kind.Int c) to x y from false same is right ints =
      whole_changed_plain q op i j c to x y from same is ints
  whole_changed q op i j (kind.Cap s) to x y from false same is right ints = absurd cc
  whole_changed q op i j (kind.Cap s) to x y from true same is right ints = record {
    plain = λ o rest. mixed_plain q op i j (kind.Cap s) to x y from same (from + 1) from o rest;
    runs = λ v z u us h h2 room sound.
        let b = as_number ops placed u.mem (kind.Cap s) int.U64 z refl h2.typed in
        let one = value.Int b.number in
        let vs = slice_set us from (Some one) in
        let long = length-set us from (Some one) in
        let o = mixed_runs q op i j (kind.Cap s) to x y from same (from + 1) from b.number v z u vs [] is (omega arith)
        (λ e. absurd (omega arith)) ints (omega arith)
        (record {
          value = get_set_other us from x (Some one) (λ e. let lt = h.below in absurd (omega arith)) ∙ h.value;
          typed = h.typed;
          below = h.below;
        }) (get_set_same us from (Some one) (omega arith))
        (λ a. computes_address ops placed u.mem op i s a z b.number b.means) in
        record {
          value = o.value;
          typed = o.typed;
          temps = o.temps;
          scratched = record {
            room = o.scratched.room ∙ long;
            same = λ d lt. o.scratched.same d lt ∙ get_set_other us from d (Some one) (λ e. absurd (omega arith));
          };
          means = o.means;
          runs = λ rest.
              convert_runs ops placed w t p objects r call g scene from y (kind.Cap s) word z one u us
              (mixed_with q op i j (kind.Cap s) to x y from same (from + 1) from rest) h2.value b.converts
              ∙ o.runs rest;
        };
  }

  -- ---- operations on capability integers

  module _ (q : Pos) (op : IntOp) (s : Bool) (k : TacKind) (to x y from : ℕ) where
    abbrev kind_used : IntKind
    kind_used = operating.address_kind op s

    wide : width_of (form_of kind_used) ≡ 64
    wide = wide_operation op s

    -- of a place with a capability
    derived_changed : (d plain : Bool) →
        Ints (computed_with ops placed w t p objects r call g scene (keeps_count op k) op kind_used (kind.Cap d) k x y
        from (instr.Cap cap.SetAddress to x (Some from) ∷ []))
        → Binary (kind.Cap d) k (kind.Cap d) to x y from (address_temps op k)
        (change q (Derived op s (kind_of k) false plain) (kind.Cap d) (Capability s))
        (λ rest. computed_with ops placed w t p objects r call g scene (keeps_count op k) op kind_used (kind.Cap d) k x
        y from (instr.Cap cap.SetAddress to x (Some from) ∷ rest))
    derived_changed d plain ints = record {
      plain = λ o rest. computed_plain ops placed w t p objects r call g scene (keeps_count op k) op kind_used
          (kind.Cap d) k x y from o (instr.Cap cap.SetAddress to x (Some from) ∷ rest);
      runs = λ v z u us h h2 room sound.
          let a = as_number ops placed u.mem (kind.Cap d) kind_used v wide h.typed in
          let b = as_number ops placed u.mem k kind_used z wide h2.typed in
          let c = computed_runs ops placed w t p objects r call g scene (keeps_count op k) op kind_used (kind.Cap d) k x
          y from v z u us wide (kept_count op k)
          (computed_ints ops placed w t p objects r call g scene (keeps_count op k) op kind_used (kind.Cap d) k x y
          from _ ints) h h2 room a b in
          let n = binary_of op kind_used a.number b.number in
          let o = placed.work u.mem asked.Set_address v (value.Int n) in
          let lt : n < 2 ^ 64 = IsKept-below kind_used n (IsKept-binary_of op kind_used a.number b.number) in
          record {
            value = o.0;
            typed = placed.work_of_kind u.mem asked.Set_address v (value.Int n) o.0 sound h.typed lt o.1;
            temps = c.temps;
            scratched = c.scratched;
            means = λ l. change_is q (Derived op s (kind_of k) false plain) (kind.Cap d) (Capability s) v z v o.0 o.0 u
                l refl
                (capability_is ops placed u.mem op s (kind_of k) false plain v z a.number b.number sound h.typed
                (λ e. absurd cc) (λ e. absurd cc) a.means b.means a.below b.below
                ∙ ap (λ e. ops.work u.mem asked.Set_address v (value.Int e))
                (sym (address_operation op s a.number b.number)) ∙ o.1) refl;
            runs = λ rest. c.runs (instr.Cap cap.SetAddress to x (Some from) ∷ rest)
                ∙ address_runs ops placed w t p objects r call g scene to x from v (value.Int n) o.0 u c.temps rest
                (c.scratched.same x h.below ∙ h.value) c.there o.1;
          };
    }

    -- of a place with a plain integer: the address is converted back
    address_changed : (e : IntKind) (right plain : Bool) → (right ≡ true → k ≡ kind.Cap s) →
        Ints (computed_with ops placed w t p objects r call g scene (keeps_count op k) op kind_used (kind.Int e) k x y
        from (instr.Convert to from (kind.Int kind_used) (kind.Int e) ∷ []))
        → Binary (kind.Int e) k (kind.Int e) to x y from (address_temps op k)
        (change q (Derived op s (kind_of k) right plain) (kind.Int e) (Capability s))
        (λ rest. computed_with ops placed w t p objects r call g scene (keeps_count op k) op kind_used (kind.Int e) k x
        y from (instr.Convert to from (kind.Int kind_used) (kind.Int e) ∷ rest))
    address_changed e right plain hk ints = record {
      plain = λ o rest. computed_plain ops placed w t p objects r call g scene (keeps_count op k) op kind_used
          (kind.Int e) k x y from o (instr.Convert to from (kind.Int kind_used) (kind.Int e) ∷ rest);
      runs = λ v z u us h h2 room sound.
          let a = as_number ops placed u.mem (kind.Int e) kind_used v wide h.typed in
          let b = as_number ops placed u.mem k kind_used z wide h2.typed in
          let c = computed_runs ops placed w t p objects r call g scene (keeps_count op k) op kind_used (kind.Int e) k x
          y from v z u us wide (kept_count op k)
          (computed_ints ops placed w t p objects r call g scene (keeps_count op k) op kind_used (kind.Int e) k x y
          from _ ints) h h2 room a b in
          let n = binary_of op kind_used a.number b.number in
          let null = null_at (number_of v) in
          let null_pointer : IsPointer null =
          subst (λ i. i < 2 ^ 64) (sym (ok_same (number_of v) a.number _ refl a.means)) a.below in
          let of = if right then z else null in
          let pointer : IsPointer of = which right null z null_pointer h2.typed hk in
          let lt : n < 2 ^ 64 = IsKept-below kind_used n (IsKept-binary_of op kind_used a.number b.number) in
          let o = placed.work u.mem asked.Set_address of (value.Int n) in
          let y_value = value.Int (converted kind_used e n) in
          record {
            value = y_value;
            typed = (_, refl, IsKept-converted kind_used e n);
            temps = c.temps;
            scratched = c.scratched;
            means = λ l. change_is q (Derived op s (kind_of k) right plain) (kind.Int e) (Capability s) v z null o.0
                y_value u l refl
                (capability_is ops placed u.mem op s (kind_of k) right plain null z a.number b.number sound null_pointer
                (λ i. subst (λ d. IsOf (kind_of d) z) (hk i) h2.typed) (λ i. ap kind_of (hk i))
                (placed.address_null u.mem (number_of v) ∙ a.means) b.means a.below b.below
                ∙ ap (λ i. ops.work u.mem asked.Set_address of (value.Int i))
                (sym (address_operation op s a.number b.number)) ∙ o.1)
                (address_converts ops placed u.mem kind_used e o.0 n wide lt
                (placed.moved u.mem of o.0 n sound pointer lt o.1));
            runs = λ rest. c.runs (instr.Convert to from (kind.Int kind_used) (kind.Int e) ∷ rest)
                ∙ convert_runs ops placed w t p objects r call g scene to from (kind.Int kind_used) (kind.Int e)
                (value.Int n) y_value u c.temps rest c.there refl;
          };
    }
      where
        which : (b : Bool) (v z : Value) → IsPointer v → IsOf (kind_of k) z → (b ≡ true → k ≡ kind.Cap s) →
            IsPointer (if b then z else v)
        which true v z hv hz e = subst (λ d. IsOf (kind_of d) z) (e refl) hz
        which false v z hv hz e = hv

  -- ---- all changes

  pub changed_runs : (q : Pos) (op : Operation) (j k : TacKind) (computed : Kind) (to x y from : ℕ) →
      IsChange op j k computed → Ints (changed op j k to x y from [])
      → Binary j k j to x y from (changed_temps op j k) (change q op j computed) (changed op j k to x y from)
  changed_runs q (Whole op i count) j k (Plain c) to x y from h ints =
      let d = changed (Whole op i count) j k to x y from in
      let n = changed_temps (Whole op i count) j k in
      subst (λ z. Binary j k j to x y from n (change q (Whole op i z) j (Plain c)) d) (sym h.1)
      (subst (λ z. Binary j k j to x y from n (change q (Whole op i (kind_of k)) j (Plain z)) d) (sym h.0)
      (whole_changed q op i j k to x y from (is_shift op) (same_kind (kind_of j) (Plain i)) refl h.2 ints))
  changed_runs q (Derived op s count false plain) (kind.Cap e) k (Capability c) to x y from h ints =
      let d = changed (Derived op s count false plain) (kind.Cap e) k to x y from in
      let n = changed_temps (Derived op s count false plain) (kind.Cap e) k in
      subst (λ z. Binary (kind.Cap e) k (kind.Cap e) to x y from n
      (change q (Derived op s z false plain) (kind.Cap e) (Capability c)) d) (sym h.1)
      (subst (λ z. Binary (kind.Cap e) k (kind.Cap e) to x y from n
      (change q (Derived op s (kind_of k) false plain) (kind.Cap e) (Capability z)) d) (sym h.0)
      (derived_changed q op s k to x y from e plain ints))
  changed_runs q (Derived op s count false plain) (kind.Int e) k (Capability c) to x y from h ints =
      let d = changed (Derived op s count false plain) (kind.Int e) k to x y from in
      let n = changed_temps (Derived op s count false plain) (kind.Int e) k in
      subst (λ z. Binary (kind.Int e) k (kind.Int e) to x y from n
      (change q (Derived op s z false plain) (kind.Int e) (Capability c)) d) (sym h.1)
      (subst (λ z. Binary (kind.Int e) k (kind.Int e) to x y from n
      (change q (Derived op s (kind_of k) false plain) (kind.Int e) (Capability z)) d) (sym h.0)
      (address_changed q op s k to x y from e false plain (λ i. absurd cc) ints))
  changed_runs q (Derived op s count true plain) (kind.Int e) k (Capability c) to x y from h ints =
      let d = changed (Derived op s count true plain) (kind.Int e) k to x y from in
      let n = changed_temps (Derived op s count true plain) (kind.Int e) k in
      subst (λ z. Binary (kind.Int e) k (kind.Int e) to x y from n
      (change q (Derived op s z true plain) (kind.Int e) (Capability c)) d) (sym h.1)
      (subst (λ z. Binary (kind.Int e) k (kind.Int e) to x y from n
      (change q (Derived op s (kind_of k) true plain) (kind.Int e) (Capability z)) d) (sym h.0)
      (address_changed q op s k to x y from e true plain (λ i. h.2) ints))
  changed_runs q (Moved size minus false count) (kind.Cap false) k (Capability c) to x y from h ints =
      let b = moved_runs ops placed w t p objects r call g scene q size minus to x y from k ints in
      subst (λ z. Binary pointer_kind k pointer_kind to x y from (moved_temps k (stride size minus))
      (change q (Moved size minus false z) pointer_kind (Capability c)) (moved k (stride size minus) to x y from))
      (sym h.1) (record {
        plain = b.plain;
        runs = λ v z u us h h2 room sound.
            let o = b.runs v z u us h h2 room sound in
            record {
              value = o.value;
              typed = o.typed;
              temps = o.temps;
              scratched = o.scratched;
              means = λ l. o.means l;
              runs = o.runs;
            };
      })
  changed_runs q op j k computed to x y from h ints = absurd h

  -- ---- steps by one

  abbrev Unary : (j k : TacKind) (to x from more : ℕ) (part : Value → Then Store Value) (d : Code) → Type 0
  Unary = UnaryRuns ops w t p objects r call g

  abbrev one : Value
  one = value.Int 1

  stepped_whole : (q : Pos) (op : IntOp) (k : IntKind) (to x from : ℕ)
      → ((v : ℕ) → IsKept k v →
      converted (promoted k) k (binary_of op (promoted k) (converted k (promoted k) v) 1) ≡ binary_of op k v 1)
      → is_int (kind_in from) ≡ true
      → Unary (kind.Int k) (kind.Int k) to x from 1
      (λ v. change q (Whole op (promoted k) (Plain int.I32)) (kind.Int k) (Plain (promoted k)) v one)
      (λ rest. instr.Const from (kind.Int k) 1 ∷ instr.Int op k to x from ∷ rest)
  stepped_whole q op k to x from same hk = record {
    plain = λ o rest. refl;
    runs = λ v u us h room sound.
        let vs = slice_set us from (Some one) in
        let kept : IsKept k (number_of v) = subst (λ z. IsKept k (number_of z)) (sym h.typed.1) h.typed.2 in
        let a = value.Int (converted k (promoted k) (number_of v)) in
        let b = value.Int (binary_of op (promoted k) (number_of a) 1) in
        let c = value.Int (binary_of op k (number_of v) 1) in
        record {
          value = c;
          typed = (_, refl, IsKept-binary_of op k (number_of v) 1);
          temps = vs;
          scratched = scratch ops placed w t p objects r call g scene from from us (Some one) (omega arith);
          means = λ l. change_is q (Whole op (promoted k) (Plain int.I32)) (kind.Int k) (Plain (promoted k)) v one a b c
              u l refl (computes ops placed u.mem op (promoted k) (Plain int.I32) a one refl)
              (ap (λ z. Ok (value.Int z)) (same (number_of v) kept));
          runs = λ rest. int_runs ops placed w t p objects r call g scene op k to x from v one u vs rest
              (get_set_other us from x (Some one) (λ e. let lt = h.below in absurd (omega arith)) ∙ h.value)
              (get_set_same us from (Some one) (omega arith)) hk;
        };
  }

  -- a capability moves by one
  stepped_capability : (q : Pos) (op : Operation) (c d : Bool) (n : ℕ) (to x from : ℕ)
      → ((m : Store) (v : Value) → IsSound m → IsPointer v → operate_by ops w op m v one ≡ ops.offset m v n)
      → Unary (kind.Cap c) (kind.Cap c) to x from 0 (λ v. change q op (kind.Cap c) (Capability d) v one)
      (λ rest. instr.Offset to x (amount.Number n) ∷ rest)
  stepped_capability q op c d n to x from same = record {
    plain = λ o rest. refl;
    runs = λ v u us h room sound.
        let o = placed.offset u.mem v n in
        record {
          value = o.0;
          typed = placed.offset_pointer u.mem v o.0 n h.typed o.1;
          temps = us;
          scratched = untouched ops placed w t p objects r call g scene from us;
          means = λ l. change_is q op (kind.Cap c) (Capability d) v one v o.0 o.0 u l refl
              (same u.mem v sound h.typed ∙ o.1) refl;
          runs = λ rest. offset_by ops placed w t p objects r call g scene to x n v o.0 u us rest h.value o.1;
        };
  }

  -- plus and minus one of an address
  up_is : (m : Store) (s : Bool) (v : Value) → IsSound m → IsPointer v →
      capability_by ops m Add s (Plain int.I32) false true v one ≡ ops.offset m v 1
  up_is m s v sound pointer =
      let a = placed.address m v in
      let lt = placed.address_word m v a.0 pointer a.1 in
      capability_is ops placed m Add s (Plain int.I32) false true v one a.0 1 sound pointer (λ e. absurd cc)
      (λ e. absurd cc) a.1 refl lt (omega arith)
      ∙ ap (λ n. ops.work m asked.Set_address v (value.Int n))
      (binary_of-Add (kinds.address_kind s) a.0 1 (wide_address s) lt (omega arith))
      ∙ sym (placed.moves m v a.0 1 sound pointer a.1)

  down_is : (m : Store) (s : Bool) (v : Value) → IsSound m → IsPointer v →
      capability_by ops m Sub s (Plain int.I32) false true v one ≡ ops.offset m v (stride 1 true)
  down_is m s v sound pointer =
      let a = placed.address m v in
      let lt = placed.address_word m v a.0 pointer a.1 in
      capability_is ops placed m Sub s (Plain int.I32) false true v one a.0 1 sound pointer (λ e. absurd cc)
      (λ e. absurd cc) a.1 refl lt (omega arith)
      ∙ ap (λ n. ops.work m asked.Set_address v (value.Int n))
      (binary_of-Sub (kinds.address_kind s) a.0 1 (wide_address s) lt (omega arith) ∙ omega arith)
      ∙ sym (placed.moves m v a.0 (stride 1 true) sound pointer a.1)

  pub stepped_runs : (q : Pos) (op : Operation) (j : TacKind) (computed : Kind) (to x from : ℕ) → IsStep op j computed →
      Ints (stepped op j to x from [])
      → Unary j j to x from (stepped_temps op) (λ v. change q op j computed v one) (stepped op j to x from)
  stepped_runs q (Whole Add i (Plain int.I32)) (kind.Int k) (Plain c) to x from h ints =
      let d : Code = λ rest. instr.Const from (kind.Int k) 1 ∷ instr.Int Add k to x from ∷ rest in
      subst (λ z. Unary (kind.Int k) (kind.Int k) to x from 1
      (λ v. change q (Whole Add z (Plain int.I32)) (kind.Int k) (Plain c) v one) d) (sym h.0)
      (subst (λ z. Unary (kind.Int k) (kind.Int k) to x from 1
      (λ v. change q (Whole Add (promoted k) (Plain int.I32)) (kind.Int k) (Plain z) v one) d) (sym h.1)
      (stepped_whole q Add k to x from (plus_one k) ints.0))
  stepped_runs q (Whole Sub i (Plain int.I32)) (kind.Int k) (Plain c) to x from h ints =
      let d : Code = λ rest. instr.Const from (kind.Int k) 1 ∷ instr.Int Sub k to x from ∷ rest in
      subst (λ z. Unary (kind.Int k) (kind.Int k) to x from 1
      (λ v. change q (Whole Sub z (Plain int.I32)) (kind.Int k) (Plain c) v one) d) (sym h.0)
      (subst (λ z. Unary (kind.Int k) (kind.Int k) to x from 1
      (λ v. change q (Whole Sub (promoted k) (Plain int.I32)) (kind.Int k) (Plain z) v one) d) (sym h.1)
      (stepped_whole q Sub k to x from (minus_one k) ints.0))
  stepped_runs q (Derived Add s (Plain int.I32) false true) (kind.Cap z) (Capability c) to x from h ints =
      stepped_capability q (Derived Add s (Plain int.I32) false true) z c 1 to x from
      (λ m v sound pointer. up_is m s v sound pointer)
  stepped_runs q (Derived Sub s (Plain int.I32) false true) (kind.Cap z) (Capability c) to x from h ints =
      stepped_capability q (Derived Sub s (Plain int.I32) false true) z c (stride 1 true) to x from
      (λ m v sound pointer. down_is m s v sound pointer)
  stepped_runs q (Moved size minus false (Plain int.I32)) (kind.Cap false) (Capability c) to x from h ints =
      stepped_capability q (Moved size minus false (Plain int.I32)) false c (stride size minus) to x from
      (λ m v sound pointer. ap (ops.offset m v) (strides ops size 1 minus ∙ once (stride size minus)
      (stride_below size minus)))
    where
      once : (n : ℕ) → n < 2 ^ 64 → (n * 1) % 2 ^ 64 ≡ n
      once n lt = omega arith
  stepped_runs q op j computed to x from h ints = absurd h
