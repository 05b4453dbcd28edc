-- Pointers that move by elements, and their differences.
use Rattle.std.proofs.Common.{◌≡◌, ℕ, ◌+◌, ◌≤◌, ◌<◌, Bool, true, false, List, [], ◌∷◌, length, Option, Some}
use Rattle.std.proofs.Common.{Ok, refl, sym, ap, ◌∙◌, arith, if◌then◌else◌, length-set}
use Rattle.std.specs.Prelude.{slice_get, slice_set, ◌==◌, ◌*◌, ◌%◌, ◌^◌}
use Rattle.std.proofs.Math.Nat.{mul_comm}
use Rattle.std.proofs.lemmas.Bool.Decides.{nat_tests}
use Rattle.ck_base.specs.World.{World}
use Rattle.ck_base.specs.declared.positions.Pos.{Pos}
use Rattle.ck_int.specs.Arithmetic.{binary_of}
use Rattle.ck_int.specs.Kinds.{width_of, form_of}
use Rattle.ck_int.specs.declared.kinds.IntKind.{IntKind}
use Rattle.ck_int.specs.declared.kinds.IntKind.TheVariants as int
use Rattle.ck_int.specs.declared.kinds.IntOp.TheVariants.{Sub, Mul, Div}
use Rattle.ck_int.proofs.Laws.{IsKept-binary_of}
use Rattle.ck_int.proofs.OperationLaws.{binary_of-Mul}
use Rattle.c_tree.specs.declared.typed.Typed.{Typed}
use Rattle.obj_mem.specs.Values.{Value}
use Rattle.obj_mem.specs.Values as value
use Rattle.cheri_c_sem.specs.Kinds.{Kind, Plain, Capability, number_of}
use Rattle.cheri_c_sem.specs.Modes.{Store}
use Rattle.cheri_c_sem.specs.Operations.{Operations, on_ok, convert_by, number_by, move_by, plus_by, difference_by}
use Rattle.cheri_c_sem.specs.Operations.{steps_of}
use Rattle.cheri_c_sem.specs.Steps.{State, Fate, Then, ask, answer}
use Rattle.tac_ir.specs.Effects.{kind_of, kind_at, held, no_position}
use Rattle.tac_ir.specs.Meaning.{Running, Runs, turns}
use Rattle.tac_ir.specs.Temps.{behind}
use Rattle.tac_ir.specs.declared.code.Amount.TheVariants as amount
use Rattle.tac_ir.specs.declared.code.Tac.{Tac}
use Rattle.tac_ir.specs.declared.code.TacInstr.{TacInstr}
use Rattle.tac_ir.specs.declared.code.TacInstr.TheVariants as instr
use Rattle.tac_ir.specs.declared.code.TacKind.{TacKind}
use Rattle.tac_ir.specs.declared.code.TacKind.TheVariants as kind
use Rattle.lower_runs.specs.States.{Scene, IsScene, IsPlaced}
use Rattle.lower_runs.specs.Operating.{Code, AreInts, word, long, is_capability, wide_kind, is_wide, stride, moved}
use Rattle.lower_runs.specs.Operating.{moved_temps, difference}
use Rattle.lower_runs.specs.Expressions.{pointer_kind}
use Rattle.lower_runs.specs.Simulation.{Holds, Scratched, UnaryRuns, BinaryRuns, goes, kinds as temp_kinds}
use Rattle.lower_runs.proofs.Agreement.{get_set_same, get_set_other}
use Rattle.lower_runs.proofs.Steps.{held_is, ok_same}
use Rattle.lower_runs.proofs.Operations.{int_runs, means, scratch, untouched}
use Rattle.lower_runs.proofs.Addresses.{as_number, Number, Computed, convert_runs, scratch_more}
use Rattle.lower_runs.proofs.Words.{steps_up, steps_down, whole_quotient}

wide_scale : (k : TacKind) → width_of (form_of (wide_kind k)) ≡ 64
wide_scale (kind.Int int.Bool) = refl
wide_scale (kind.Int int.I8) = refl
wide_scale (kind.Int int.U8) = refl
wide_scale (kind.Int int.I16) = refl
wide_scale (kind.Int int.U16) = refl
wide_scale (kind.Int int.I32) = refl
wide_scale (kind.Int int.U32) = refl
wide_scale (kind.Int int.I64) = refl
wide_scale (kind.Int int.U64) = refl
wide_scale (kind.Cap s) = refl

wide_plain : (k : TacKind) → is_wide k ≡ true → (c : IntKind) × (k ≡ kind.Int c)
wide_plain (kind.Int c) h = (c, refl)
wide_plain (kind.Cap s) h = absurd cc

pub stride_below : (size : ℕ) (minus : Bool) → stride size minus < 2 ^ 64
stride_below size true = omega arith
stride_below size false = omega arith

-- so many elements in bytes
pub strides : (ops : Operations Store) (size b : ℕ) (minus : Bool) →
    steps_of ops minus (b * size) ≡ (stride size minus * b) % 2 ^ 64
strides ops size b false = steps_up size b
strides ops size b true = steps_down size b

module _ (ops : Operations Store) (placed : IsPlaced ops) (w : World) (t : Tac) (p : Typed)
    (objects : ℕ → List ℕ) (r : Running) (call : ℕ → List Value → Then Store Value) (g : Scene)
    (scene : IsScene g) where
  abbrev run : List TacInstr → State Store → List (Option Value) → Fate
  run = goes ops w t p objects r call g

  abbrev sets : ℕ → ℕ → Value → List TacInstr → State Store → Fate
  sets n to v rest s = turns ops w t p objects n rest Runs r (record s { vars = slice_set s.vars to (Some v) })

  abbrev kind_in : ℕ → Kind
  kind_in = kind_at (temp_kinds ops w t p objects r call g)

  abbrev Ints : List TacInstr → Type 0
  Ints = AreInts (temp_kinds ops w t p objects r call g)

  abbrev Unary : (j k : TacKind) (to x from more : ℕ) (part : Value → Then Store Value) (d : Code) → Type 0
  Unary = UnaryRuns ops w t p objects r call g

  abbrev Binary : (i j k : TacKind) (to x y from more : ℕ) (part : Value → Value → Then Store Value) (d : Code) →
      Type 0
  Binary = BinaryRuns ops w t p objects r call g

  abbrev Leaves : (from at : ℕ) (d : Code) (u : State Store) (us : List (Option Value)) (x : ℕ) → Type 0
  Leaves = Computed ops placed w t p objects r call g scene

  -- ---- single instructions

  pub offset_by : (to base n : ℕ) (v y : Value) (u : State Store) (us : List (Option Value)) (rest : List TacInstr) →
      slice_get us base ≡ Some (Some v) → ops.offset u.mem v n ≡ Ok y
      → run (instr.Offset to base (amount.Number n) ∷ rest) u us ≡ run rest u (slice_set us to (Some y))
  offset_by to base n v y u us rest hv e =
      ap (λ z. answer no_position z (record u { vars = us }) (λ d. sets u.left to d rest))
      (ap (λ z. ops.offset u.mem z n) (held_is ops w t p objects r call g scene us base v hv) ∙ e)

  pub offset_temp : (to base i n : ℕ) (v y : Value) (u : State Store) (us : List (Option Value))
      (rest : List TacInstr) → slice_get us base ≡ Some (Some v) → slice_get us i ≡ Some (Some (value.Int n)) →
      ops.offset u.mem v n ≡ Ok y
      → run (instr.Offset to base (amount.Temp i) ∷ rest) u us ≡ run rest u (slice_set us to (Some y))
  offset_temp to base i n v y u us rest hv hi e =
      ap (λ z. answer no_position z (record u { vars = us }) (λ d. sets u.left to d rest))
      (ap (λ z. ops.offset u.mem z (number_of (held (slice_get us i))))
      (held_is ops w t p objects r call g scene us base v hv)
      ∙ ap (λ z. ops.offset u.mem v (number_of z))
      (held_is ops w t p objects r call g scene us i (value.Int n) hi) ∙ e)

  -- ---- the amount

  -- an index times the size of an element
  abbrev scaled_with : Bool → IntKind → TacKind → (by i n : ℕ) → Code
  scaled_with wide j k by i n rest =
      if wide then instr.Const n (kind.Int j) by ∷ instr.Int Mul j (n + 1) i n ∷ rest
      else instr.Convert n i k (kind.Int j) ∷ instr.Const (n + 1) (kind.Int j) by ∷ instr.Int Mul j n n (n + 1) ∷ rest

  abbrev scaled_at : Bool → ℕ → ℕ
  scaled_at wide n = if wide then n + 1 else n

  scaled_plain : (wide : Bool) (j : IntKind) (k : TacKind) (by i n o : ℕ) (rest : List TacInstr) →
      behind o (scaled_with wide j k by i n rest) ≡ behind o rest
  scaled_plain true j k by i n o rest = refl
  scaled_plain false j k by i n o rest = refl

  product : (j : IntKind) (b by : ℕ) → width_of (form_of j) ≡ 64 → b < 2 ^ 64 → by < 2 ^ 64 →
      binary_of Mul j b by ≡ (by * b) % 2 ^ 64
  product j b by wide lb lby = binary_of-Mul j b by wide lb lby ∙ ap (λ z. z % 2 ^ 64) (mul_comm b by)

  scaled_runs : (wide : Bool) (j : IntKind) (k : TacKind) (by i n : ℕ) (z : Value) (u : State Store)
      (us : List (Option Value)) (after : List TacInstr) → width_of (form_of j) ≡ 64 → by < 2 ^ 64 →
      (wide ≡ true → (c : IntKind) × (k ≡ kind.Int c)) → Ints (scaled_with wide j k by i n after)
      → Holds n k i z us → n + 2 ≤ length us → (b : Number ops placed u.mem k j z)
      → Leaves n (scaled_at wide n) (scaled_with wide j k by i n) u us ((by * b.number) % 2 ^ 64)
  scaled_runs true j (kind.Cap s) by i n z u us after e lby plain ints h room b =
      absurd (no (plain refl).0 (plain refl).1)
    where
      no : (c : IntKind) → kind.Cap s ≡ kind.Int c → ⊥
      no c e = cc
  scaled_runs true j (kind.Int c) by i n z u us after e lby plain ints h room b =
      let size = value.Int by in
      let vs = slice_set us n (Some size) in
      let last = value.Int ((by * b.number) % 2 ^ 64) in
      record {
        temps = slice_set vs (n + 1) (Some last);
        scratched = scratch_more ops placed w t p objects r call g scene n (n + 1) us vs (Some last) (omega arith)
            (scratch ops placed w t p objects r call g scene n n us (Some size) (omega arith));
        there = get_set_same vs (n + 1) (Some last) (let is = length-set us n (Some size) in omega arith);
        runs = λ rest.
            int_runs ops placed w t p objects r call g scene Mul j (n + 1) i n z size u vs rest
            (get_set_other us n i (Some size) (λ k. let lt = h.below in absurd (omega arith)) ∙ h.value)
            (get_set_same us n (Some size) (omega arith)) ints.0
            ∙ ap (λ k. run rest u (slice_set vs (n + 1) (Some (value.Int k))))
            (ap (λ k. binary_of Mul j k by) (ok_same (number_of z) b.number _ refl b.means)
            ∙ product j b.number by e b.below lby);
      }
  scaled_runs false j k by i n z u us after e lby plain ints h room b =
      let size = value.Int by in
      let one = value.Int b.number in
      let vs = slice_set us n (Some one) in
      let ws = slice_set vs (n + 1) (Some size) in
      let last = value.Int ((by * b.number) % 2 ^ 64) in
      record {
        temps = slice_set ws n (Some last);
        scratched = scratch_more ops placed w t p objects r call g scene n n us ws (Some last) (omega arith)
            (scratch_more ops placed w t p objects r call g scene n (n + 1) us vs (Some size) (omega arith)
            (scratch ops placed w t p objects r call g scene n n us (Some one) (omega arith)));
        there = get_set_same ws n (Some last) (let is = length-set us n (Some one) in
            let too = length-set vs (n + 1) (Some size) in omega arith);
        runs = λ rest.
            convert_runs ops placed w t p objects r call g scene n i k (kind.Int j) z one u us
            (instr.Const (n + 1) (kind.Int j) by ∷ instr.Int Mul j n n (n + 1) ∷ rest) h.value b.converts
            ∙ int_runs ops placed w t p objects r call g scene Mul j n n (n + 1) one size u ws rest
            (get_set_other vs (n + 1) n (Some size) (λ k2. absurd (omega arith))
            ∙ get_set_same us n (Some one) (omega arith))
            (get_set_same vs (n + 1) (Some size) (let is = length-set us n (Some one) in omega arith)) ints.0
            ∙ ap (λ k2. run rest u (slice_set ws n (Some (value.Int k2)))) (product j b.number by e b.below lby);
      }

  -- ---- moves

  -- the last step of a move, where the amount is in a temp
  module _ (q : Pos) (size : ℕ) (minus : Bool) (to base i from : ℕ) where
    by : ℕ
    by = stride size minus

    abbrev part : TacKind → Value → Value → Then Store Value
    part k v z = ask q (λ m. plus_by ops m size minus (kind_of k) v z)

    plus_is : (m : Store) (k : TacKind) (v z y : Value) (b : ℕ) → number_by ops m (kind_of k) z ≡ Ok b →
        ops.offset m v ((stride size minus * b) % 2 ^ 64) ≡ Ok y → plus_by ops m size minus (kind_of k) v z ≡ Ok y
    plus_is m k v z y b e f = ap (on_ok ops (λ n. move_by ops m minus v (n * size))) e
        ∙ ap (ops.offset m v) (strides ops size b minus) ∙ f

    module _ (k : TacKind) (at more : ℕ) (d : Code) where
      move : ((o : ℕ) (rest : List TacInstr) → behind o (d rest) ≡ behind o rest)
          → ((z : Value) (u : State Store) (us : List (Option Value)) → Holds from k i z us → from + more ≤ length us →
          (b : Number ops placed u.mem k (wide_kind k) z)
          → Leaves from at d u us ((stride size minus * b.number) % 2 ^ 64))
          → Binary pointer_kind k pointer_kind to base i from more (part k)
          (λ rest. d (instr.Offset to base (amount.Temp at) ∷ rest))
      move plain leaves = record {
        plain = λ o rest. plain o (instr.Offset to base (amount.Temp at) ∷ rest);
        runs = λ v z u us h h2 room sound.
            let b = as_number ops placed u.mem k (wide_kind k) z (wide_scale k) h2.typed in
            let c = leaves z u us h2 room b in
            let n = (stride size minus * b.number) % 2 ^ 64 in
            let o = placed.offset u.mem v n in
            record {
              value = o.0;
              typed = placed.offset_pointer u.mem v o.0 n h.typed o.1;
              temps = c.temps;
              scratched = c.scratched;
              means = λ l. means ops placed w t p objects r call g scene q
                  (plus_by ops u.mem size minus (kind_of k) v z) o.0 u l
                  (plus_is u.mem k v z o.0 b.number b.means o.1);
              runs = λ rest. c.runs (instr.Offset to base (amount.Temp at) ∷ rest)
                  ∙ offset_temp to base at n v o.0 u c.temps rest (c.scratched.same base h.below ∙ h.value) c.there o.1;
            };
      }

    abbrev moved_with : Bool → TacKind → Code
    moved_with one k rest =
        if one then (if is_capability k
        then instr.Convert from i k word ∷ instr.Offset to base (amount.Temp from) ∷ rest
        else instr.Offset to base (amount.Temp i) ∷ rest)
        else scaled_with (is_wide k) (wide_kind k) k (stride size minus) i from
        (instr.Offset to base (amount.Temp (scaled_at (is_wide k) from)) ∷ rest)

    bytes : (b : ℕ) → (stride size minus == 1) ≡ true → b < 2 ^ 64 → b ≡ (stride size minus * b) % 2 ^ 64
    bytes b e lt = let is : stride size minus ≡ 1 = grind (arith, nat_tests) in
        one b lt ∙ ap (λ z. (z * b) % 2 ^ 64) (sym is)
      where
        one : (b : ℕ) → b < 2 ^ 64 → b ≡ (1 * b) % 2 ^ 64
        one b lt = omega arith

    moved_cases : (one : Bool) (k : TacKind) → (stride size minus == 1) ≡ one → Ints (moved_with one k [])
        → Binary pointer_kind k pointer_kind to base i from (if one then (if is_capability k then 1 else 0) else 2)
        (part k) (moved_with one k)
    moved_cases true (kind.Cap s) is ints =
        move (kind.Cap s) from 1 (λ rest. instr.Convert from i (kind.Cap s) word ∷ rest) (λ o rest. refl)
        (λ z u us h room b.
        let one = value.Int b.number in record {
          temps = slice_set us from (Some one);
          scratched = scratch ops placed w t p objects r call g scene from from us (Some one) (omega arith);
          there = get_set_same us from (Some one) (omega arith)
              ∙ ap (λ n. Some (Some (value.Int n))) (bytes b.number is b.below);
          runs = λ rest. convert_runs ops placed w t p objects r call g scene from i (kind.Cap s) word z one u us rest
              h.value b.converts;
        })
    moved_cases true (kind.Int c) is ints =
        move (kind.Int c) i 0 (λ rest. rest) (λ o rest. refl) (λ z u us h room b. record {
          temps = us;
          scratched = untouched ops placed w t p objects r call g scene from us;
          there = h.value ∙ ap (λ y. Some (Some y)) (h.typed.1
              ∙ ap value.Int (ap number_of (sym h.typed.1) ∙ ok_same (number_of z) b.number _ refl b.means
              ∙ bytes b.number is b.below));
          runs = λ rest. refl;
        })
    moved_cases false k is ints =
        move k (scaled_at (is_wide k) from) 2 (scaled_with (is_wide k) (wide_kind k) k (stride size minus) i from)
        (λ o rest. scaled_plain (is_wide k) (wide_kind k) k (stride size minus) i from o rest)
        (λ z u us h room b. scaled_runs (is_wide k) (wide_kind k) k (stride size minus) i from z u us _ (wide_scale k)
        (stride_below size minus) (wide_plain k) ints h room b)

    pub moved_runs : (k : TacKind) → Ints (moved k (stride size minus) to base i from [])
        → Binary pointer_kind k pointer_kind to base i from (moved_temps k (stride size minus)) (part k)
        (moved k (stride size minus) to base i from)
    moved_runs k ints = moved_cases (stride size minus == 1) k refl ints

  -- ---- a constant number of elements

  pub displaced_runs : (q : Pos) (size : ℕ) (minus : Bool) (i : IntKind) (v to at from : ℕ)
      → Unary pointer_kind pointer_kind to at from 0
      (λ x. ask q (λ m. plus_by ops m size minus (Plain i) x (value.Int v)))
      (λ rest. instr.Offset to at (amount.Number (stride size minus * v % 2 ^ 64)) ∷ rest)
  displaced_runs q size minus i v to at from = record {
    plain = λ o rest. refl;
    runs = λ x u us h room sound.
        let n = stride size minus * v % 2 ^ 64 in
        let o = placed.offset u.mem x n in
        record {
          value = o.0;
          typed = placed.offset_pointer u.mem x o.0 n h.typed o.1;
          temps = us;
          scratched = untouched ops placed w t p objects r call g scene from us;
          means = λ l. means ops placed w t p objects r call g scene q
              (plus_by ops u.mem size minus (Plain i) x (value.Int v)) o.0 u l
              (ap (ops.offset u.mem x) (strides ops size v minus) ∙ o.1);
          runs = λ rest. offset_by to at n x o.0 u us rest h.value o.1;
        };
  }

  -- ---- differences

  abbrev apart_with : Bool → ℕ → (to x y n : ℕ) → Code
  apart_with one size to x y n rest =
      instr.Convert n x (kind.Cap false) long ∷ instr.Convert (n + 1) y (kind.Cap false) long
      ∷ (if one then instr.Int Sub int.I64 to n (n + 1) ∷ rest
      else instr.Int Sub int.I64 n n (n + 1) ∷ instr.Const (n + 1) long size ∷ instr.Int Div int.I64 to n (n + 1)
      ∷ rest)

  one_is : (size : ℕ) → (size == 1) ≡ true → size ≡ 1
  one_is size e = grind (arith, nat_tests)

  -- both addresses in temps
  both_scratched : (from : ℕ) (us : List (Option Value)) (x y : Value) →
      Scratched ops w t p objects r call g from us (slice_set (slice_set us from (Some x)) (from + 1) (Some y))
  both_scratched from us x y =
      scratch_more ops placed w t p objects r call g scene from (from + 1) us (slice_set us from (Some x)) (Some y)
      (omega arith) (scratch ops placed w t p objects r call g scene from from us (Some x) (omega arith))

  first_there : (from : ℕ) (us : List (Option Value)) (x y : Value) → from < length us →
      slice_get (slice_set (slice_set us from (Some x)) (from + 1) (Some y)) from ≡ Some (Some x)
  first_there from us x y lt =
      get_set_other (slice_set us from (Some x)) (from + 1) from (Some y) (λ e. absurd (omega arith))
      ∙ get_set_same us from (Some x) lt

  second_there : (from : ℕ) (us : List (Option Value)) (x y : Value) → from + 1 < length us →
      slice_get (slice_set (slice_set us from (Some x)) (from + 1) (Some y)) (from + 1) ≡ Some (Some y)
  second_there from us x y lt =
      get_set_same (slice_set us from (Some x)) (from + 1) (Some y)
      (let is = length-set us from (Some x) in omega arith)

  both_runs : (x y from : ℕ) (v z : Value) (a b : ℕ) (u : State Store) (us : List (Option Value))
      (rest : List TacInstr) → slice_get us x ≡ Some (Some v) → slice_get us y ≡ Some (Some z) → y < from →
      convert_by ops u.mem (Capability false) (Plain int.I64) v ≡ Ok (value.Int a) →
      convert_by ops u.mem (Capability false) (Plain int.I64) z ≡ Ok (value.Int b)
      → run (instr.Convert from x (kind.Cap false) long ∷ instr.Convert (from + 1) y (kind.Cap false) long ∷ rest) u us
      ≡ run rest u (slice_set (slice_set us from (Some (value.Int a))) (from + 1) (Some (value.Int b)))
  both_runs x y from v z a b u us rest hv hz lt e f =
      convert_runs ops placed w t p objects r call g scene from x (kind.Cap false) long v (value.Int a) u us
      (instr.Convert (from + 1) y (kind.Cap false) long ∷ rest) hv e
      ∙ convert_runs ops placed w t p objects r call g scene (from + 1) y (kind.Cap false) long z (value.Int b) u
      (slice_set us from (Some (value.Int a))) rest
      (get_set_other us from y (Some (value.Int a)) (λ k. absurd (omega arith)) ∙ hz) f

  difference_cases : (one : Bool) (q : Pos) (size to x y from : ℕ) → (size == 1) ≡ one →
      Ints (apart_with one size to x y from [])
      → Binary pointer_kind pointer_kind long to x y from 2 (λ v z. ask q (λ m. difference_by ops m size v z))
      (apart_with one size to x y from)
  difference_cases true q size to x y from is ints = record {
    plain = λ o rest. refl;
    runs = λ v z u us h h2 room sound.
        let a = as_number ops placed u.mem pointer_kind int.I64 v refl h.typed in
        let b = as_number ops placed u.mem pointer_kind int.I64 z refl h2.typed in
        let d = binary_of Sub int.I64 a.number b.number in
        let vs = slice_set us from (Some (value.Int a.number)) in
        let ws = slice_set vs (from + 1) (Some (value.Int b.number)) in
        record {
          value = value.Int (binary_of Div int.I64 d size);
          typed = (_, refl, IsKept-binary_of Div int.I64 d size);
          temps = ws;
          scratched = both_scratched from us (value.Int a.number) (value.Int b.number);
          means = λ l. means ops placed w t p objects r call g scene q (difference_by ops u.mem size v z) _ u l
              (ap (on_ok ops (λ n. Ok (value.Int (binary_of Div int.I64 n size))))
              (placed.apart u.mem v z a.number b.number a.means b.means a.below b.below));
          runs = λ rest.
              both_runs x y from v z a.number b.number u us (instr.Int Sub int.I64 to from (from + 1) ∷ rest) h.value
              h2.value h2.below a.converts b.converts
              ∙ int_runs ops placed w t p objects r call g scene Sub int.I64 to from (from + 1) (value.Int a.number)
              (value.Int b.number) u ws rest (first_there from us (value.Int a.number) (value.Int b.number)
              (omega arith)) (second_there from us (value.Int a.number) (value.Int b.number) (omega arith)) ints.0
              ∙ ap (λ n. run rest u (slice_set ws to (Some (value.Int n))))
              (sym (whole_quotient d (IsKept-binary_of Sub int.I64 a.number b.number))
              ∙ ap (binary_of Div int.I64 d) (sym (one_is size is)));
        };
  }
  difference_cases false q size to x y from is ints = record {
    plain = λ o rest. refl;
    runs = λ v z u us h h2 room sound.
        let a = as_number ops placed u.mem pointer_kind int.I64 v refl h.typed in
        let b = as_number ops placed u.mem pointer_kind int.I64 z refl h2.typed in
        let d = binary_of Sub int.I64 a.number b.number in
        let vs = slice_set us from (Some (value.Int a.number)) in
        let ws = slice_set vs (from + 1) (Some (value.Int b.number)) in
        let xs = slice_set ws from (Some (value.Int d)) in
        let ys = slice_set xs (from + 1) (Some (value.Int size)) in
        let long_xs = length-set ws from (Some (value.Int d)) in
        let long_ws = length-set vs (from + 1) (Some (value.Int b.number)) in
        let long_vs = length-set us from (Some (value.Int a.number)) in
        record {
          value = value.Int (binary_of Div int.I64 d size);
          typed = (_, refl, IsKept-binary_of Div int.I64 d size);
          temps = ys;
          scratched = scratch_more ops placed w t p objects r call g scene from (from + 1) us xs
              (Some (value.Int size)) (omega arith)
              (scratch_more ops placed w t p objects r call g scene from from us ws (Some (value.Int d)) (omega arith)
              (both_scratched from us (value.Int a.number) (value.Int b.number)));
          means = λ l. means ops placed w t p objects r call g scene q (difference_by ops u.mem size v z) _ u l
              (ap (on_ok ops (λ n. Ok (value.Int (binary_of Div int.I64 n size))))
              (placed.apart u.mem v z a.number b.number a.means b.means a.below b.below));
          runs = λ rest.
              both_runs x y from v z a.number b.number u us
              (instr.Int Sub int.I64 from from (from + 1) ∷ instr.Const (from + 1) long size
              ∷ instr.Int Div int.I64 to from (from + 1) ∷ rest) h.value h2.value h2.below a.converts b.converts
              ∙ int_runs ops placed w t p objects r call g scene Sub int.I64 from from (from + 1) (value.Int a.number)
              (value.Int b.number) u ws
              (instr.Const (from + 1) long size ∷ instr.Int Div int.I64 to from (from + 1) ∷ rest)
              (first_there from us (value.Int a.number) (value.Int b.number) (omega arith))
              (second_there from us (value.Int a.number) (value.Int b.number) (omega arith)) ints.0
              ∙ int_runs ops placed w t p objects r call g scene Div int.I64 to from (from + 1) (value.Int d)
              (value.Int size) u ys rest
              (get_set_other xs (from + 1) from (Some (value.Int size)) (λ e. absurd (omega arith))
              ∙ get_set_same ws from (Some (value.Int d)) (omega arith))
              (get_set_same xs (from + 1) (Some (value.Int size)) (omega arith)) ints.1.0;
        };
  }

  pub difference_runs : (q : Pos) (size to x y from : ℕ) → Ints (difference size to x y from [])
      → Binary pointer_kind pointer_kind long to x y from 2 (λ v z. ask q (λ m. difference_by ops m size v z))
      (difference size to x y from)
  difference_runs q size to x y from ints = difference_cases (size == 1) q size to x y from refl ints
