-- Operations on addresses: what derives from a capability, and pointers that move.
use Rattle.std.proofs.Common.{◌≡◌, ℕ, ◌+◌, ◌≤◌, ◌<◌, Bool, true, false, List, [], ◌∷◌, length, Option, Some}
use Rattle.std.proofs.Common.{Result, Ok, refl, sym, ap, subst, ◌∙◌, arith, if◌then◌else◌, length-set}
use Rattle.std.specs.Prelude.{slice_get, slice_set, ◌&&◌, ◌%◌, ◌^◌, ◌-◌, pos}
use Rattle.std.specs.Int.Bits.{xor_zero_l}
use Rattle.ck_base.specs.World.{World}
use Rattle.ck_base.specs.declared.positions.Pos.{Pos}
use Rattle.ck_int.specs.Arithmetic.{binary_of}
use Rattle.ck_int.specs.Kinds.{IsKept, wrapped, width_of, form_of}
use Rattle.ck_int.specs.declared.kinds.IntKind.{IntKind}
use Rattle.ck_int.specs.declared.kinds.IntKind.TheVariants as int
use Rattle.ck_int.specs.declared.kinds.IntOp.{IntOp}
use Rattle.ck_int.specs.declared.kinds.IntOp.TheVariants.{Add, Sub, Mul, Div, Rem, And, Or, Xor, Shl, Shr}
use Rattle.ck_int.proofs.Laws.{IsKept-below, IsKept-binary_of}
use Rattle.ck_int.proofs.OperationLaws.{IsKept-64, binary_of-Add, binary_of-Sub, binary_of-Xor}
use Rattle.c_tree.specs.declared.typed.Typed.{Typed}
use Rattle.obj_mem.specs.Values.{Value}
use Rattle.obj_mem.specs.Values as value
use Rattle.obj_mem.specs.declared.ending.Fault.{Fault}
use Rattle.cheri_c_sem.specs.Kinds as kinds
use Rattle.cheri_c_sem.specs.Kinds.{Kind, Plain, Capability, null_at, number_of, int_kind}
use Rattle.cheri_c_sem.specs.Meaning.{operate_by, sign_by}
use Rattle.cheri_c_sem.specs.Modes.{Store}
use Rattle.cheri_c_sem.specs.Operations as asked
use Rattle.cheri_c_sem.specs.Operations.{Operations, on_ok, convert_by, to_int, number_by, derive_by, capability_by}
use Rattle.cheri_c_sem.specs.Operations.{move_by, plus_by, steps_of, is_live}
use Rattle.cheri_c_sem.specs.Steps.{State, Fate, Then, ask, answer}
use Rattle.cheri_c_sem.specs.Tree.{Derived, Sign, Positive, Negative, Complement}
use Rattle.tac_ir.specs.Effects.{kind_of, kind_at, held, no_position}
use Rattle.tac_ir.specs.Meaning.{Running, Runs, turns}
use Rattle.tac_ir.specs.Temps.{behind}
use Rattle.tac_ir.specs.WellFormed.{same_kind, is_int}
use Rattle.tac_ir.specs.declared.code.CapWork.TheVariants as cap
use Rattle.tac_ir.specs.declared.code.Tac.{Tac}
use Rattle.tac_ir.specs.declared.code.TacInstr.{TacInstr}
use Rattle.tac_ir.specs.declared.code.TacInstr.TheVariants as instr
use Rattle.tac_ir.specs.declared.code.TacKind.{TacKind}
use Rattle.tac_ir.specs.declared.code.TacKind.TheVariants as kind
use Rattle.lower_runs.specs.Sound.{IsPointer, IsSound}
use Rattle.lower_runs.specs.States.{Scene, IsScene, IsOf, IsPlaced}
use Rattle.lower_runs.specs.Operating as operating
use Rattle.lower_runs.specs.Operating.{Code, AreInts, word, keeps_count, origin, derived, address_temps, all_ones}
use Rattle.lower_runs.specs.Operating.{signed, signed_temps, signed_integer, sign_temps}
use Rattle.lower_runs.specs.Simulation.{Holds, Scratched, UnaryRuns, BinaryRuns, goes, kinds as temp_kinds}
use Rattle.lower_runs.proofs.Agreement.{get_set_same, get_set_other}
use Rattle.lower_runs.proofs.Steps.{held_is, transfer_runs, ok_same}
use Rattle.lower_runs.proofs.Operations.{int_runs, means, scratch, ones_same, transfer_plain}
use Rattle.lower_runs.proofs.Words.{modular, converted_wide, sum_twice, difference_twice}

-- ---- kinds of addresses

pub wide_address : (s : Bool) → width_of (form_of (kinds.address_kind s)) ≡ 64
wide_address true = refl
wide_address false = refl

pub wide_operation : (op : IntOp) (s : Bool) → width_of (form_of (operating.address_kind op s)) ≡ 64
wide_operation Div true = refl
wide_operation Rem true = refl
wide_operation Shr true = refl
wide_operation op s = refl

-- only a quotient, a remainder and a shift to the right depend on the sign
pub address_operation : (op : IntOp) (s : Bool) (a b : ℕ) →
    binary_of op (operating.address_kind op s) a b ≡ binary_of op (kinds.address_kind s) a b
address_operation Div true a b = refl
address_operation Rem true a b = refl
address_operation Shr true a b = refl
address_operation op true a b = modular op a b tt
address_operation Add false a b = refl
address_operation Sub false a b = refl
address_operation Mul false a b = refl
address_operation Div false a b = refl
address_operation Rem false a b = refl
address_operation And false a b = refl
address_operation Or false a b = refl
address_operation Xor false a b = refl
address_operation Shl false a b = refl
address_operation Shr false a b = refl

-- a count of a plain kind stays in its temp
pub kept_count : (op : IntOp) (k : TacKind) → keeps_count op k ≡ true → (c : IntKind) × (k ≡ kind.Int c)
kept_count op (kind.Int c) h = (c, refl)
kept_count op (kind.Cap s) h = absurd (no (Rattle.cheri_c_sem.specs.Types.is_shift op) h)
  where
    no : (b : Bool) → (b && false) ≡ true → ⊥
    no true e = cc
    no false e = cc

-- the kind of the right operand is the capability's, where the result derives from that
pub origin_is : (right s : Bool) (k : TacKind) (x y : ℕ) → (right ≡ true → k ≡ kind.Cap s) →
    origin right (kind.Cap s) k x y ≡ (if right then y else x)
origin_is false s k x y h = refl
origin_is true s k x y h =
    ap (λ z. if same_kind (kind_of z) (Capability s) then y else x) (h refl) ∙ by s
  where
    by : (s : Bool) → (if same_kind (Capability s) (Capability s) then y else x) ≡ y
    by true = refl
    by false = refl

module _ (ops : Operations Store) (placed : IsPlaced ops) where
  -- ---- operands as numbers

  as_word : (m : Store) (i : IntKind) (v : Value) → width_of (form_of i) ≡ 64 →
      to_int ops m i v ≡ on_ok ops (λ a. Ok (value.Int (wrapped i (pos a)))) (ops.address m v)
  as_word m int.Bool v h = absurd (omega arith)
  as_word m i v h = refl

  pub record Number (m : Store) (k : TacKind) (i : IntKind) (v : Value) : Type 0 where
    pub number : ℕ
    pub means : number_by ops m (kind_of k) v ≡ Ok number
    pub converts : convert_by ops m (kind_of k) (Plain i) v ≡ Ok (value.Int number)
    pub below : number < 2 ^ 64

  -- an operand's number of 64 bits
  pub as_number : (m : Store) (k : TacKind) (i : IntKind) (v : Value) → width_of (form_of i) ≡ 64 → IsOf (kind_of k) v →
      Number m k i v
  as_number m (kind.Int k) i v wide h =
      let kept : IsKept k (number_of v) = subst (λ z. IsKept k (number_of z)) (sym h.1) h.2 in
      record {
        number = number_of v;
        means = refl;
        converts = ap (λ z. Ok (value.Int z)) (converted_wide k i (number_of v) wide kept);
        below = IsKept-below k (number_of v) kept;
      }
  as_number m (kind.Cap s) i v wide h =
      let a = placed.address m v in
      let lt = placed.address_word m v a.0 h a.1 in
      record {
        number = a.0;
        means = a.1;
        converts = as_word m i v wide ∙ ap (on_ok ops (λ z. Ok (value.Int (wrapped i (pos z))))) a.1
            ∙ ap (λ z. Ok (value.Int z)) (IsKept-64 i a.0 wide lt).kept;
        below = lt;
      }

  -- ---- what derives from a capability

  pub derive_is : (m : Store) (op : IntOp) (s : Bool) (count : Kind) (right : Bool) (x y : Value) (a b : ℕ) →
      ops.address m x ≡ Ok a → number_by ops m count y ≡ Ok b
      → derive_by ops m op s count right x y
      ≡ ops.work m asked.Set_address (if right then y else x) (value.Int (binary_of op (kinds.address_kind s) a b))
  derive_is m op s count right x y a b e f =
      let last : ℕ → Result Value Fault = λ n. ops.work m asked.Set_address (if right then y else x) (value.Int n) in
      ap (on_ok ops (λ i. on_ok ops (λ j. on_ok ops last (ops.int op (kinds.address_kind s) (int_kind count) i j))
      (number_by ops m count y))) e
      ∙ ap (on_ok ops (λ j. on_ok ops last (ops.int op (kinds.address_kind s) (int_kind count) a j))) f
      ∙ ap (on_ok ops last) (placed.int op (kinds.address_kind s) (int_kind count) a b)

  -- a pointer to an object moves where it would else be given the address: it is the same
  pub capability_is : (m : Store) (op : IntOp) (s : Bool) (count : Kind) (right plain : Bool) (x y : Value) (a b : ℕ) →
      IsSound m → IsPointer x → (right ≡ true → IsPointer y) → (right ≡ true → count ≡ Capability s)
      → ops.address m x ≡ Ok a → number_by ops m count y ≡ Ok b → a < 2 ^ 64 → b < 2 ^ 64
      → capability_by ops m op s count right plain x y
      ≡ ops.work m asked.Set_address (if right then y else x) (value.Int (binary_of op (kinds.address_kind s) a b))
  capability_is m Add s count false true x y a b sound hx hy hk e f la lb = by (is_live ops x)
    where
      set : ℕ → Result Value Fault
      set n = ops.work m asked.Set_address x (value.Int n)

      by : (c : Bool) →
          (if c then on_ok ops (move_by ops m false x) (number_by ops m count y)
          else derive_by ops m Add s count false x y) ≡ set (binary_of Add (kinds.address_kind s) a b)
      by true = ap (on_ok ops (move_by ops m false x)) f ∙ placed.moves m x a (b % 2 ^ 64) sound hx e
          ∙ ap set (sum_twice a b ∙ sym (binary_of-Add (kinds.address_kind s) a b (wide_address s) la lb))
      by false = derive_is m Add s count false x y a b e f
  capability_is m Add s count true true x y a b sound hx hy hk e f la lb = by (is_live ops y)
    where
      set : ℕ → Result Value Fault
      set n = ops.work m asked.Set_address y (value.Int n)

      address : ops.address m y ≡ Ok b
      address = ap (λ z. number_by ops m z y) (sym (hk refl)) ∙ f

      by : (c : Bool) →
          (if c then on_ok ops (move_by ops m false y) (ops.address m x)
          else derive_by ops m Add s count true x y) ≡ set (binary_of Add (kinds.address_kind s) a b)
      by true = ap (on_ok ops (move_by ops m false y)) e ∙ placed.moves m y b (a % 2 ^ 64) sound (hy refl) address
          ∙ ap set (sum_twice b a ∙ ap (λ z. z % 2 ^ 64) (omega arith)
          ∙ sym (binary_of-Add (kinds.address_kind s) a b (wide_address s) la lb))
      by false = derive_is m Add s count true x y a b e f
  capability_is m Sub s count false true x y a b sound hx hy hk e f la lb = by (is_live ops x)
    where
      set : ℕ → Result Value Fault
      set n = ops.work m asked.Set_address x (value.Int n)

      by : (c : Bool) →
          (if c then on_ok ops (move_by ops m true x) (number_by ops m count y)
          else derive_by ops m Sub s count false x y) ≡ set (binary_of Sub (kinds.address_kind s) a b)
      by true = ap (on_ok ops (move_by ops m true x)) f
          ∙ placed.moves m x a ((2 ^ 64 - b % 2 ^ 64) % 2 ^ 64) sound hx e
          ∙ ap set (difference_twice a b lb ∙ sym (binary_of-Sub (kinds.address_kind s) a b (wide_address s) la lb))
      by false = derive_is m Sub s count false x y a b e f
  capability_is m op s count right plain x y a b sound hx hy hk e f la lb = derive_is m op s count right x y a b e f

module _ (ops : Operations Store) (placed : IsPlaced ops) (w : World) (t : Tac) (p : Typed)
    (objects : ℕ → List ℕ) (r : Running) (call : ℕ → List Value → Then Store Value) (g : Scene)
    (scene : IsScene g) where
  abbrev run : List TacInstr → State Store → List (Option Value) → Fate
  run = goes ops w t p objects r call g

  abbrev sets : ℕ → ℕ → Value → List TacInstr → State Store → Fate
  sets n to v rest s = turns ops w t p objects n rest Runs r (record s { vars = slice_set s.vars to (Some v) })

  abbrev kind_in : ℕ → Kind
  kind_in = kind_at (temp_kinds ops w t p objects r call g)

  abbrev Ints : List TacInstr → Type 0
  Ints = AreInts (temp_kinds ops w t p objects r call g)

  abbrev Scratch : ℕ → List (Option Value) → List (Option Value) → Type 0
  Scratch = Scratched ops w t p objects r call g

  abbrev Unary : (j k : TacKind) (to x from more : ℕ) (part : Value → Then Store Value) (d : Code) → Type 0
  Unary = UnaryRuns ops w t p objects r call g

  abbrev Binary : (i j k : TacKind) (to x y from more : ℕ) (part : Value → Value → Then Store Value) (d : Code) →
      Type 0
  Binary = BinaryRuns ops w t p objects r call g

  -- ---- single instructions

  pub convert_runs : (to from : ℕ) (j k : TacKind) (v y : Value) (u : State Store) (us : List (Option Value))
      (rest : List TacInstr) → slice_get us from ≡ Some (Some v) →
      convert_by ops u.mem (kind_of j) (kind_of k) v ≡ Ok y
      → run (instr.Convert to from j k ∷ rest) u us ≡ run rest u (slice_set us to (Some y))
  convert_runs to from j k v y u us rest hv e =
      ap (λ z. answer no_position z (record u { vars = us }) (λ d. sets u.left to d rest))
      (ap (convert_by ops u.mem (kind_of j) (kind_of k)) (held_is ops w t p objects r call g scene us from v hv) ∙ e)

  pub address_runs : (to o n : ℕ) (v x y : Value) (u : State Store) (us : List (Option Value)) (rest : List TacInstr) →
      slice_get us o ≡ Some (Some v) → slice_get us n ≡ Some (Some x) → ops.work u.mem asked.Set_address v x ≡ Ok y
      → run (instr.Cap cap.SetAddress to o (Some n) ∷ rest) u us ≡ run rest u (slice_set us to (Some y))
  address_runs to o n v x y u us rest hv hx e =
      ap (λ z. answer no_position z (record u { vars = us }) (λ d. sets u.left to d rest))
      (ap (λ z. ops.work u.mem asked.Set_address z (held (slice_get us n)))
      (held_is ops w t p objects r call g scene us o v hv)
      ∙ ap (ops.work u.mem asked.Set_address v) (held_is ops w t p objects r call g scene us n x hx) ∙ e)

  pub scratch_more : (n j : ℕ) (us vs : List (Option Value)) (v : Option Value) → n ≤ j → Scratch n us vs →
      Scratch n us (slice_set vs j v)
  scratch_more n j us vs v le a = record {
    room = length-set vs j v ∙ a.room;
    same = λ i lt. get_set_other vs j i v (λ e. absurd (omega arith)) ∙ a.same i lt;
  }

  -- ---- an address that is computed

  -- temps after code that leaves a number in one of them
  pub record Computed (from at : ℕ) (d : Code) (u : State Store) (us : List (Option Value)) (x : ℕ) : Type 0 where
    pub temps : List (Option Value)
    pub scratched : Scratch from us temps
    pub there : slice_get temps at ≡ Some (Some (value.Int x))
    pub runs : (rest : List TacInstr) → run (d rest) u us ≡ run rest u temps

  -- a count that is kept stays where it is
  abbrev pub computed_with : Bool → IntOp → IntKind → (j k : TacKind) → (x y n : ℕ) → Code
  computed_with keep op i j k x y n rest =
      instr.Convert n x j (kind.Int i)
      ∷ (if keep then instr.Int op i n n (if keep then y else n + 1) ∷ rest
      else instr.Convert (n + 1) y k (kind.Int i) ∷ instr.Int op i n n (if keep then y else n + 1) ∷ rest)

  pub computed_plain : (keep : Bool) (op : IntOp) (i : IntKind) (j k : TacKind) (x y n o : ℕ) (rest : List TacInstr) →
      behind o (computed_with keep op i j k x y n rest) ≡ behind o rest
  computed_plain true op i j k x y n o rest = refl
  computed_plain false op i j k x y n o rest = refl

  pub computed_ints : (keep : Bool) (op : IntOp) (i : IntKind) (j k : TacKind) (x y n : ℕ) (rest : List TacInstr) →
      Ints (computed_with keep op i j k x y n rest) → is_int (kind_in (if keep then y else n + 1)) ≡ true
  computed_ints true op i j k x y n rest h = h.0
  computed_ints false op i j k x y n rest h = h.0

  pub computed_runs : (keep : Bool) (op : IntOp) (i : IntKind) (j k : TacKind) (x y n : ℕ) (v z : Value)
      (u : State Store) (us : List (Option Value)) → width_of (form_of i) ≡ 64 →
      (keep ≡ true → (c : IntKind) × (k ≡ kind.Int c)) → is_int (kind_in (if keep then y else n + 1)) ≡ true
      → Holds n j x v us → Holds n k y z us → n + (if keep then 1 else 2) ≤ length us →
      (a : Number ops placed u.mem j i v) (b : Number ops placed u.mem k i z)
      → Computed n n (computed_with keep op i j k x y n) u us (binary_of op i a.number b.number)
  computed_runs true op i j (kind.Cap s) x y n v z u us wide plain ints h h2 room a b =
      absurd (no (plain refl).0 (plain refl).1)
    where
      no : (c : IntKind) → kind.Cap s ≡ kind.Int c → ⊥
      no c e = cc
  computed_runs true op i j (kind.Int c) x y n v z u us wide plain ints h h2 room a b =
      let one = value.Int a.number in
      let vs = slice_set us n (Some one) in
      let e : number_of z ≡ b.number = ok_same (number_of z) b.number _ refl b.means in
      let last = value.Int (binary_of op i a.number b.number) in
      record {
        temps = slice_set vs n (Some last);
        scratched = scratch_more n n us vs (Some last) (omega arith)
            (scratch ops placed w t p objects r call g scene n n us (Some one) (omega arith));
        there = get_set_same vs n (Some last) (let is = length-set us n (Some one) in omega arith);
        runs = λ rest.
            convert_runs n x j (kind.Int i) v one u us (instr.Int op i n n y ∷ rest) h.value a.converts
            ∙ int_runs ops placed w t p objects r call g scene op i n n y one z u vs rest
            (get_set_same us n (Some one) (omega arith))
            (get_set_other us n y (Some one) (λ k. let lt = h2.below in absurd (omega arith)) ∙ h2.value) ints
            ∙ ap (λ k. run rest u (slice_set vs n (Some (value.Int (binary_of op i a.number k))))) e;
      }
  computed_runs false op i j k x y n v z u us wide plain ints h h2 room a b =
      let one = value.Int a.number in
      let two = value.Int b.number in
      let vs = slice_set us n (Some one) in
      let ws = slice_set vs (n + 1) (Some two) in
      let last = value.Int (binary_of op i a.number b.number) in
      record {
        temps = slice_set ws n (Some last);
        scratched = scratch_more n n us ws (Some last) (omega arith)
            (scratch_more n (n + 1) us vs (Some two) (omega arith)
            (scratch ops placed w t p objects r call g scene n n us (Some one) (omega arith)));
        there = get_set_same ws n (Some last) (let is = length-set us n (Some one) in
            let too = length-set vs (n + 1) (Some two) in omega arith);
        runs = λ rest.
            convert_runs n x j (kind.Int i) v one u us
            (instr.Convert (n + 1) y k (kind.Int i) ∷ instr.Int op i n n (n + 1) ∷ rest) h.value a.converts
            ∙ convert_runs (n + 1) y k (kind.Int i) z two u vs (instr.Int op i n n (n + 1) ∷ rest)
            (get_set_other us n y (Some one) (λ k2. let lt = h2.below in absurd (omega arith)) ∙ h2.value) b.converts
            ∙ int_runs ops placed w t p objects r call g scene op i n n (n + 1) one two u ws rest
            (get_set_other vs (n + 1) n (Some two) (λ k2. absurd (omega arith))
            ∙ get_set_same us n (Some one) (omega arith))
            (get_set_same vs (n + 1) (Some two) (let is = length-set us n (Some one) in omega arith)) ints;
      }

  -- ---- operations on capability integers

  pub derived_runs : (q : Pos) (op : IntOp) (s right plain : Bool) (k : TacKind) (to x y from : ℕ) →
      (right ≡ true → k ≡ kind.Cap s) → Ints (derived op s right k to x y from [])
      → Binary (kind.Cap s) k (kind.Cap s) to x y from (address_temps op k)
      (λ v z. ask q (λ m. operate_by ops w (Derived op s (kind_of k) right plain) m v z))
      (derived op s right k to x y from)
  derived_runs q op s right plain k to x y from hk ints = record {
    plain = λ o rest. computed_plain (keeps_count op k) op i (kind.Cap s) k x y from o
        (instr.Cap cap.SetAddress to (origin right (kind.Cap s) k x y) (Some from) ∷ rest);
    runs = λ v z u us h h2 room sound.
        let a = as_number ops placed u.mem (kind.Cap s) i v wide h.typed in
        let b = as_number ops placed u.mem k i z wide h2.typed in
        let c = computed_runs (keeps_count op k) op i (kind.Cap s) k x y from v z u us wide (kept_count op k)
        (computed_ints (keeps_count op k) op i (kind.Cap s) k x y from _ ints) h h2 room a b in
        let n = binary_of op i a.number b.number in
        let of = if right then z else v in
        let pointer : IsPointer of = which right v z k h.typed h2.typed hk in
        let o = placed.work u.mem asked.Set_address of (value.Int n) in
        let lt : n < 2 ^ 64 = IsKept-below i n (IsKept-binary_of op i a.number b.number) in
        record {
          value = o.0;
          typed = placed.work_of_kind u.mem asked.Set_address of (value.Int n) o.0 sound pointer lt o.1;
          temps = c.temps;
          scratched = c.scratched;
          means = λ l. means ops placed w t p objects r call g scene q
              (capability_by ops u.mem op s (kind_of k) right plain v z) o.0 u l
              (capability_is ops placed u.mem op s (kind_of k) right plain v z a.number b.number sound h.typed
              (λ e. subst (λ j. IsOf (kind_of j) z) (hk e) h2.typed) (λ e. ap kind_of (hk e)) a.means b.means a.below
              b.below ∙ ap (λ j. ops.work u.mem asked.Set_address of (value.Int j))
              (sym (address_operation op s a.number b.number)) ∙ o.1);
          runs = λ rest. c.runs (instr.Cap cap.SetAddress to (origin right (kind.Cap s) k x y) (Some from) ∷ rest)
              ∙ address_runs to (origin right (kind.Cap s) k x y) from of (value.Int n) o.0 u c.temps rest
              (ap (slice_get c.temps) (origin_is right s k x y hk)
              ∙ at right c.temps v z (c.scratched.same x h.below ∙ h.value) (c.scratched.same y h2.below ∙ h2.value))
              c.there o.1;
        };
  }
    where
      i : IntKind
      i = operating.address_kind op s

      wide : width_of (form_of i) ≡ 64
      wide = wide_operation op s

      which : (right : Bool) (v z : Value) (k : TacKind) → IsPointer v → IsOf (kind_of k) z →
          (right ≡ true → k ≡ kind.Cap s) → IsPointer (if right then z else v)
      which true v z k hv hz e = subst (λ j. IsOf (kind_of j) z) (e refl) hz
      which false v z k hv hz e = hv

      at : (right : Bool) (vs : List (Option Value)) (v z : Value) → slice_get vs x ≡ Some (Some v) →
          slice_get vs y ≡ Some (Some z) → slice_get vs (if right then y else x) ≡ Some (Some (if right then z else v))
      at true vs v z hv hz = hz
      at false vs v z hv hz = hv

  -- ---- signs

  -- what a sign makes of an address
  abbrev pub signed_number : Sign → ℕ → ℕ
  signed_number Positive a = a
  signed_number Negative a = binary_of Sub int.U64 0 a
  signed_number Complement a = binary_of Xor int.U64 a (all_ones int.U64)

  signed_below : (sign : Sign) (a : ℕ) → a < 2 ^ 64 → signed_number sign a < 2 ^ 64
  signed_below Positive a lt = lt
  signed_below Negative a lt = IsKept-below int.U64 _ (IsKept-binary_of Sub int.U64 0 a)
  signed_below Complement a lt = IsKept-below int.U64 _ (IsKept-binary_of Xor int.U64 a (all_ones int.U64))

  signed_is : (m : Store) (sign : Sign) (s : Bool) (v : Value) (a : ℕ) → ops.address m v ≡ Ok a → a < 2 ^ 64
      → sign_by ops w sign (Capability s) m v ≡ ops.work m asked.Set_address v (value.Int (signed_number sign a))
  signed_is m Positive s v a e lt =
      derive_is ops placed m Xor s (Capability s) true (null_at 0) v 0 a (placed.address_null m 0) e
      ∙ ap (λ n. ops.work m asked.Set_address v (value.Int n))
      (binary_of-Xor (kinds.address_kind s) 0 a (wide_address s) (omega arith) lt ∙ xor_zero_l a)
  signed_is m Negative s v a e lt =
      derive_is ops placed m Sub s (Capability s) true (null_at 0) v 0 a (placed.address_null m 0) e
      ∙ ap (λ n. ops.work m asked.Set_address v (value.Int n)) (sym (address_operation Sub s 0 a))
  signed_is m Complement s v a e lt =
      derive_is ops placed m Xor s (Capability s) true (null_at (2 ^ 64 - 1)) v (2 ^ 64 - 1) a
      (placed.address_null m (2 ^ 64 - 1)) e
      ∙ ap (λ n. ops.work m asked.Set_address v (value.Int n))
      (sym (address_operation Xor s (2 ^ 64 - 1) a) ∙ ones_same int.U64 a)

  signed_computed : (sign : Sign) (n a : ℕ) (u : State Store) (us : List (Option Value)) (after : List TacInstr) →
      slice_get us n ≡ Some (Some (value.Int a)) → Ints (signed_integer sign int.U64 n n (n + 1) after) →
      n + 1 + sign_temps sign ≤ length us
      → Computed n n (signed_integer sign int.U64 n n (n + 1)) u us (signed_number sign a)
  signed_computed Positive n a u us after e ints room = record {
    temps = slice_set us n (Some (value.Int a));
    scratched = scratch ops placed w t p objects r call g scene n n us (Some (value.Int a)) (omega arith);
    there = get_set_same us n (Some (value.Int a)) (omega arith);
    runs = λ rest. transfer_runs ops w t p objects r call g scene n n rest u us (value.Int a) e;
  }
  signed_computed Negative n a u us after e ints room =
      let zero = value.Int 0 in
      let vs = slice_set us (n + 1) (Some zero) in
      let last = value.Int (binary_of Sub int.U64 0 a) in
      record {
        temps = slice_set vs n (Some last);
        scratched = scratch_more n n us vs (Some last) (omega arith)
            (scratch ops placed w t p objects r call g scene n (n + 1) us (Some zero) (omega arith));
        there = get_set_same vs n (Some last) (let is = length-set us (n + 1) (Some zero) in omega arith);
        runs = λ rest. int_runs ops placed w t p objects r call g scene Sub int.U64 n (n + 1) n zero (value.Int a) u vs
            rest (get_set_same us (n + 1) (Some zero) (omega arith))
            (get_set_other us (n + 1) n (Some zero) (λ k. absurd (omega arith)) ∙ e) ints.0;
      }
  signed_computed Complement n a u us after e ints room =
      let ones = value.Int (all_ones int.U64) in
      let vs = slice_set us (n + 1) (Some ones) in
      let last = value.Int (binary_of Xor int.U64 a (all_ones int.U64)) in
      record {
        temps = slice_set vs n (Some last);
        scratched = scratch_more n n us vs (Some last) (omega arith)
            (scratch ops placed w t p objects r call g scene n (n + 1) us (Some ones) (omega arith));
        there = get_set_same vs n (Some last) (let is = length-set us (n + 1) (Some ones) in omega arith);
        runs = λ rest. int_runs ops placed w t p objects r call g scene Xor int.U64 n n (n + 1) (value.Int a) ones u vs
            rest (get_set_other us (n + 1) n (Some ones) (λ k. absurd (omega arith)) ∙ e)
            (get_set_same us (n + 1) (Some ones) (omega arith)) ints.0;
      }

  signed_plain : (sign : Sign) (n o : ℕ) (rest : List TacInstr) →
      behind o (signed_integer sign int.U64 n n (n + 1) rest) ≡ behind o rest
  signed_plain Positive n o rest = transfer_plain n n o rest
  signed_plain Negative n o rest = refl
  signed_plain Complement n o rest = refl

  pub signed_runs : (q : Pos) (sign : Sign) (s : Bool) (to x from : ℕ) → Ints (signed sign (kind.Cap s) to x from [])
      → Unary (kind.Cap s) (kind.Cap s) to x from (signed_temps sign (kind.Cap s))
      (λ v. ask q (λ m. sign_by ops w sign (Capability s) m v)) (signed sign (kind.Cap s) to x from)
  signed_runs q sign s to x from ints = record {
    plain = λ o rest. signed_plain sign from o (instr.Cap cap.SetAddress to x (Some from) ∷ rest);
    runs = λ v u us h room sound.
        let a = as_number ops placed u.mem (kind.Cap s) int.U64 v refl h.typed in
        let one = value.Int a.number in
        let vs = slice_set us from (Some one) in
        let c = signed_computed sign from a.number u vs _ (get_set_same us from (Some one) (omega arith)) ints
        (let is = length-set us from (Some one) in omega arith) in
        let n = signed_number sign a.number in
        let o = placed.work u.mem asked.Set_address v (value.Int n) in
        record {
          value = o.0;
          typed = placed.work_of_kind u.mem asked.Set_address v (value.Int n) o.0 sound h.typed
              (signed_below sign a.number a.below) o.1;
          temps = c.temps;
          scratched = record {
            room = c.scratched.room ∙ length-set us from (Some one);
            same = λ j lt. c.scratched.same j lt ∙ get_set_other us from j (Some one) (λ e. absurd (omega arith));
          };
          means = λ l. means ops placed w t p objects r call g scene q (sign_by ops w sign (Capability s) u.mem v) o.0 u
              l (signed_is u.mem sign s v a.number a.means a.below ∙ o.1);
          runs = λ rest.
              convert_runs from x (kind.Cap s) word v one u us
              (signed_integer sign int.U64 from from (from + 1) (instr.Cap cap.SetAddress to x (Some from) ∷ rest))
              h.value a.converts
              ∙ c.runs (instr.Cap cap.SetAddress to x (Some from) ∷ rest)
              ∙ address_runs to x from v (value.Int n) o.0 u c.temps rest
              (c.scratched.same x h.below
              ∙ get_set_other us from x (Some one) (λ e. let lt = h.below in absurd (omega arith)) ∙ h.value) c.there
              o.1;
        };
  }
