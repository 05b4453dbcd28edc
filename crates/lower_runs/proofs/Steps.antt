-- What single instructions do between states that agree.
use Rattle.std.proofs.Common.{◌≡◌, ℕ, ◌≤◌, ◌<◌, Bool, true, false, not, List, ◌∷◌, Option, Some}
use Rattle.std.proofs.Common.{None, Result, Ok, Err, refl, sym, ap, subst, ◌∙◌, arith, if◌then◌else◌}
use Rattle.std.specs.Prelude.{slice_get, slice_set, ◌==◌, ◌^◌, pos}
use Rattle.std.proofs.lemmas.Bool.Decides.{nat_tests}
use Rattle.ck_base.specs.World.{World}
use Rattle.ck_base.specs.declared.positions.Pos.{Pos}
use Rattle.ck_int.specs.Kinds.{IsKept, wrapped, kept_of, reduced, converted}
use Rattle.ck_int.specs.declared.kinds.IntKind.{IntKind}
use Rattle.ck_int.specs.declared.kinds.IntKind.TheVariants as int
use Rattle.ck_int.specs.declared.kinds.CmpOp.{CmpOp}
use Rattle.ck_int.specs.declared.kinds.CmpOp.TheVariants.{Eq, Ne}
use Rattle.ck_int.specs.declared.kinds.IntOp.{IntOp}
use Rattle.ck_int.specs.Arithmetic.{binary_of, compare_of}
use Rattle.ck_int.proofs.Laws.{IsKept-wrapped, IsKept-converted, IsKept-binary_of, IsKept-below, converted-same}
use Rattle.std.specs.Ordering.{int_eq}
use Rattle.ck_int.specs.Kinds.{value_of as value_of_kind}
use Rattle.cap_ops.specs.Permissions.{data_permissions}
use Rattle.c_tree.specs.declared.typed.Typed.{Typed}
use Rattle.obj_mem.specs.Values.{Value}
use Rattle.obj_mem.specs.Values as value
use Rattle.obj_mem.specs.declared.ending.Fault.{Fault}
use Rattle.cheri_c_sem.specs.Kinds.{Kind, Plain, Capability, zero_of, null_at, number_of, truth, read_as, int_kind}
use Rattle.cheri_c_sem.specs.Kinds.{bytes_of}
use Rattle.cheri_c_sem.specs.Modes.{Store}
use Rattle.cheri_c_sem.specs.Operations.{Operations, on_ok, compare_by, convert_by, int_by, to_int}
use Rattle.cheri_c_sem.specs.Steps.{State, Fate, Then, answer}
use Rattle.tac_ir.specs.Effects.{kind_of, held}
use Rattle.tac_ir.specs.Meaning.{Running}
use Rattle.tac_ir.specs.WellFormed.{is_int}
use Rattle.tac_ir.specs.declared.code.Tac.{Tac}
use Rattle.tac_ir.specs.declared.code.TacInstr.{TacInstr}
use Rattle.tac_ir.specs.declared.code.TacInstr.TheVariants as instr
use Rattle.tac_ir.specs.declared.code.TacKind.{TacKind}
use Rattle.tac_ir.specs.declared.code.TacKind.TheVariants as kind
use Rattle.lower_runs.specs.States.{Scene, IsScene, IsOf, IsPlaced, IsAnswered}
use Rattle.lower_runs.specs.Sound.{IsSound}
use Rattle.lower_runs.specs.Operating.{transfer}
use Rattle.lower_runs.specs.Expressions.{Mark}
use Rattle.lower_runs.specs.Simulation.{HasRoom, IsTarget, Done, Valued, goes}
use Rattle.lower_runs.proofs.Agreement.{get_set_same, set_there, agrees_set}
use Rattle.lower_runs.proofs.Agreement.{went_set}

-- ---- values of kinds

pub kept_zero : (k : IntKind) → IsKept k 0
unfolding wrapped kept_of reduced
kept_zero int.Bool = record { kept = refl }
kept_zero int.I8 = record { kept = refl }
kept_zero int.U8 = record { kept = refl }
kept_zero int.I16 = record { kept = refl }
kept_zero int.U16 = record { kept = refl }
kept_zero int.I32 = record { kept = refl }
kept_zero int.U32 = record { kept = refl }
kept_zero int.I64 = record { kept = refl }
kept_zero int.U64 = record { kept = refl }

pub zero_is_of : (k : Kind) → IsOf k (zero_of k)
zero_is_of (Plain k) = (0, refl, kept_zero k)
zero_is_of (Capability s) = omega arith

pub data_twelve_bits : data_permissions < 4096
data_twelve_bits = omega arith

-- 0 and 1 are numbers of `int` and of `_Bool`
pub truth_is_of : (b : Bool) → IsOf (Plain int.I32) (truth b)
unfolding wrapped kept_of reduced
truth_is_of true = (1, refl, record { kept = refl })
truth_is_of false = (0, refl, record { kept = refl })

pub bool_is_of : (b : Bool) → IsOf (Plain int.Bool) (truth b)
unfolding wrapped kept_of reduced
bool_is_of true = (1, refl, record { kept = refl })
bool_is_of false = (0, refl, record { kept = refl })

equal_or_not : (k : IntKind) (x : ℕ) → compare_of Eq k x 0 ≡ not (compare_of Ne k x 0)
unfolding compare_of
equal_or_not k x = twice (int_eq (value_of_kind k x) (value_of_kind k 0))
  where
    twice : (b : Bool) → b ≡ not (not b)
    twice true = refl
    twice false = refl

pub ok_same : (a b : ℕ) (x : Result ℕ Fault) → x ≡ Ok a → x ≡ Ok b → a ≡ b
ok_same a b x e f = cc

same_truth : (a b : Bool) (x : Result Bool Fault) → x ≡ Ok a → x ≡ Ok b → a ≡ b
same_truth a b x e f = cc

-- ---- answers

-- the same answer at one position
pub same_answer : {A : Type 0} (q : Pos) (a : Result A Fault) (s : State Store) (ts : List (Option Value))
    (k l : A → State Store → Fate) → ((x : A) → a ≡ Ok x → k x s ≡ l x (record s { vars = ts }))
    → answer q a s k ≡ answer q a (record s { vars = ts }) l
same_answer q (Ok x) s ts k l h = h x refl
same_answer q (Err f) s ts k l h = refl

-- an operation answers, at any position
pub answers : {A : Type 0} (p q : Pos) (a b : Result A Fault) (s u : State Store) (k l : A → State Store → Fate) →
    a ≡ b →
    (o : IsAnswered a) → (k o.0 s ≡ l o.0 u) → answer p a s k ≡ answer q b u l
answers p q a b s u k l e o h = ap (λ z. answer p z s k) o.1 ∙ h ∙ sym (ap (λ z. answer q z u l) (sym e ∙ o.1))

module _ (ops : Operations Store) (placed : IsPlaced ops) where
  pub compares : (m : Store) (op : CmpOp) (k : Kind) (x y : Value) → IsAnswered (compare_by ops m op k x y)
  compares m op (Plain k) x y = (_, refl)
  compares m op (Capability s) x y = placed.compare m op s x y

  pub loaded_is_of : (k : Kind) (m : Store) (from v : Value) → IsSound m → ops.load m from (bytes_of k) ≡ Ok v →
      IsOf k (read_as k v)
  loaded_is_of (Plain k) m from v h e = (_, refl, IsKept-wrapped k _)
  loaded_is_of (Capability s) m from v h e = placed.load_pointer m from v h e

  -- a conversion answers, and gives a value of its kind; one to the kind of the value leaves it as it is
  pub convert_answers : (m : Store) (j k : Kind) (x : Value) → IsAnswered (convert_by ops m j k x)
  convert_answers m (Plain j) (Plain k) x = (_, refl)
  convert_answers m (Plain j) (Capability s) x = (_, refl)
  convert_answers m (Capability s) (Plain k) x = by k
    where
      by : (k : IntKind) → IsAnswered (to_int ops m k x)
      by int.Bool = let c = placed.compare m Ne false x (null_at 0) in
          (truth c.0, ap (on_ok ops (λ b. Ok (truth b))) c.1)
      by k = let a = placed.address m x in
          (value.Int (wrapped k (pos a.0)), ap (on_ok ops (λ n. Ok (value.Int (wrapped k (pos n))))) a.1)
  convert_answers m (Capability s) (Capability z) x = (x, refl)

  pub converts : (m : Store) (j k : Kind) (x : Value) → IsOf j x →
      (y : Value) × (convert_by ops m j k x ≡ Ok y) × IsOf k y
  converts m (Plain j) (Plain k) x h = (_, refl, (_, refl, IsKept-converted j k _))
  converts m (Plain j) (Capability s) x h =
      (_, refl, subst (λ z. number_of z < 2 ^ 64) (sym h.1) (IsKept-below j h.0 h.2))
  converts m (Capability s) (Plain k) x h = by k
    where
      by : (k : IntKind) → (y : Value) × (to_int ops m k x ≡ Ok y) × IsOf (Plain k) y
      by int.Bool = let c = placed.compare m Ne false x (null_at 0) in
          (truth c.0, ap (on_ok ops (λ b. Ok (truth b))) c.1, bool_is_of c.0)
      by k = let a = placed.address m x in (
        value.Int (wrapped k (pos a.0)),
        ap (on_ok ops (λ n. Ok (value.Int (wrapped k (pos n))))) a.1,
        (_, refl, IsKept-wrapped k _),
      )
  converts m (Capability s) (Capability z) x h = (x, refl, h)

  pub converts_same : (m : Store) (k : Kind) (x : Value) → IsOf k x → convert_by ops m k k x ≡ Ok x
  converts_same m (Plain k) x h =
      ap (λ z. Ok (value.Int (converted k k (number_of z)))) h.1 ∙ ap (λ z. Ok (value.Int z)) (converted-same k h.0 h.2)
      ∙ ap Ok (sym h.1)
  converts_same m (Capability s) x h = refl

  pub opposite_truth : (m : Store) (k : Kind) (x : Value) (b : Bool) → compare_by ops m Ne k x (zero_of k) ≡ Ok b →
      compare_by ops m Eq k x (zero_of k) ≡ Ok (not b)
  opposite_truth m (Plain k) x b e = ap Ok (equal_or_not k (number_of x) ∙ ap not (same_truth _ b _ refl e))
  opposite_truth m (Capability s) x b e = placed.opposite m s b x (null_at 0) e

  -- an operation on integers, whatever integer kind its right operand has
  pub computes : (m : Store) (op : IntOp) (i : IntKind) (k : Kind) (x y : Value) → is_int k ≡ true →
      int_by ops m op i k x y ≡ Ok (value.Int (binary_of op i (number_of x) (number_of y)))
  computes m op i (Plain k) x y h =
      ap (on_ok ops (λ n. Ok (value.Int n))) (placed.int op i k (number_of x) (number_of y))
  computes m op i (Capability s) x y h = absurd cc

  -- or one whose right operand is a capability, by its address
  pub computes_address : (m : Store) (op : IntOp) (i : IntKind) (s : Bool) (x y : Value) (a : ℕ) →
      ops.address m y ≡ Ok a →
      int_by ops m op i (Capability s) x y ≡ Ok (value.Int (binary_of op i (number_of x) a))
  computes_address m op i s x y a e =
      ap (on_ok ops (λ b. on_ok ops (λ n. Ok (value.Int n)) (ops.int op i (int_kind (Capability s)) (number_of x) b))) e
      ∙ ap (on_ok ops (λ n. Ok (value.Int n))) (placed.int op i (int_kind (Capability s)) (number_of x) a)

  pub computed_is_of : (op : IntOp) (i : IntKind) (a b : ℕ) → IsOf (Plain i) (value.Int (binary_of op i a b))
  computed_is_of op i a b = (_, refl, IsKept-binary_of op i a b)

-- ---- instructions

-- the value of a constant
abbrev pub constant : TacKind → ℕ → Value
constant (kind.Int k) v = value.Int v
constant (kind.Cap s) v = null_at v

pub constant_zero : (k : TacKind) → constant k 0 ≡ zero_of (kind_of k)
constant_zero (kind.Int k) = refl
constant_zero (kind.Cap s) = refl

module _ (ops : Operations Store) (w : World) (t : Tac) (p : Typed) (objects : ℕ → List ℕ) (r : Running)
    (call : ℕ → List Value → Then Store Value) (g : Scene) (scene : IsScene g) where
  abbrev run : List TacInstr → State Store → List (Option Value) → Fate
  run = goes ops w t p objects r call g

  pub constant_runs : (k : TacKind) (to v : ℕ) (rest : List TacInstr) (s : State Store) (ts : List (Option Value)) →
      run (instr.Const to k v ∷ rest) s ts ≡ run rest s (slice_set ts to (Some (constant k v)))
  constant_runs (kind.Int k) to v rest s ts = refl
  constant_runs (kind.Cap z) to v rest s ts = refl

  pub held_is : (ts : List (Option Value)) (at : ℕ) (v : Value) → slice_get ts at ≡ Some (Some v) →
      held (slice_get ts at) ≡ v
  held_is ts at v e = ap held e

  -- ---- the last step: a value comes into the temp that was given

  pub lands : (k : TacKind) (f h : ℕ → Bool) (to : ℕ) (m n : Mark) (s u : State Store) (ts us : List (Option Value))
      (v : Value) → ((x : ℕ) → h x ≡ true → f x ≡ true) → IsTarget g m to → HasRoom g m n → m.temps ≤ n.temps →
      IsOf (kind_of k) v
      → Done ops g f m s ts u us → Valued ops g k h to m s ts v u (slice_set us to (Some v))
  lands k f h to m n s u ts us v hf target room le typed done = record {
    agrees = agrees_set ops g scene None (Some to) u us to (Some v) target.free (λ x i e z. (tt, z)) done.agrees;
    went = went_set ops g scene f h m.temps m.temps None (Some to) s u ts us to (Some v) hf (omega arith)
        (λ i lt z. (tt, z)) done.went;
    value = get_set_same us to (Some v) (let is = done.agrees.room in let lt = target.there in let high = room.high in
        omega arith);
    typed = typed;
  }

  -- a copy of a value, unless it is there
  pub transfer_runs : (to from : ℕ) (rest : List TacInstr) (u : State Store) (us : List (Option Value)) (v : Value) →
      slice_get us from ≡ Some (Some v) → run (transfer to from rest) u us ≡ run rest u (slice_set us to (Some v))
  transfer_runs to from rest u us v e = by (to == from) refl
    where
      by : (b : Bool) → (to == from) ≡ b →
          run (if b then rest else instr.Copy to from ∷ rest) u us ≡ run rest u (slice_set us to (Some v))
      by true q = let is : to ≡ from = grind (arith, nat_tests) in
          ap (run rest u) (sym (set_there us to (Some v) (ap (slice_get us) is ∙ e)))
      by false q = ap (λ z. run rest u (slice_set us to (Some z))) (held_is us from v e)
