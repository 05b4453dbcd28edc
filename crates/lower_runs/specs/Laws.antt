-- The laws, for each rule of the relation: where the codes of the parts do what the parts mean, so does the code that
-- the rule makes of them.
use Rattle.std.specs.Prelude.{◌≡◌, ℕ, ◌+◌, ◌^◌, ◌<◌, Bool, true, false, not, List, [], ◌∷◌, length, Option, Some, None}
use Rattle.std.specs.Prelude.{slice_get}
use Rattle.ck_base.specs.World.{World}
use Rattle.ck_base.specs.declared.positions.Pos.{Pos}
use Rattle.ck_int.specs.Kinds.{IsKept}
use Rattle.ck_int.specs.declared.kinds.CmpOp.{CmpOp}
use Rattle.ck_int.specs.declared.kinds.IntKind.{IntKind}
use Rattle.ck_int.specs.declared.kinds.IntOp.{IntOp}
use Rattle.cap_ops.specs.Permissions.{const_permissions}
use Rattle.c_tree.specs.declared.typed.Typed.{Typed}
use Rattle.obj_mem.specs.Legal.{Needs, IsLegal}
use Rattle.obj_mem.specs.Values.{Value}
use Rattle.obj_mem.specs.declared.map.Map.{Map}
use Rattle.cheri_c_sem.specs.Expressions.{permissions_of}
use Rattle.cheri_c_sem.specs.Kinds.{Kind, Plain}
use Rattle.cheri_c_sem.specs.Modes.{Store, operations, placed_plan}
use Rattle.cheri_c_sem.specs.Operations.{Operations}
use Rattle.cheri_c_sem.specs.Steps.{Then}
use Rattle.cheri_c_sem.specs.Tree.{Ex, Exs, Nil, Cons, Whole, Sign, Narrowing, Number, Null, Load, Aggregate}
use Rattle.cheri_c_sem.specs.Tree.{Pointer_to, Convert, Discard, Unary, Not, Binary, Compare, And, Or, Conditional}
use Rattle.cheri_c_sem.specs.Tree.{Comma, Assign, Variable, Local, Object, Function, Deref, Member}
use Rattle.cheri_c_sem.specs.Types.{is_shift}
use Rattle.tac_ir.specs.Effects.{kind_of, kind_at}
use Rattle.tac_ir.specs.Meaning.{Running}
use Rattle.tac_ir.specs.declared.code.Amount.TheVariants as amount
use Rattle.tac_ir.specs.declared.code.Tac.{Tac}
use Rattle.tac_ir.specs.declared.code.TacInstr.{TacInstr}
use Rattle.tac_ir.specs.declared.code.TacInstr.TheVariants as instr
use Rattle.tac_ir.specs.declared.code.TacKind.{TacKind}
use Rattle.tac_ir.specs.declared.code.TacKind.TheVariants as kind
use Rattle.lower_runs.specs.States.{Scene, IsScene, IsPlaced}
use Rattle.lower_runs.specs.Operating.{Code, AreInts, transfer, give, negated, signed_integer, sign_temps, whole}
use Rattle.lower_runs.specs.Operating.{right_temps}
use Rattle.lower_runs.specs.Expressions.{Mark, more, labelled, position_in, int_kind, pointer_kind, IsRight, is_still}
use Rattle.lower_runs.specs.Expressions.{is_still_place, is_junction, choice_code, guarded_code, IsInPlace, IsBase}
use Rattle.lower_runs.specs.Expressions.{IsOwn}
use Rattle.lower_runs.specs.Simulation.{ValueRuns, OperandRuns, OperandInRuns, PairRuns, EffectRuns, PlaceEffectRuns}
use Rattle.lower_runs.specs.Simulation.{ConditionRuns, PlaceRuns, PointerRuns, AssignmentRuns, kinds}

-- A law holds over all operations that answer as those under a map do, in every world, in each function of any code,
-- whatever calls do
abbrev pub Everywhere : ((ops : Operations Store) → World → Tac → Typed → (ℕ → List ℕ) → Running →
    (ℕ → List Value → Then Store Value) → Scene → Type 0) → Type 0
Everywhere law =
    (ops : Operations Store) → IsPlaced ops →
    (w : World) (t : Tac) (p : Typed) (objects : ℕ → List ℕ) (r : Running)
    (call : ℕ → List Value → Then Store Value) (g : Scene) → IsScene g → law ops w t p objects r call g

-- and those under a legal map do
abbrev pub OperationsArePlaced : Type 0
OperationsArePlaced = (needs : Needs) (m : Map) → IsLegal needs m → IsPlaced (operations (placed_plan m))

module _ (ops : Operations Store) (w : World) (t : Tac) (p : Typed) (objects : ℕ → List ℕ) (r : Running)
    (call : ℕ → List Value → Then Store Value) (g : Scene) where
  abbrev Value_runs : (k : TacKind) (e : Ex) (to : ℕ) (m n : Mark) (c : Code) → Type 0
  Value_runs = ValueRuns ops w t p objects r call g

  abbrev Operand_runs : (later : Exs) (k : TacKind) (e : Ex) (at : ℕ) (m n : Mark) (c : Code) → Type 0
  Operand_runs = OperandRuns ops w t p objects r call g

  abbrev Operand_in_runs : (k : TacKind) (e : Ex) (to at : ℕ) (m n : Mark) (c : Code) → Type 0
  Operand_in_runs = OperandInRuns ops w t p objects r call g

  abbrev Pair_runs : (j : TacKind) (a : Ex) (x : ℕ) (k : TacKind) (b : Ex) (y : ℕ) (m n : Mark) (c : Code) → Type 0
  Pair_runs = PairRuns ops w t p objects r call g

  abbrev Effect_runs : (e : Ex) (m n : Mark) (c : Code) → Type 0
  Effect_runs = EffectRuns ops w t p objects r call g

  abbrev Place_effect_runs : (e : Ex) (m n : Mark) (c : Code) → Type 0
  Place_effect_runs = PlaceEffectRuns ops w t p objects r call g

  abbrev Condition_runs : (k : TacKind) (e : Ex) (when : Bool) (label : ℕ) (m n : Mark) (c : Code) → Type 0
  Condition_runs = ConditionRuns ops w t p objects r call g

  abbrev Place_runs : (e : Ex) (to : ℕ) (m n : Mark) (c : Code) → Type 0
  Place_runs = PlaceRuns ops w t p objects r call g

  abbrev Pointer_runs : (later : Exs) (e : Ex) (at : ℕ) (m n : Mark) (c : Code) → Type 0
  Pointer_runs = PointerRuns ops w t p objects r call g

  abbrev Assignment_runs : (k : TacKind) (e : Ex) (to : Option ℕ) (m n : Mark) (c : Code) → Type 0
  Assignment_runs = AssignmentRuns ops w t p objects r call g

  abbrev Ints : List TacInstr → Type 0
  Ints = AreInts (kinds ops w t p objects r call g)

  -- `in_place`, `operand`, `operand_in` and `pair`
  pub record OperandRules : Type 0 where
    pub in_place : (later : Exs) (k : TacKind) (e : Ex) (at : ℕ) (m : Mark) → IsInPlace g later k e at →
        Operand_runs later k e at m m (λ rest. rest)
    pub fresh : (later : Exs) (k : TacKind) (e : Ex) (m n : Mark) (c : Code) → Value_runs k e m.temps (more 1 m) n c →
        Operand_runs later k e m.temps m n c
    pub given_in_place : (k : TacKind) (e : Ex) (to at : ℕ) (m : Mark) → IsInPlace g Nil k e at →
        Operand_in_runs k e to at m m (λ rest. rest)
    pub given_there : (k : TacKind) (e : Ex) (to : ℕ) (m n : Mark) (c : Code) → Value_runs k e to m n c →
        Operand_in_runs k e to to m n c
    pub pair : (j k : TacKind) (a b : Ex) (x y : ℕ) (l m n : Mark) (c d : Code) →
        Operand_runs (Cons b Nil) j a x l m c → Operand_runs Nil k b y m n d →
        Pair_runs j a x k b y l n (λ rest. c (d rest))

  -- values without memory: constants, variables, conversions, operations on integers, comparisons and choices
  pub record ValueRules : Type 0 where
    pub number : (k : IntKind) (v to : ℕ) (m : Mark) → IsKept k v →
        Value_runs (kind.Int k) (Number v) to m m (λ rest. instr.Const to (kind.Int k) v ∷ rest)
    pub null : (s : Bool) (v to : ℕ) (m : Mark) → v < 2 ^ 64 →
        Value_runs (kind.Cap s) (Null v) to m m (λ rest. instr.Const to (kind.Cap s) v ∷ rest)
    pub variable : (x at to : ℕ) (k : TacKind) (q : Pos) (m : Mark) → g.home x ≡ Some (record { temp = at; kind = k }) →
        Value_runs k (Load (kind_of k) (Variable q x)) to m m (transfer to at)
    pub kept : (k : TacKind) (e : Ex) (q : Pos) (plain : Bool) (to : ℕ) (m n : Mark) (c : Code) →
        Value_runs k e to m n c → Value_runs k (Convert q (kind_of k) (kind_of k) plain e) to m n c
    pub converted : (j k : TacKind) (e : Ex) (q : Pos) (plain : Bool) (x to : ℕ) (m n : Mark) (c : Code) →
        Operand_runs Nil j e x m n c →
        Value_runs k (Convert q (kind_of j) (kind_of k) plain e) to m n (λ rest. c (instr.Convert to x j k ∷ rest))
    pub discarded : (e : Ex) (to : ℕ) (m n : Mark) (c : Code) → Effect_runs e m n c →
        Value_runs int_kind (Discard e) to m n (λ rest. c (instr.Const to int_kind 0 ∷ rest))
    pub opposite : (k : TacKind) (e : Ex) (q : Pos) (x to : ℕ) (m n : Mark) (c : Code) → Operand_runs Nil k e x m n c →
        Value_runs int_kind (Not q (kind_of k) e) to m (more 1 n) (λ rest. c (negated k to x n.temps rest))
    pub sign : (sign : Sign) (i : IntKind) (e : Ex) (q : Pos) (x to : ℕ) (m n : Mark) (c : Code) →
        Operand_in_runs (kind.Int i) e to x m n c → Ints (signed_integer sign i to x n.temps [])
        → Value_runs (kind.Int i) (Unary q sign (Plain i) e) to m (more (sign_temps sign) n)
        (λ rest. c (signed_integer sign i to x n.temps rest))
    pub whole : (op : IntOp) (i : IntKind) (k : TacKind) (a b : Ex) (q : Pos) (x y to : ℕ) (m n : Mark) (c : Code) →
        Pair_runs (kind.Int i) a x k b y m n c → IsRight (is_shift op) (kind.Int i) k →
        Ints (whole op i k to x y n.temps [])
        → Value_runs (kind.Int i) (Binary q (Whole op i (kind_of k)) a b) to m (more (right_temps op k) n)
        (λ rest. c (whole op i k to x y n.temps rest))
    pub compare : (op : CmpOp) (k : TacKind) (a b : Ex) (q : Pos) (x y to : ℕ) (m n : Mark) (c : Code) →
        Pair_runs k a x k b y m n c →
        Value_runs int_kind (Compare q op (kind_of k) a b) to m n (λ rest. c (instr.Cmp op k to x y ∷ rest))
    pub truth : (q : Pos) (e : Ex) (to : ℕ) (m n : Mark) (c : Code) → is_junction e ≡ true →
        Condition_runs int_kind e false m.labels (labelled 2 m) n c
        → Value_runs int_kind e to m n (λ rest. c
        (instr.Const to int_kind 1 ∷ instr.Jump (m.labels + 1) ∷ instr.Label m.labels ∷ instr.Const to int_kind 0
        ∷ instr.Label (m.labels + 1) ∷ rest))
    pub choice : (q : Pos) (j k : TacKind) (e a b : Ex) (to : ℕ) (l m n o : Mark) (c d f : Code) →
        Condition_runs j e false l.labels (labelled 2 l) m c → Value_runs k a to m n d → Value_runs k b to n o f
        → Value_runs k (Conditional q (kind_of j) e a b) to l o (choice_code l.labels c d f)
    pub comma : (k : TacKind) (a b : Ex) (to : ℕ) (l m n : Mark) (c d : Code) → Effect_runs a l m c →
        Value_runs k b to m n d → Value_runs k (Comma a b) to l n (λ rest. c (d rest))

  -- values by places: loads, and pointers
  pub record LoadRules : Type 0 where
    pub load : (k : TacKind) (e : Ex) (at to : ℕ) (q : Pos) (m n : Mark) (c : Code) → position_in e ≡ Some q →
        Pointer_runs Nil e at m n c → Value_runs k (Load (kind_of k) e) to m n (λ rest. c (instr.Load to at k q ∷ rest))
    pub address : (e : Ex) (to : ℕ) (q : Pos) (m n : Mark) (c : Code) → Place_runs e to m n c →
        Value_runs pointer_kind (Pointer_to q None e) to m n c
    pub unplaced : (x to : ℕ) (q s : Pos) (m : Mark) →
        Value_runs pointer_kind (Pointer_to q None (Variable s x)) to m m (λ rest. instr.Const to pointer_kind 0 ∷ rest)
    pub narrowed : (e : Ex) (to : ℕ) (q : Pos) (i : Narrowing) (m n : Mark) (c : Code) → Place_runs e to m n c →
        Value_runs pointer_kind (Pointer_to q (Some i) e) to m n
        (λ rest. c (instr.Narrow to to (amount.Number i.owned) true ∷ rest))

  -- `place` and `pointer`
  pub record PlaceRules : Type 0 where
    pub local : (o at to : ℕ) (q : Pos) (m : Mark) → g.spot o ≡ Some at → Place_runs (Local q o) to m m (transfer to at)
    pub global : (o to : ℕ) (q : Pos) (m : Mark) →
        Place_runs (Object q o (permissions_of p [] (slice_get p.globals o))) to m m
        (λ rest. instr.Global to o false ∷ rest)
    pub literal : (o to : ℕ) (q : Pos) (m : Mark) →
        Place_runs (Object q (length p.globals + o) const_permissions) to m m (λ rest. instr.Global to o true ∷ rest)
    pub function : (f to : ℕ) (q : Pos) (m : Mark) →
        Place_runs (Function q f) to m m (λ rest. instr.Function to f ∷ rest)
    pub deref : (e : Ex) (to : ℕ) (q : Pos) (m n : Mark) (c : Code) → Value_runs pointer_kind e to m n c →
        Place_runs (Deref q e) to m n c
    pub member_of : (e : Ex) (at to offset : ℕ) (q : Pos) (m : Mark) → IsBase g e at →
        Place_runs (Member q offset e) to m m (λ rest. instr.Offset to at (amount.Number offset) ∷ rest)
    pub member : (e : Ex) (to offset : ℕ) (q : Pos) (m n : Mark) (c : Code) → Place_runs e to m n c →
        Place_runs (Member q offset e) to m n (λ rest. c (instr.Offset to to (amount.Number offset) ∷ rest))
    pub aggregate : (e : Ex) (to : ℕ) (m n : Mark) (c : Code) → Place_runs e to m n c →
        Place_runs (Aggregate e) to m n c
    pub comma : (a b : Ex) (to : ℕ) (l m n : Mark) (c d : Code) → Effect_runs a l m c → Place_runs b to m n d →
        Place_runs (Comma a b) to l n (λ rest. c (d rest))
    pub choice : (q : Pos) (j : TacKind) (e a b : Ex) (to : ℕ) (l m n o : Mark) (c d f : Code) →
        Condition_runs j e false l.labels (labelled 2 l) m c → Place_runs a to m n d → Place_runs b to n o f
        → Place_runs (Conditional q (kind_of j) e a b) to l o (choice_code l.labels c d f)
    pub pointer_deref : (later : Exs) (e : Ex) (at : ℕ) (q : Pos) (m n : Mark) (c : Code) →
        Operand_runs later pointer_kind e at m n c → Pointer_runs later (Deref q e) at m n c
    pub pointer_local : (later : Exs) (o at : ℕ) (q : Pos) (m : Mark) → g.spot o ≡ Some at →
        Pointer_runs later (Local q o) at m m (λ rest. rest)
    pub pointer_aggregate : (later : Exs) (e : Ex) (at : ℕ) (m n : Mark) (c : Code) → Pointer_runs later e at m n c →
        Pointer_runs later (Aggregate e) at m n c
    pub pointer_fresh : (later : Exs) (e : Ex) (m n : Mark) (c : Code) → Place_runs e m.temps (more 1 m) n c →
        Pointer_runs later e m.temps m n c

  -- `condition`
  pub record ConditionRules : Type 0 where
    pub branch : (k : TacKind) (e : Ex) (at : ℕ) (when : Bool) (label : ℕ) (m n : Mark) (c : Code) →
        Operand_runs Nil k e at m n c → kind_at (kinds ops w t p objects r call g) at ≡ kind_of k →
        Condition_runs k e when label m n (λ rest. c (instr.Branch at when label ∷ rest))
    pub opposite : (q : Pos) (k : TacKind) (e : Ex) (when : Bool) (label : ℕ) (m n : Mark) (c : Code) →
        Condition_runs k e (not when) label m n c → Condition_runs int_kind (Not q (kind_of k) e) when label m n c
    pub both : (q : Pos) (j k : TacKind) (a b : Ex) (label : ℕ) (l m n : Mark) (c d : Code) →
        Condition_runs j a false label l m c → Condition_runs k b false label m n d →
        Condition_runs int_kind (And q (kind_of j) (kind_of k) a b) false label l n (λ rest. c (d rest))
    pub either : (q : Pos) (j k : TacKind) (a b : Ex) (label : ℕ) (l m n : Mark) (c d : Code) →
        Condition_runs j a true label l m c → Condition_runs k b true label m n d →
        Condition_runs int_kind (Or q (kind_of j) (kind_of k) a b) true label l n (λ rest. c (d rest))
    pub both_around : (q : Pos) (j k : TacKind) (a b : Ex) (label : ℕ) (l m n : Mark) (c d : Code) →
        Condition_runs j a false l.labels (labelled 1 l) m c → Condition_runs k b true label m n d
        → Condition_runs int_kind (And q (kind_of j) (kind_of k) a b) true label l n (guarded_code l.labels c d)
    pub either_around : (q : Pos) (j k : TacKind) (a b : Ex) (label : ℕ) (l m n : Mark) (c d : Code) →
        Condition_runs j a true l.labels (labelled 1 l) m c → Condition_runs k b false label m n d
        → Condition_runs int_kind (Or q (kind_of j) (kind_of k) a b) false label l n (guarded_code l.labels c d)

  -- `effect`, of an expression as a value and as a place
  pub record EffectRules : Type 0 where
    pub still : (e : Ex) (m : Mark) → is_still e ≡ true → Effect_runs e m m (λ rest. rest)
    pub convert : (e : Ex) (q : Pos) (j k : Kind) (plain : Bool) (m n : Mark) (c : Code) → Effect_runs e m n c →
        Effect_runs (Convert q j k plain e) m n c
    pub discard : (e : Ex) (m n : Mark) (c : Code) → Effect_runs e m n c → Effect_runs (Discard e) m n c
    pub comma : (a b : Ex) (l m n : Mark) (c d : Code) → Effect_runs a l m c → Effect_runs b m n d →
        Effect_runs (Comma a b) l n (λ rest. c (d rest))
    pub choice : (q : Pos) (j : TacKind) (e a b : Ex) (l m n o : Mark) (c d f : Code) →
        Condition_runs j e false l.labels (labelled 2 l) m c → Effect_runs a m n d → Effect_runs b n o f →
        Effect_runs (Conditional q (kind_of j) e a b) l o (choice_code l.labels c d f)
    pub both : (q : Pos) (j : TacKind) (k : Kind) (a b : Ex) (l m n : Mark) (c d : Code) →
        Condition_runs j a false l.labels (labelled 1 l) m c → Effect_runs b m n d →
        Effect_runs (And q (kind_of j) k a b) l n (guarded_code l.labels c d)
    pub either : (q : Pos) (j : TacKind) (k : Kind) (a b : Ex) (l m n : Mark) (c d : Code) →
        Condition_runs j a true l.labels (labelled 1 l) m c → Effect_runs b m n d →
        Effect_runs (Or q (kind_of j) k a b) l n (guarded_code l.labels c d)
    pub deref : (e : Ex) (q : Pos) (m n : Mark) (c : Code) → Effect_runs e m n c → Effect_runs (Deref q e) m n c
    pub member : (e : Ex) (q : Pos) (offset : ℕ) (m n : Mark) (c : Code) → Place_effect_runs e m n c →
        Effect_runs (Member q offset e) m n c
    pub aggregate : (e : Ex) (m n : Mark) (c : Code) → Place_effect_runs e m n c → Effect_runs (Aggregate e) m n c
    pub value : (k : TacKind) (e : Ex) (m n : Mark) (c : Code) → Value_runs k e m.temps (more 1 m) n c →
        Effect_runs e m n c
    pub place_still : (e : Ex) (m : Mark) → is_still_place e ≡ true → Place_effect_runs e m m (λ rest. rest)
    pub place_deref : (e : Ex) (q : Pos) (m n : Mark) (c : Code) → Effect_runs e m n c →
        Place_effect_runs (Deref q e) m n c
    pub place_member : (e : Ex) (q : Pos) (offset : ℕ) (m n : Mark) (c : Code) → Place_effect_runs e m n c →
        Place_effect_runs (Member q offset e) m n c
    pub place_aggregate : (e : Ex) (m n : Mark) (c : Code) → Place_effect_runs e m n c →
        Place_effect_runs (Aggregate e) m n c
    pub place_comma : (a b : Ex) (l m n : Mark) (c d : Code) → Effect_runs a l m c → Place_effect_runs b m n d →
        Place_effect_runs (Comma a b) l n (λ rest. c (d rest))
    pub place_choice : (q : Pos) (j : TacKind) (e a b : Ex) (l m n o : Mark) (c d f : Code) →
        Condition_runs j e false l.labels (labelled 2 l) m c → Place_effect_runs a m n d → Place_effect_runs b n o f
        → Place_effect_runs (Conditional q (kind_of j) e a b) l o (choice_code l.labels c d f)

  -- `assignment`
  pub record AssignmentRules : Type 0 where
    pub variable : (k : TacKind) (b : Ex) (x at : ℕ) (to : Option ℕ) (q : Pos) (m n : Mark) (c : Code) →
        g.home x ≡ Some (record { temp = at; kind = k }) → Value_runs k b at m n c
        → Assignment_runs k (Assign (kind_of k) (Variable q x) b) to m n (λ rest. c (give to at rest))
    pub object : (k : TacKind) (a b : Ex) (at from : ℕ) (q : Pos) (l m n : Mark) (c d : Code) → position_in a ≡ Some q →
        Pointer_runs (Cons b Nil) a at l m c → Operand_runs Nil k b from m n d
        → Assignment_runs k (Assign (kind_of k) a b) None l n (λ rest. c (d (instr.Store at from k q ∷ rest)))
    pub object_value : (k : TacKind) (a b : Ex) (at from to : ℕ) (q : Pos) (l m n o : Mark) (c d : Code) →
        position_in a ≡ Some q → Pointer_runs (Cons b Nil) a at l m c → IsOwn g (Some to) from m n →
        Value_runs k b from n o d
        → Assignment_runs k (Assign (kind_of k) a b) (Some to) l o
        (λ rest. c (d (instr.Store at from k q ∷ transfer to from rest)))
