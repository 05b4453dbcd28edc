-- What the lowering shows of its steps on the way to a pointer that is moved, to an assignment, and to a step by one.
use Rattle.ck_base.specs.declared.positions.Pos.{Pos}
use Rattle.ck_int.specs.declared.kinds.IntKind.{IntKind}
use Rattle.ck_int.specs.declared.kinds.IntOp.{IntOp}
use Rattle.std.specs.Prelude.{◌≡◌, ℕ, not, Bool, false, List, length, Option, Some, None, IfSome}
use Rattle.std.specs.Prelude.{if◌then◌else◌}
use Rattle.c_tree.specs.WellTyped.{type_in}
use Rattle.c_tree.specs.declared.typed.Typed.{Typed}
use Rattle.cheri_c_sem.specs.Kinds.{Kind}
use Rattle.cheri_c_sem.specs.Tree.{Operation, Moved, Ex, Nil, Number, Binary, Compound}
use Rattle.tac_ir.specs.Effects.{kind_of}
use Rattle.tac_ir.specs.declared.code.Amount.TheVariants as amount
use Rattle.tac_ir.specs.declared.code.TacInstr.TheVariants as instr
use Rattle.tac_ir.specs.declared.code.TacKind.{TacKind}
use Rattle.tac_ir.specs.declared.code.TacKind.TheVariants as kinds
use Rattle.tac_emit.specs.declared.emitter.Emitter.{Emitter}
use Rattle.tac_lower.specs.declared.operations.Change.{Change}
use Rattle.tac_lower.specs.declared.operations.Held.{Held}
use Rattle.tac_lower.specs.declared.operations.Pace.{Pace}
use Rattle.lower_runs.specs.States.{Scene}
use Rattle.lower_runs.specs.Operating.{Code, stride, stepped, stepped_temps}
use Rattle.lower_runs.specs.Expressions.{Mark, IsConstant, IsOwn, IsOperand, IsValue, IsStep}
use Rattle.lower_runs.specs.Trees.{Values}
use Rattle.tac_emit.specs.Emitted.{Keeps}
use Rattle.tac_lower.specs.Nodes.{kept_as, or_int, points, IsScalar}
use Rattle.tac_emit.specs.Adding.{mark, Added, Emits, none, one}
use Rattle.tac_lower.specs.Shown.{Paces}
use Rattle.tac_lower.specs.Tables.{is_some, IsPointed}
use Rattle.tac_lower.specs.Trees.{Setting, tree, signatures, Suits, Shows, ShowsOperandIn}

-- ---- pointers that are moved

-- a node is an index that is known
pub record IsIndex (s : Setting) (k n : ℕ) : Type 0 where
  pub kind : IntKind
  pub scalar : IsScalar s.program k (kinds.Int kind)
  pub is : IsConstant kind (tree s k) n

-- a node is a pointer that is moved: the right operand, or the left one; the other is the index
pub record IsSum (s : Setting) (k a b : ℕ) (right : Bool) (by : ℕ) : Type 0 where
  pub pos : Pos
  pub size : ℕ
  pub minus : Bool
  pub count : TacKind
  pub is : (g : Scene) → Suits s g →
      tree s k ≡ Binary pos (Moved size minus right (kind_of count)) (tree s a) (tree s b)
  pub stride : by ≡ stride size minus
  pub value : IsScalar s.program k (kinds.Cap false)
  pub index : IsScalar s.program (if right then a else b) count

-- the pointer of a node comes into a temp, moved by so many bytes
pub record ShowsMoved (s : Setting) (k by to : ℕ) (old new : Emitter) : Type 0 where
  pub middle : Emitter
  pub base : ℕ
  pub operand : ShowsOperandIn s k to base old middle
  pub moved : Emits middle new 0 (one (instr.Offset to base (amount.Number by)))

-- ---- values that are assigned

-- a temp for a value that is changed in steps
pub record ShowsOwn (s : Setting) (to : Option ℕ) (t : ℕ) (old new : Emitter) : Type 0 where
  pub added : Added old new none
  pub keeps : Keeps old.kinds.items new.kinds.items
  pub is : (g : Scene) → g.fixed ≡ s.fixed → IsOwn g to t (mark old) (mark new)

-- a value is in a temp: of its own, where it is also asked for
module _ (s : Setting) (g : Scene) (kinds : List TacKind) (j : TacKind) (e : Ex) (t : ℕ) (m n : Mark) (c : Code) where
  abbrev pub IsAssigned : Option ℕ → Type 0
  IsAssigned None = IsOperand s.program (signatures s.program) kinds g Nil j e t m n c
  IsAssigned (Some to) =
      (l : Mark) × IsOwn g (Some to) t m l × IsValue s.program (signatures s.program) kinds g j e t l n c

abbrev pub ShowsAssigned : (s : Setting) (k : ℕ) (to : Option ℕ) (t : ℕ) (old new : Emitter) → Type 0
ShowsAssigned s k to t old new = Shows s old new (λ g kinds c. (j : TacKind) → IsScalar s.program k j →
    Values g (tree s k) → IsAssigned s g kinds j (tree s k) t (mark old) (mark new) c to)

-- the change of a compound assignment by this operation, computed in a type
pub record IsChangeOf (p : Typed) (op : IntOp) (of : ℕ) (c : Change) : Type 0 where
  pub same : c.op ≡ op
  pub computed : c.computed ≡ or_int (kept_as (type_in p of))
  pub element : is_some c.element ≡ points (type_in p of)
  pub size : IfSome c.element (IsPointed p.types of)

-- a value is moved by one, in its temp, or in a new one
abbrev pub Renews : Pace → Held → (t : ℕ) → (old new : Emitter) → Type 0
Renews pace x t old new = (t ≡ x.temp) × ((o : Operation) → Paces pace x.kind o →
    Emits old new (stepped_temps o) (stepped o x.kind x.temp x.temp (length old.kinds.items)))

abbrev pub RenewsApart : Pace → Held → (t : ℕ) → (old new : Emitter) → Type 0
RenewsApart pace x t old new = (t ≡ length old.kinds.items) × ((o : Operation) → Paces pace x.kind o →
    Emits old new 1 (stepped o x.kind t x.temp t))

-- a node moves a place by one
pub record Steps (s : Setting) (k a : ℕ) (front : Bool) (pace : Pace) : Type 0 where
  pub pos : Pos
  pub op : Operation
  pub kind : TacKind
  pub computed : Kind
  pub is : (g : Scene) → Suits s g →
      tree s k ≡ Compound pos op (kind_of kind) computed (not front) (tree s a) (Number 1)
  pub value : IsScalar s.program k kind
  pub place : IsScalar s.program a kind
  pub steps : IsStep op kind computed
  pub paces : Paces pace kind op
