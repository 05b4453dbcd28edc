-- Whose code the lowering adds: that of the trees of a typed program's nodes, in a scene in which each variable stands
-- where the lowering has it.
use Rattle.ck_base.specs.declared.positions.Pos.{Pos}
use Rattle.std.specs.Prelude.{◌≡◌, ℕ, ◌≤◌, ◌==◌, not, Bool, true, false, List, [], ◌∷◌, ◌++◌, ◌⊎◌, Option, Some}
use Rattle.std.specs.Prelude.{None, map, slice_get}
use Rattle.c_tree.specs.Types as ty
use Rattle.c_tree.specs.Terms.{type_of as type_of_term}
use Rattle.c_tree.specs.Types.{Ty, Tys, no_types, also, is_tagged}
use Rattle.c_tree.specs.WellTyped.{Frame, type_in, IsComplete}
use Rattle.c_tree.specs.declared.typed.Expr.{Expr}
use Rattle.c_tree.specs.declared.typed.ExprKind.{ExprKind}
use Rattle.c_tree.specs.declared.typed.ExprKind.TheVariants as exprs
use Rattle.c_tree.specs.declared.typed.FunDef.{FunDef}
use Rattle.c_tree.specs.declared.typed.Typed.{Typed}
use Rattle.c_tree.specs.declared.typed.VarDef.{VarDef}
use Rattle.cheri_c_sem.specs.Expressions.{expr_tree, arguments, type_of}
use Rattle.cheri_c_sem.specs.Tree.{Ex, Aggregate}
use Rattle.cheri_c_sem.specs.Tree.{Sign, Positive, Negative, Complement}
use Rattle.c_tree.specs.declared.typed.UnaryOp.{UnaryOp}
use Rattle.c_tree.specs.declared.typed.UnaryOp.TheVariants as unary
use Rattle.cheri_c_sem.specs.Tree.{Conditional, Comma, Copy}
use Rattle.cheri_c_sem.specs.Tree.{Exs}
use Rattle.c_tree.specs.Layout.{bare, size_limit}
use Rattle.cheri_c_sem.specs.Types.{is_record, size_in, is_simple, objects_before}
use Rattle.tac_lower.specs.declared.places.Target as places
use Rattle.tac_lower.specs.declared.places.Target.TheVariants as places_target
use Rattle.tac_ir.specs.declared.code.TacInstr.TheVariants as instr
use Rattle.tac_ir.specs.declared.code.TacKind.{TacKind}
use Rattle.tac_lower.specs.declared.context.Context.{Context}
use Rattle.tac_lower.specs.declared.context.Home.{Home}
use Rattle.tac_lower.specs.declared.context.Home.TheVariants as home
use Rattle.tac_emit.specs.declared.emitter.Emitter.{Emitter}
use Rattle.tac_lower.specs.declared.writes.Written.{Written}
use Rattle.tac_lower.specs.declared.writes.Written.TheVariants as write
use Rattle.lower_runs.specs.Fitting.{CallsFit}
use Rattle.lower_runs.specs.States.{Scene}
use Rattle.lower_runs.specs.Trees.{Values, Places, AllValues}
use Rattle.lower_runs.specs.Operating.{Code}
use Rattle.lower_runs.specs.Expressions.{Signature, Mark, Target, Reaches, Within, spares, spare, IsInPlace}
use Rattle.lower_runs.specs.Expressions.{IsOperand, IsOperandIn, IsPair}
use Rattle.lower_runs.specs.Expressions.{IsConstant}
use Rattle.ck_int.specs.declared.kinds.IntKind.{IntKind}
use Rattle.tac_ir.specs.declared.code.TacKind.TheVariants as kinds
use Rattle.lower_runs.specs.Expressions.{IsValue, IsEffect, IsPlaceEffect, IsCondition, IsPointer, IsPlace}
use Rattle.lower_runs.specs.Expressions.{IsAssignment}
use Rattle.lower_runs.specs.Expressions.{IsStructAssignment, IsCopy, IsArguments, IsCall, position_in, IsBase}
use Rattle.lower_runs.specs.Expressions.{pointer_kind, target_temp, target_mark, target_code}
use Rattle.tac_emit.specs.Emitted.{Keeps}
use Rattle.tac_lower.specs.Nodes.{kept_as, kind_in, or_int, scalar_in, expression, IsScalar, IsTyped}
use Rattle.tac_emit.specs.Adding.{Added, mark, one}
use Rattle.tac_lower.specs.Tables.{IsSmall, AreSmall, type_at}

-- ---- what expressions write

abbrev pub spares_of : Written → ℕ → Bool
spares_of write.Nothing x = true
spares_of (write.One y) x = not (x == y)
spares_of write.Any x = false

-- no other variable is written by an expression, or by some
pub record Covers (w : Written) (e : Ex) : Type 0 where
  pub spared : (x : ℕ) → spares_of w x ≡ true → spares x e ≡ true

pub record CoversAll (w : Written) (es : Exs) : Type 0 where
  pub spared : (x : ℕ) → spares_of w x ≡ true → spare x es ≡ true

abbrev pub or_any : Option Written → Written
or_any None = write.Any
or_any (Some w) = w

abbrev pub written_in : List Written → ℕ → Written
written_in table k = or_any (slice_get table k)

-- what spares a variable is such that each of some expressions spares it
abbrev pub SparesAll : List Written → Written → List ℕ → Type 0
SparesAll table w ks = (x j k : ℕ) → spares_of w x ≡ true → slice_get ks j ≡ Some k →
    spares_of (written_in table k) x ≡ true

-- what is written behind each expression of a list, from the last on
abbrev pub AreBehind : List Written → List ℕ → List Written → Type 0
AreBehind table [] ws = ws ≡ []
AreBehind table (k ∷ ks) ws = (front : List Written) × (w : Written) × (ws ≡ front ++ w ∷ []) ×
    SparesAll table w ks × AreBehind table ks front

-- each entry of a table covers a tree
pub record AreCovered (table : List Written) (t : ℕ → Ex) : Type 0 where
  pub each : (k : ℕ) → Covers (written_in table k) (t k)

-- ---- where the code stands

-- what the lowering of a function reads, beside the table of types
pub record Setting : Type 0 where
  pub program : Typed
  pub vars : List VarDef
  pub writes : List Written
  pub homes : List Home
  pub fixed : ℕ

abbrev pub setting : Context → Setting
setting cx = record {
  program = cx.p.now;
  vars = cx.d.now.vars;
  writes = cx.writes.now;
  homes = cx.homes.now;
  fixed = cx.fixed;
}

-- where the expressions of a function that gives a type stand
abbrev pub frame_in : Setting → Ty → Frame
frame_in s t = record { program = s.program; vars = s.vars; gives = t }

abbrev pub tree : Setting → ℕ → Ex
tree s k = expr_tree s.program s.vars k

-- the place that a node takes
abbrev pub taken : ExprKind → Option ℕ
taken (exprs.Load a) = Some a
taken (exprs.Assign a b) = Some a
taken (exprs.Compound op a b t) = Some a
taken (exprs.Step a adds front) = Some a
taken of = None

abbrev pub pos_of : Option Expr → Pos
pos_of None = record { line = 0; col = 0 }
pos_of (Some e) = e.pos

abbrev pub pos_in : Typed → ℕ → Pos
pos_in p k = pos_of (slice_get p.exprs k)

-- a node of this kind
pub record IsNode (p : Typed) (k : ℕ) (of : ExprKind) : Type 0 where
  pub node : Expr
  pub there : slice_get p.exprs k ≡ Some node
  pub is : node.kind ≡ of

-- a node takes a place that is a scalar
pub record Takes (p : Typed) (k a : ℕ) : Type 0 where
  pub of : ExprKind
  pub names : IsNode p k of
  pub place : taken of ≡ Some a
  pub kind : TacKind
  pub is : IsScalar p a kind

-- a node has a scalar
pub record HasScalar (p : Typed) (k : ℕ) : Type 0 where
  pub kind : TacKind
  pub is : IsScalar p k kind

abbrev pub AreScalars : Typed → List ℕ → Type 0
AreScalars p ks = (j k : ℕ) → slice_get ks j ≡ Some k → HasScalar p k

-- a node names a variable whose value is in a temp, or an object
pub record IsVariable (p : Typed) (homes : List Home) (k t : ℕ) : Type 0 where
  pub number : ℕ
  pub kind : TacKind
  pub names : IsNode p k (exprs.Var number)
  pub home : slice_get homes number ≡ Some (home.Temp t kind)

pub record IsObject (p : Typed) (homes : List Home) (k t : ℕ) : Type 0 where
  pub number : ℕ
  pub object : ℕ
  pub names : IsNode p k (exprs.Var number)
  pub home : slice_get homes number ≡ Some (home.Object object t)

-- no temp has the value of a node: it is no variable, or an object
pub record Located (s : Setting) (k : ℕ) : Type 0 where
  pub none : (t : ℕ) → IsVariable s.program s.homes k t → ⊥

-- a node is a struct or union
abbrev pub HasRecord : Typed → ℕ → Type 0
HasRecord p k = is_record (bare p.types (type_of (slice_get p.exprs k))) ≡ true

-- a struct or union of so many bytes
pub record IsCopied (p : Typed) (k bytes : ℕ) : Type 0 where
  pub is : HasRecord p k
  pub size : size_in p.types (type_at p k) ≡ bytes
  pub within : bytes ≤ size_limit

-- a type is another one, but for a `const`
abbrev pub IsBare : (s t : Ty) → Type 0
IsBare s t = (s ≡ t) ⊎ (s ≡ ty.bare t)

-- types that differ by `const` alone are laid out alike, and no member is over the limit
pub record TypesFit (p : Typed) : Type 0 where
  pub sizes : (t u : ℕ) → IsBare (type_in p t) (type_in p u) → size_in p.types t ≡ size_in p.types u
  pub records : (t u : ℕ) → IsBare (type_in p t) (type_in p u) →
      is_record (bare p.types t) ≡ is_record (bare p.types u)
  pub members : (k a m : ℕ) → IsNode p k (exprs.Member a m) → AreSmall p.types (type_at p a)

-- what is a place where a node is one
abbrev pub handed_on : ExprKind → List ℕ
handed_on (exprs.Member a m) = a ∷ []
handed_on (exprs.Comma a b) = b ∷ []
handed_on (exprs.Conditional c a b) = a ∷ b ∷ []
handed_on of = []

-- a node has the type of a struct or union that is complete
pub record IsTagged (p : Typed) (k : ℕ) : Type 0 where
  pub tagged : is_tagged (type_of_term (expression p k)) ≡ true
  pub complete : IsComplete p (type_of_term (expression p k))

-- a node has a scalar, or a struct or union
abbrev pub IsWhole : Typed → ℕ → Type 0
IsWhole p k = HasScalar p k ⊎ IsTagged p k

-- a variable stands in the scene where the lowering has it, if the block of an object has been entered
pub record Suits (s : Setting) (g : Scene) : Type 0 where
  pub fixed : g.fixed ≡ s.fixed
  pub written : (k : ℕ) → Covers (written_in s.writes k) (tree s k)
  pub placed : (k a : ℕ) → Takes s.program k a → position_in (tree s a) ≡ Some (pos_in s.program a)
  pub value : (x t : ℕ) (k : TacKind) → slice_get s.homes x ≡ Some (home.Temp t k) →
      (is_simple (slice_get s.vars x) ≡ true) × (g.home x ≡ Some (record { temp = t; kind = k })) ×
      ((v : VarDef) → slice_get s.vars x ≡ Some v → or_int (kept_as (type_in s.program v.of)) ≡ k)
  pub object : (x n t : ℕ) → slice_get s.homes x ≡ Some (home.Object n t) →
      (is_simple (slice_get s.vars x) ≡ false) × (objects_before s.vars x ≡ n) × ((u : ℕ) → g.spot n ≡ Some u → u ≡ t)
  pub calls : CallsFit s.program
  pub types : TypesFit s.program
  pub small : (t : Ty) (k : ℕ) → IsTyped (frame_in s t) k → IsSmall s.program.types (type_at s.program k)
  pub located : (t : Ty) (k : ℕ) → IsTyped (frame_in s t) k → HasRecord s.program k → Located s k
  pub handed : (t : Ty) (k a j : ℕ) (of : ExprKind) → IsTyped (frame_in s t) a → IsNode s.program k of →
      slice_get (handed_on of) j ≡ Some a → Located s a
  pub records : (k : ℕ) → IsTagged s.program k → HasRecord s.program k
  pub passed : (k f : ℕ) (args : List ℕ) → IsNode s.program k (exprs.Call f args) → AreScalars s.program args

-- what a function of a program gives, and the kinds of what it takes
abbrev pub kinds_taken : Tys → List TacKind
kinds_taken no_types = []
kinds_taken (also t ts) = or_int (kept_as t) ∷ kinds_taken ts

abbrev pub signature_by : Ty → Signature
signature_by (ty.Function r ps) = record { gives = kept_as r; takes = kinds_taken ps }
signature_by t = record { gives = None; takes = [] }

abbrev pub signature_of : Typed → Option FunDef → Signature
signature_of p None = record { gives = None; takes = [] }
signature_of p (Some d) = signature_by (type_in p d.of)

abbrev pub signatures : Typed → ℕ → Signature
signatures p f = signature_of p (slice_get p.funs f)

-- Code is added that is the code of something, in each scene that suits and whatever temps are made later
pub record Shows (s : Setting) (old new : Emitter) (Is : Scene → List TacKind → Code → Type 0) : Type 0 where
  pub code : Code
  pub added : Added old new code
  pub keeps : Keeps old.kinds.items new.kinds.items
  pub is : (g : Scene) (kinds : List TacKind) → Suits s g → Keeps new.kinds.items kinds → Is g kinds code

-- and what is evaluated later does not write it
pub record IsSpared (p : Typed) (homes : List Home) (later : Written) (k t : ℕ) : Type 0 where
  pub is : IsVariable p homes k t
  pub spared : spares_of later is.number ≡ true

-- what has the value of node a in a temp has that of node k
pub record Peels (s : Setting) (k a : ℕ) : Type 0 where
  pub place : (g : Scene) (es : Exs) (j : TacKind) (t : ℕ) → IsScalar s.program k j → IsInPlace g es j (tree s a) t →
      IsInPlace g es j (tree s k) t
  pub means : (g : Scene) (j : TacKind) → IsScalar s.program k j → Values g (tree s k) → Values g (tree s a)
  pub scalar : (j : TacKind) → IsScalar s.program k j → IsScalar s.program a j
  pub constant : (i : IntKind) (v : ℕ) → IsScalar s.program k (kinds.Int i) → IsConstant i (tree s a) v →
      IsConstant i (tree s k) v

-- `&&` or `||`
abbrev pub joined : Bool → (a b : ℕ) → ExprKind
joined true a b = exprs.And a b
joined false a b = exprs.Or a b

-- a unary operation is this sign
abbrev pub Signs : UnaryOp → Sign → Type 0
Signs unary.Plus Positive = Unit {0}
Signs unary.Minus Negative = Unit {0}
Signs unary.Complement Complement = Unit {0}
Signs op sign = ⊥

-- the address of a place is taken, or a function or array stands for a pointer
abbrev pub IsAddress : Typed → (k a : ℕ) → Type 0
IsAddress p k a = IsNode p k (exprs.Decay a) ⊎ IsNode p k (exprs.Address a)

abbrev pub target_as : places.Target → Target
target_as (places_target.At t) = Reaches t
target_as (places_target.Within t offset) = Within t offset

-- ---- the relations, of nodes with scalars

pub record ShowsInPlace (s : Setting) (later : Written) (k t : ℕ) : Type 0 where
  pub is : (g : Scene) (es : Exs) (j : TacKind) → Suits s g → CoversAll later es → IsScalar s.program k j →
      Values g (tree s k) → IsInPlace g es j (tree s k) t

module _ (s : Setting) (g : Scene) (kinds : List TacKind) (m n : Mark) (c : Code) where
  abbrev pub OperandIs : (later : Written) (k t : ℕ) → Type 0
  OperandIs later k t = (es : Exs) (j : TacKind) → CoversAll later es → IsScalar s.program k j → Values g (tree s k) →
      IsOperand s.program (signatures s.program) kinds g es j (tree s k) t m n c

  abbrev pub OperandInIs : (k to t : ℕ) → Type 0
  OperandInIs k to t = (j : TacKind) → IsScalar s.program k j → Values g (tree s k) →
      IsOperandIn s.program (signatures s.program) kinds g j (tree s k) to t m n c

  abbrev pub PairIs : (a x b y : ℕ) → Type 0
  PairIs a x b y = (i j : TacKind) → IsScalar s.program a i → IsScalar s.program b j → Values g (tree s a) →
      Values g (tree s b) → IsPair s.program (signatures s.program) kinds g i (tree s a) x j (tree s b) y m n c

  abbrev pub EffectIs : (k : ℕ) → Type 0
  EffectIs k = Values g (tree s k) ⊎ Places g (tree s k) →
      IsEffect s.program (signatures s.program) kinds g (tree s k) m n c

  abbrev pub ConditionIs : (k : ℕ) (when : Bool) (label : ℕ) → Type 0
  ConditionIs k when label = (j : TacKind) → IsScalar s.program k j → Values g (tree s k) →
      IsCondition s.program (signatures s.program) kinds g j (tree s k) when label m n c

  abbrev pub ValueIs : (k to : ℕ) → Type 0
  ValueIs k to = (j : TacKind) → IsScalar s.program k j → Values g (tree s k) →
      IsValue s.program (signatures s.program) kinds g j (tree s k) to m n c

  abbrev pub PointerIs : (later : Written) (k t : ℕ) → Type 0
  PointerIs later k t = (es : Exs) → CoversAll later es → Located s k → Places g (tree s k) →
      IsPointer s.program (signatures s.program) kinds g es (tree s k) t m n c

  -- for a variable that is no object, there is null
  pub record Unplaced (k to : ℕ) : Type 0 where
    pub temp : ℕ
    pub is : IsVariable s.program s.homes k temp
    pub marks : n ≡ m
    pub code : c ≡ one (instr.Const to pointer_kind 0)

  abbrev pub PlaceIs : (k to : ℕ) → Type 0
  PlaceIs k to = Places g (tree s k) →
      IsPlace s.program (signatures s.program) kinds g (tree s k) to m n c ⊎ Unplaced k to

  abbrev pub AssignmentIs : (k : ℕ) (to : Option ℕ) → Type 0
  AssignmentIs k to = (j : TacKind) → IsScalar s.program k j → Values g (tree s k) →
      IsAssignment s.program (signatures s.program) kinds g j (tree s k) to m n c

  abbrev pub PlaceEffectIs : (k : ℕ) → Type 0
  PlaceEffectIs k = Places g (tree s k) →
      IsPlaceEffect s.program (signatures s.program) kinds g (tree s k) m n c

  abbrev pub StructIs : (k t : ℕ) → Type 0
  StructIs k t = Places g (tree s k) →
      IsStructAssignment s.program (signatures s.program) kinds g (tree s k) t m n c

  abbrev pub CopyIs : (to : Target) (q : Pos) (bytes unit k : ℕ) → Type 0
  CopyIs to q bytes unit k = IsCopied s.program k bytes → Places g (tree s k) →
      IsCopy s.program (signatures s.program) kinds g to q bytes unit (tree s k) m n c

  abbrev pub ArgumentsAre : (args ts : List ℕ) → Type 0
  ArgumentsAre args ts = AreScalars s.program args → AllValues g (arguments (tree s) args) →
      IsArguments s.program (signatures s.program) kinds g (arguments (tree s) args)
      (map (kind_in s.program) args) ts m n c

  abbrev pub CallIs : (k : ℕ) (to : Option ℕ) → Type 0
  CallIs k to = Values g (tree s k) →
      IsCall s.program (signatures s.program) kinds g (scalar_in s.program k) (tree s k) to m n c

abbrev pub ShowsOperand : (s : Setting) (later : Written) (k t : ℕ) (old new : Emitter) → Type 0
ShowsOperand s later k t old new =
    Shows s old new (λ g kinds c. OperandIs s g kinds (mark old) (mark new) c later k t)

abbrev pub ShowsOperandIn : (s : Setting) (k to t : ℕ) (old new : Emitter) → Type 0
ShowsOperandIn s k to t old new =
    Shows s old new (λ g kinds c. OperandInIs s g kinds (mark old) (mark new) c k to t)

abbrev pub ShowsPair : (s : Setting) (a x b y : ℕ) (old new : Emitter) → Type 0
ShowsPair s a x b y old new = Shows s old new (λ g kinds c. PairIs s g kinds (mark old) (mark new) c a x b y)

abbrev pub ShowsValue : (s : Setting) (k to : ℕ) (old new : Emitter) → Type 0
ShowsValue s k to old new = Shows s old new (λ g kinds c. ValueIs s g kinds (mark old) (mark new) c k to)

abbrev pub ShowsEffect : (s : Setting) (k : ℕ) (old new : Emitter) → Type 0
ShowsEffect s k old new = Shows s old new (λ g kinds c. EffectIs s g kinds (mark old) (mark new) c k)

abbrev pub ShowsCondition : (s : Setting) (k : ℕ) (when : Bool) (label : ℕ) (old new : Emitter) → Type 0
ShowsCondition s k when label old new =
    Shows s old new (λ g kinds c. ConditionIs s g kinds (mark old) (mark new) c k when label)

abbrev pub ShowsPointer : (s : Setting) (later : Written) (k t : ℕ) (old new : Emitter) → Type 0
ShowsPointer s later k t old new =
    Shows s old new (λ g kinds c. PointerIs s g kinds (mark old) (mark new) c later k t)

abbrev pub ShowsPlace : (s : Setting) (k to : ℕ) (old new : Emitter) → Type 0
ShowsPlace s k to old new = Shows s old new (λ g kinds c. PlaceIs s g kinds (mark old) (mark new) c k to)

abbrev pub ShowsAssignment : (s : Setting) (k : ℕ) (to : Option ℕ) (old new : Emitter) → Type 0
ShowsAssignment s k to old new = Shows s old new (λ g kinds c. AssignmentIs s g kinds (mark old) (mark new) c k to)

abbrev pub ShowsPlaceEffect : (s : Setting) (k : ℕ) (old new : Emitter) → Type 0
ShowsPlaceEffect s k old new = Shows s old new (λ g kinds c. PlaceEffectIs s g kinds (mark old) (mark new) c k)

abbrev pub ShowsStruct : (s : Setting) (k t : ℕ) (old new : Emitter) → Type 0
ShowsStruct s k t old new = Shows s old new (λ g kinds c. StructIs s g kinds (mark old) (mark new) c k t)

abbrev pub ShowsCopy : (s : Setting) (to : Target) (q : Pos) (bytes unit k : ℕ) (old new : Emitter) → Type 0
ShowsCopy s to q bytes unit k old new =
    Shows s old new (λ g kinds c. CopyIs s g kinds (mark old) (mark new) c to q bytes unit k)

abbrev pub ShowsArguments : (s : Setting) (args ts : List ℕ) (old new : Emitter) → Type 0
ShowsArguments s args ts old new =
    Shows s old new (λ g kinds c. ArgumentsAre s g kinds (mark old) (mark new) c args ts)

abbrev pub ShowsCall : (s : Setting) (k : ℕ) (to : Option ℕ) (old new : Emitter) → Type 0
ShowsCall s k to old new = Shows s old new (λ g kinds c. CallIs s g kinds (mark old) (mark new) c k to)

-- a temp has the pointer to a place
pub record ShowsBase (s : Setting) (k t : ℕ) : Type 0 where
  pub is : (g : Scene) → Suits s g → Places g (tree s k) → IsBase g (tree s k) t

-- the pointer of a target is in a temp
pub record Reached (to : Target) (t : ℕ) (old new : Emitter) : Type 0 where
  pub temp : t ≡ target_temp to (mark old)
  pub marks : mark new ≡ target_mark to (mark old)
  pub added : Added old new (target_code to (mark old))
  pub keeps : Keeps old.kinds.items new.kinds.items

-- the position of a place that is no choice
abbrev pub chooses : Ex → Bool
chooses (Conditional p k c a b) = true
chooses (Aggregate e) = chooses e
chooses (Comma a b) = chooses b
chooses (Copy p bytes unit a b) = chooses a
chooses e = false

-- the tree of a node, if it is a place, is no choice
pub record IsPlain (s : Setting) (k : ℕ) : Type 0 where
  pub is : (g : Scene) → Places g (tree s k) → chooses (tree s k) ≡ false

pub record StandsAt (s : Setting) (k : ℕ) (q : Pos) : Type 0 where
  pub is : (g : Scene) → Places g (tree s k) → chooses (tree s k) ≡ false → position_in (tree s k) ≡ Some q

-- a struct or union is copied to a place whose pointer is in some temp
pub record ShowsSomeStruct (s : Setting) (k : ℕ) (old new : Emitter) : Type 0 where
  pub temp : ℕ
  pub is : ShowsStruct s k temp old new
