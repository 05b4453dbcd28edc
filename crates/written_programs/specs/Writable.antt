-- Programs that can be written as numbered lists: the nodes of their trees have the operands of their shapes, and their
-- types name tags that are there.
use Rattle.std.specs.Prelude.{◌≡◌, ℕ, ◌+◌, ◌<◌, Bool, true, false, List, [], ◌∷◌, ◌++◌, length, map, flat_map, Option}
use Rattle.std.specs.Prelude.{Some, None}
use Rattle.ck_base.specs.declared.positions.Span.{Span}
use Rattle.c_tree.specs.Types.{Ty, Pointer, Array, Tagged, Function, Const, Tys, no_types, also}
use Rattle.c_tree.specs.Terms as tree
use Rattle.c_tree.specs.Terms.{Shape, Term, Terms, term, no_terms, with_term, Form, Action, Actions, action}
use Rattle.c_tree.specs.Terms.{no_actions, with_action, Variable, Object, Routine, Tag, Program}

-- each item of a list has a property
abbrev pub Every : {A : Type 0} → (A → Type 0) → List A → Type 0
Every P [] = Unit {0}
Every P (x ∷ xs) = P x × Every P xs

-- ---- types

-- the structs and unions of a type are among the first n tags
abbrev mutual
  pub TagsBelow : ℕ → Ty → Type 0
  TagsBelow n (Pointer t) = TagsBelow n t
  TagsBelow n (Array t m) = TagsBelow n t
  TagsBelow n (Tagged k) = k < n
  TagsBelow n (Function r ps) = TagsBelow n r × AllTagsBelow n ps
  TagsBelow n (Const t) = TagsBelow n t
  TagsBelow n t = Unit {0}

  pub AllTagsBelow : ℕ → Tys → Type 0
  AllTagsBelow n no_types = Unit {0}
  AllTagsBelow n (also t ts) = TagsBelow n t × AllTagsBelow n ts

-- ---- the types that a program names

abbrev pub shape_types : Shape → List Ty
shape_types (tree.Compound o t) = t ∷ []
shape_types n = []

abbrev mutual
  pub term_types : Term → List Ty
  term_types (term n xs t p) = (t ∷ shape_types n) ++ all_term_types xs

  pub all_term_types : Terms → List Ty
  all_term_types no_terms = []
  all_term_types (with_term x xs) = term_types x ++ all_term_types xs

abbrev mutual
  pub action_types : Action → List Ty
  action_types (action f xs ys p) = all_term_types xs ++ all_action_types ys

  pub all_action_types : Actions → List Ty
  all_action_types no_actions = []
  all_action_types (with_action x xs) = action_types x ++ all_action_types xs

abbrev pub member_types : Option (List (Span × Ty)) → List Ty
member_types None = []
member_types (Some ms) = map (λ (m : Span × Ty). m.1) ms

abbrev pub tag_types : Tag → List Ty
tag_types t = member_types t.members

abbrev pub object_type : Object → Ty
object_type o = o.of

abbrev pub variable_type : Variable → Ty
variable_type v = v.of

abbrev pub routine_types : Routine → List Ty
routine_types f = (f.of ∷ map variable_type f.vars) ++ action_types f.body

abbrev pub program_types : Program → List Ty
program_types q = flat_map tag_types q.tags ++ (map object_type q.objects ++ flat_map routine_types q.routines)

-- ---- nodes

-- a node of an expression has the operands of its shape
abbrev pub HasOperands : Shape → Terms → Type 0
HasOperands (tree.Constant n) no_terms = Unit {0}
HasOperands (tree.Literal k) no_terms = Unit {0}
HasOperands (tree.Var k) no_terms = Unit {0}
HasOperands (tree.Global k) no_terms = Unit {0}
HasOperands (tree.Fun k) no_terms = Unit {0}
HasOperands tree.Load (with_term a no_terms) = Unit {0}
HasOperands tree.Decay (with_term a no_terms) = Unit {0}
HasOperands tree.Deref (with_term a no_terms) = Unit {0}
HasOperands (tree.Member k) (with_term a no_terms) = Unit {0}
HasOperands tree.Address (with_term a no_terms) = Unit {0}
HasOperands tree.Convert (with_term a no_terms) = Unit {0}
HasOperands (tree.Unary o) (with_term a no_terms) = Unit {0}
HasOperands (tree.Step adds in_front) (with_term a no_terms) = Unit {0}
HasOperands (tree.Arithmetic o) (with_term a (with_term b no_terms)) = Unit {0}
HasOperands (tree.Capability o r) (with_term a (with_term b no_terms)) = Unit {0}
HasOperands (tree.Plus minus) (with_term a (with_term b no_terms)) = Unit {0}
HasOperands tree.Difference (with_term a (with_term b no_terms)) = Unit {0}
HasOperands (tree.Compare o) (with_term a (with_term b no_terms)) = Unit {0}
HasOperands tree.And (with_term a (with_term b no_terms)) = Unit {0}
HasOperands tree.Or (with_term a (with_term b no_terms)) = Unit {0}
HasOperands tree.Comma (with_term a (with_term b no_terms)) = Unit {0}
HasOperands tree.Assign (with_term a (with_term b no_terms)) = Unit {0}
HasOperands (tree.Compound o t) (with_term a (with_term b no_terms)) = Unit {0}
HasOperands tree.Conditional (with_term a (with_term b (with_term c no_terms))) = Unit {0}
HasOperands tree.Call (with_term f xs) = Unit {0}
HasOperands (tree.Library k) xs = Unit {0}
HasOperands n xs = ⊥

abbrev mutual
  pub IsWhole : Term → Type 0
  IsWhole (term n xs t p) = HasOperands n xs × AreWhole xs

  pub AreWhole : Terms → Type 0
  AreWhole no_terms = Unit {0}
  AreWhole (with_term x xs) = IsWhole x × AreWhole xs

-- the test and the step of a `for`
abbrev pub HasTests : Bool → Bool → Terms → Type 0
HasTests false false no_terms = Unit {0}
HasTests false true (with_term b no_terms) = Unit {0}
HasTests true false (with_term a no_terms) = Unit {0}
HasTests true true (with_term a (with_term b no_terms)) = Unit {0}
HasTests a b xs = ⊥

-- so many statements and one more
abbrev pub HasMore : ℕ → Actions → Type 0
HasMore n no_actions = ⊥
HasMore n (with_action y no_actions) = n ≡ 0
HasMore n (with_action y ys) = (m : ℕ) × (n ≡ m + 1) × HasMore m ys

-- a statement has the expressions and the statements of its form
abbrev pub HasParts : Form → Terms → Actions → Type 0
HasParts tree.Evaluate (with_term a no_terms) no_actions = Unit {0}
HasParts (tree.Init var offset) (with_term a no_terms) no_actions = Unit {0}
HasParts (tree.Block vars) no_terms ys = Unit {0}
HasParts tree.If (with_term a no_terms) (with_action x no_actions) = Unit {0}
HasParts tree.If (with_term a no_terms) (with_action x (with_action y no_actions)) = Unit {0}
HasParts tree.While (with_term a no_terms) (with_action x no_actions) = Unit {0}
HasParts tree.Do (with_term a no_terms) (with_action x no_actions) = Unit {0}
HasParts (tree.For vars n a b) xs ys = HasTests a b xs × HasMore n ys
HasParts (tree.Switch vars labels) (with_term a no_terms) ys = Unit {0}
HasParts tree.Break no_terms no_actions = Unit {0}
HasParts tree.Continue no_terms no_actions = Unit {0}
HasParts tree.Return no_terms no_actions = Unit {0}
HasParts tree.Return (with_term a no_terms) no_actions = Unit {0}
HasParts tree.Empty no_terms no_actions = Unit {0}
HasParts f xs ys = ⊥

abbrev mutual
  pub IsWholeAction : Action → Type 0
  IsWholeAction (action f xs ys p) = AreWhole xs × HasParts f xs ys × AreWholeActions ys

  pub AreWholeActions : Actions → Type 0
  AreWholeActions no_actions = Unit {0}
  AreWholeActions (with_action x xs) = IsWholeAction x × AreWholeActions xs

-- ---- programs

abbrev pub IsWholeRoutine : Routine → Type 0
IsWholeRoutine f = IsWholeAction f.body

pub record IsWritable (q : Program) : Type 0 where
  pub tags : Every (TagsBelow (length q.tags)) (program_types q)
  pub bodies : Every IsWholeRoutine q.routines
