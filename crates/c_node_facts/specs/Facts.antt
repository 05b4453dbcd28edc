-- What the rules ask of an expression beside its type and its place.
use Rattle.std.specs.Prelude.{◌≡◌, ℕ, Bool, true, false, Option, Some, None}
use Rattle.c_tree.specs.Types as types
use Rattle.c_tree.specs.Types.{Ty, bare, is_integer}
use Rattle.c_tree.specs.Terms as tree
use Rattle.c_tree.specs.Terms.{Shape, Term, term}
use Rattle.c_tree.specs.Constants.{kind_of, is_constant, value_of, is_null_constant, is_pointer_to_void}
use Rattle.c_tree.specs.Conversions.{is_place, is_member}
use Rattle.c_tree.specs.Expressions.{from_plain}
use Rattle.c_node_facts.specs.declared.facts.Fact.{Fact}
use Rattle.c_node_facts.specs.declared.facts.Evaluation.{Evaluation}
use Rattle.c_node_facts.specs.declared.facts.Conversion.{Conversion}
use Rattle.c_node_facts.specs.declared.facts.Leaf.{Leaf}
use Rattle.c_node_facts.specs.declared.facts.Leaf.TheVariants as leaves
use Rattle.c_node_facts.specs.declared.facts.Step.{Step}
use Rattle.c_node_facts.specs.declared.facts.Step.TheVariants as steps
use Rattle.c_node_facts.specs.declared.facts.Join.{Join}
use Rattle.c_node_facts.specs.declared.facts.Join.TheVariants as joins

-- the local that an expression names
abbrev pub local_of : Term → Option ℕ
local_of (term (tree.Var k) xs t p) = Some k
local_of x = None

abbrev pub fact_of : Term → Fact
fact_of x = record {
  place = is_place x;
  member = is_member x;
  local = local_of x;
  plain = from_plain x;
  constant = is_constant x;
  value = value_of x;
  null = is_null_constant x;
}

-- what a type is to constant expressions
abbrev pub evaluation_of : Ty → Evaluation
evaluation_of t = record { kind = kind_of (bare t); integer = is_integer (bare t) }

-- ---- what a node is

abbrev pub leaf_shape : Leaf → Shape
leaf_shape (leaves.Constant n) = tree.Constant n
leaf_shape (leaves.Literal k) = tree.Literal k
leaf_shape (leaves.Var k) = tree.Var k
leaf_shape (leaves.Global k) = tree.Global k
leaf_shape (leaves.Fun k) = tree.Fun k

abbrev pub step_shape : Step → Shape
step_shape steps.Load = tree.Load
step_shape steps.Decay = tree.Decay
step_shape steps.Deref = tree.Deref
step_shape (steps.Member k) = tree.Member k
step_shape steps.Address = tree.Address
step_shape (steps.Unary o) = tree.Unary o
step_shape (steps.Move adds in_front) = tree.Step adds in_front

-- a number is that of a type
abbrev pub join_shape : (ℕ → Ty) → Join → Shape
join_shape go (joins.Int o) = tree.Arithmetic o
join_shape go (joins.Capability o r) = tree.Capability o r
join_shape go (joins.Plus m) = tree.Plus m
join_shape go joins.Difference = tree.Difference
join_shape go (joins.Compare o) = tree.Compare o
join_shape go joins.And = tree.And
join_shape go joins.Or = tree.Or
join_shape go joins.Comma = tree.Comma
join_shape go joins.Assign = tree.Assign
join_shape go (joins.Compound o of) = tree.Compound o (go of)

-- ---- the types of a conversion

abbrev pub is_plain : Ty → Bool
is_plain (types.Int k n) = true
is_plain t = false

abbrev pub is_cap : Ty → Bool
is_cap (types.Cap s) = true
is_cap t = false

pub record IsConversion (c : Conversion) (source target : Ty) : Type 0 where
  pub to : evaluation_of target ≡ c.to
  pub from : evaluation_of source ≡ c.from
  pub to_capability : is_cap target ≡ c.to_capability
  pub to_void_pointer : is_pointer_to_void target ≡ c.to_void_pointer
  pub from_plain : is_plain (bare source) ≡ c.from_plain
  pub from_capability : is_cap (bare source) ≡ c.from_capability
