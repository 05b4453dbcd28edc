-- How what was made names what was made before it.
use Rattle.std.specs.Prelude.{◌≡◌, ℕ, ◌+◌, ◌<◌, List, ◌++◌, length, flat_map, Some, slice_get, slice_index}
use Rattle.c_tree.specs.declared.typed.Expr.{Expr}
use Rattle.c_tree.specs.declared.typed.Stmt.{Stmt}
use Rattle.c_tree.specs.declared.typed.VarDef.{VarDef}
use Rattle.c_tree.specs.Views.{operands, values, parts, times_in}
use Rattle.c_copy.specs.Copying.{AllBelow}
use Rattle.c_copy.specs.Order.{PartsBefore}
use Rattle.passing_nodes.specs.declared.types.Types.{Types}
use Rattle.passing_nodes.specs.declared.nodes.Made.{Made}

abbrev pub operand_uses : List Expr → ℕ → ℕ
operand_uses es k = times_in k (flat_map (λ (e : Expr). operands e.kind) es)

abbrev pub value_uses : List Stmt → ℕ → ℕ
value_uses ss k = times_in k (flat_map (λ (s : Stmt). values s.kind) ss)

abbrev pub part_uses : List Stmt → ℕ → ℕ
part_uses ss k = times_in k (flat_map (λ (s : Stmt). parts s.kind) ss)

-- The types of expressions are among so many, and each number names what stands before it. Each expression and each
-- statement is named once, there or by one of these numbers
pub record Ordered (n : ℕ) (es : List Expr) (ss : List Stmt) (us vs : List ℕ) : Type 0 where
  pub typed : (k : ℕ) (e : Expr) → slice_get es k ≡ Some e → e.of < n
  pub operands : (k j a : ℕ) (e : Expr) → slice_get es k ≡ Some e → slice_get (operands e.kind) j ≡ Some a → a < k
  pub values : (k j a : ℕ) (s : Stmt) → slice_get ss k ≡ Some s → slice_get (values s.kind) j ≡ Some a → a < length es
  pub parts : PartsBefore ss
  pub exprs_there : AllBelow (length es) us
  pub stmts_there : AllBelow (length ss) vs
  pub exprs_once : (k : ℕ) → k < length es → operand_uses es k + value_uses ss k + times_in k us ≡ 1
  pub stmts_once : (k : ℕ) → k < length ss → part_uses ss k + times_in k vs ≡ 1

-- the first numbers are named by what is made, and the others are yet to be named
abbrev pub TakesIn : ℕ → Made → Made → (xs ys js ks : List ℕ) → Type 0
TakesIn n old new xs ys js ks =
    (us vs : List ℕ) → Ordered n old.exprs.items old.stmts.items (xs ++ us) (ys ++ vs) →
    Ordered n new.exprs.items new.stmts.items (js ++ us) (ks ++ vs)

-- these numbers name what is among so many
abbrev pub AreThere : ℕ → List ℕ → Type 0
AreThere n ks = (k m : ℕ) → slice_index ks k ≡ m → m < n

abbrev pub VarsThere : ℕ → List VarDef → Type 0
VarsThere n vs = (k : ℕ) (v : VarDef) → slice_get vs k ≡ Some v → v.of < n

-- the numbers of what stands for types are in the list of types
pub record TypesThere (t : Types) : Type 0 where
  pub void : 0 < length t.list.items
  pub numbers : AreThere (length t.list.items) t.numbers.items
  pub pointers : AreThere (length t.list.items) t.pointers.items

-- the same with these types
abbrev pub Takes : Types → Made → Made → (xs ys js ks : List ℕ) → Type 0
Takes t old new xs ys js ks = TypesThere t → TakesIn (length t.list.items) old new xs ys js ks

-- variables have these types, as others have
abbrev pub VarsTyped : Types → List VarDef → List VarDef → Type 0
VarsTyped t vs us = TypesThere t → VarsThere (length t.list.items) vs → VarsThere (length t.list.items) us
