-- What one step makes of an expression, a statement or a variable.
use Rattle.std.specs.Prelude.{◌≡◌, ℕ, ◌-◌, ◌<◌, true, false, List, [], ◌∷◌, ◌++◌, length, map, Option, Some, None}
use Rattle.std.specs.Prelude.{slice_get}
use Rattle.ck_base.specs.declared.positions.Pos.{Pos}
use Rattle.c_tree.specs.declared.typed.Expr.{Expr}
use Rattle.c_tree.specs.declared.typed.Stmt.{Stmt}
use Rattle.c_tree.specs.Types.{Ty, bare}
use Rattle.c_tree.specs.Terms.{Term, Action, Variable, numbers_from}
use Rattle.c_tree.specs.Views.{term_at, action_at, variable_of}
use Rattle.c_tree.specs.Passed.{Names, Passing, by_pointer, by_address, given_back}
use Rattle.c_copy.specs.Copying.{terms_in, actions_in, AllBelow, Extends}
use Rattle.passing_nodes.specs.declared.nodes.Source.{Source}
use Rattle.passing_nodes.specs.declared.nodes.Made.{Made}
use Rattle.passing_nodes.specs.Numbered.{type_in, TypesFit}
use Rattle.passing_nodes.specs.Named.{name_in}
use Rattle.passing_nodes.specs.Ordered.{TakesIn, Takes, VarsTyped}

abbrev pub written_type : Source → ℕ → Ty
written_type s k = type_in s.program.now.types k

-- the types of the program that is run, the names of calls and the numbers of variables are those that are known
pub record Fits (s : Source) (ts : List Ty) (e : Passing) : Type 0 where
  pub types : TypesFit s.program.now.types s.types.now ts
  pub names : (p : Pos) → e.names p ≡ name_in s.names.now p
  pub numbers : (k v : ℕ) → slice_get s.numbers.now k ≡ Some v → e.number k ≡ v

-- ---- trees that stand in lists

-- an expression of a list, by its number
pub record HasTerm (ts : List Ty) (es : List Expr) (j : ℕ) (x : Term) : Type 0 where
  pub there : j < length es
  pub is : term_at (terms_in ts es) j ≡ x

pub record HasTerms (ts : List Ty) (es : List Expr) (js : List ℕ) (xs : List Term) : Type 0 where
  pub there : AllBelow (length es) js
  pub are : map (term_at (terms_in ts es)) js ≡ xs

-- a statement of a list, over its expressions and whatever stands behind them
pub record HasAction (ts : List Ty) (es : List Expr) (ss : List Stmt) (j : ℕ) (x : Action) : Type 0 where
  pub there : j < length ss
  pub is : (more : List Expr) → action_at (actions_in ts (es ++ more) ss) j ≡ x

pub record HasActions (ts : List Ty) (es : List Expr) (ss : List Stmt) (js : List ℕ) (xs : List Action) : Type 0 where
  pub there : AllBelow (length ss) js
  pub are : (more : List Expr) → map (action_at (actions_in ts (es ++ more) ss)) js ≡ xs

-- ---- hidden locals

-- these hidden locals are added, of types that are there
pub record Hides (s : Source) (old new : Made) (vs : Names → List Variable) : Type 0 where
  pub are : (ts : List Ty) (e : Passing) → Fits s ts e →
      map (variable_of ts) new.vars.items ≡ map (variable_of ts) old.vars.items ++ vs e.names
  pub typed : VarsTyped s.types.now old.vars.items new.vars.items

-- the type of the hidden local for a value of a type, if there is one
abbrev pub IsHidden : Source → ℕ → Option ℕ → Type 0
IsHidden s of None = by_pointer (written_type s of) ≡ false
IsHidden s of (Some t) = (by_pointer (written_type s of) ≡ true) × (written_type s t ≡ bare (written_type s of))

-- ---- expressions

-- an expression is made of nothing, with these types, that does not depend on what is known
pub record Makes (old new : Made) (pointer of : ℕ) (make : List Ty → Term) (j : ℕ) : Type 0 where
  pub extends : Extends old.exprs.items new.exprs.items
  pub rest : new ≡ record old { exprs = new.exprs }
  pub ordered : (n : ℕ) → pointer < n → of < n → TakesIn n old new [] [] (j ∷ []) []
  pub is : (ts : List Ty) → HasTerm ts new.exprs.items j (make ts)

-- an argument that goes by a pointer
pub record IsByAddress (s : Source) (old new : Made) (h value t : ℕ) (p : Pos) (j : ℕ) : Type 0 where
  pub extends : Extends old.exprs.items new.exprs.items
  pub rest : new ≡ record old { exprs = new.exprs }
  pub is : (ts : List Ty) (e : Passing) (y : Term) → Fits s ts e → HasTerm ts old.exprs.items value y →
      HasTerm ts new.exprs.items j (by_address h y (written_type s t) p)
  pub ordered : Takes s.types.now old new (value ∷ []) [] (j ∷ []) []

-- ---- variables and statements

-- the new numbers of variables
pub record AreVariables (s : Source) (ks vs : List ℕ) : Type 0 where
  pub are : (ts : List Ty) (e : Passing) → Fits s ts e → vs ≡ map e.number ks

-- `return` of a value by a pointer
pub record IsGivenBack (s : Source) (old new : Made) (value t : ℕ) (p : Pos) (j : ℕ) : Type 0 where
  pub exprs : Extends old.exprs.items new.exprs.items
  pub stmts : Extends old.stmts.items new.stmts.items
  pub vars : new.vars ≡ old.vars
  pub is : (ts : List Ty) (e : Passing) (y : Term) → Fits s ts e → HasTerm ts old.exprs.items value y →
      HasAction ts new.exprs.items new.stmts.items j (given_back y (written_type s t) p)
  pub ordered : Takes s.types.now old new (value ∷ []) [] [] (j ∷ [])

-- the variables of the outermost block
pub record AreBlockVars (s : Source) (copied : ℕ × ℕ) (ks : List ℕ) (hidden : ℕ × ℕ) (vs : List ℕ) : Type 0 where
  pub are : (ts : List Ty) (e : Passing) → Fits s ts e →
      vs ≡ numbers_from copied.0 (copied.1 - copied.0) ++ map e.number ks ++ numbers_from hidden.0 (hidden.1 - hidden.0)
