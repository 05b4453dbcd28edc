-- What is made of an expression, of a statement, and of lists of them.
use Rattle.std.specs.Prelude.{◌≡◌, ℕ, ◌+◌, ◌<◌, true, false, List, [], ◌∷◌, ◌++◌, length, map, Option, Some, None}
use Rattle.std.specs.Prelude.{slice_get, take}
use Rattle.ck_base.specs.declared.positions.Pos.{Pos}
use Rattle.c_tree.specs.declared.typed.Expr.{Expr}
use Rattle.c_tree.specs.declared.typed.ExprKind.{ExprKind}
use Rattle.c_tree.specs.declared.typed.ExprKind.TheVariants as exprs
use Rattle.c_tree.specs.declared.typed.StmtKind.{StmtKind}
use Rattle.c_tree.specs.declared.typed.StmtKind.TheVariants as stmts
use Rattle.c_tree.specs.Types.{Ty, Void, bare}
use Rattle.c_tree.specs.Terms as tree
use Rattle.c_tree.specs.Terms.{Shape, Form, Term, terms, with_term, term, leaf, join, Action, Variable}
use Rattle.c_tree.specs.Views.{types_of, terms_of, term_at, actions_of, action_at, operands, values, parts}
use Rattle.c_tree.specs.Passed.{Names, Passing, by_pointer, passed_shape, passed_form, passed, passed_term}
use Rattle.c_tree.specs.Passed.{passed_action, by_result}
use Rattle.c_copy.specs.Copying.{expr_shape, stmt_form, AllBelow, Extends}
use Rattle.c_copy.specs.Standing.{StandsIn, ActionStandsIn}
use Rattle.passing_steps.specs.Source.{Source}
use Rattle.passing_steps.specs.Made.{Made}
use Rattle.c_passing.specs.Lists.{hidden_for_each, passed_each, passed_each_argument, passed_each_action}
use Rattle.passing_steps.specs.Ordered.{Takes}
use Rattle.passing_steps.specs.Steps.{written_type, Fits, HasTerm, HasTerms, HasAction, HasActions, Hides}

-- ---- what is written

abbrev pub written_term : Source → ℕ → Term
written_term s k = term_at (terms_of s.program.now) k

abbrev pub written_action : Source → ℕ → Action
written_action s k = action_at (actions_of s.program.now) k

-- the one among those before a number, and an empty one for any other number: so a statement names its parts
abbrev pub written_before : Source → ℕ → ℕ → Action
written_before s n k = action_at (take n (actions_of s.program.now)) k

-- ---- numbers that name what is there

-- a variable is one of so many
abbrev pub VarWithin : ℕ → Shape → Type 0
VarWithin n (tree.Var k) = k < n
VarWithin n x = Unit {0}

abbrev pub KindWithin : ℕ → ExprKind → Type 0
KindWithin n (exprs.Var k) = k < n
KindWithin n k = Unit {0}

abbrev pub FormWithin : ℕ → Form → Type 0
FormWithin n (tree.Init k offset) = k < n
FormWithin n (tree.Block vars) = AllBelow n vars
FormWithin n (tree.For vars k a b) = AllBelow n vars
FormWithin n (tree.Switch vars labels) = AllBelow n vars
FormWithin n f = Unit {0}

-- each part of an expression is there, and its variables have new numbers
abbrev pub TermWithin : Source → ℕ → Type 0
TermWithin s k = StandsIn (VarWithin (length s.numbers.now)) s.program.now.exprs k

abbrev pub TermsWithin : Source → List ℕ → Type 0
TermsWithin s ks = (j a : ℕ) → slice_get ks j ≡ Some a → TermWithin s a

-- so are those of a statement
pub record ActionWithin (s : Source) (k : ℕ) : Type 0 where
  pub there : k < length s.program.now.stmts
  pub stands : ActionStandsIn (VarWithin (length s.numbers.now)) (FormWithin (length s.numbers.now))
      s.program.now.exprs s.program.now.stmts k

-- the same of those that stand before a number
abbrev pub ActionsWithin : Source → ℕ → List ℕ → Type 0
ActionsWithin s n ks = (j a : ℕ) → slice_get ks j ≡ Some a → a < n → ActionWithin s a

-- ---- expressions

-- expressions are made, with these hidden locals, and what they are
pub record AddsTerms (s : Source) (old new : Made) (vs : Names → List Variable) (P : Type 0) : Type 0 where
  pub extends : Extends old.exprs.items new.exprs.items
  pub stmts : new.stmts ≡ old.stmts
  pub hides : Hides s old new vs
  pub is : P

-- the same expression with these operands, as it is run
pub record IsKindPassed (s : Source) (old : ExprKind) (xs : List ℕ) (new : ExprKind) : Type 0 where
  pub operands : operands new ≡ xs
  pub shape : (ts : List Ty) (e : Passing) → Fits s ts e →
      expr_shape ts new ≡ passed_shape e (expr_shape (types_of s.program.now.types) old)

-- an expression as it is run, where its first hidden local is the next variable
pub record IsPassed (s : Source) (old new : Made) (x : Term) (j : ℕ) : Type 0 where
  pub is : (ts : List Ty) (e : Passing) → Fits s ts e →
      HasTerm ts new.exprs.items j (passed_term e (length old.vars.items) x)
  pub ordered : Takes s.types.now old new [] [] (j ∷ []) []

pub record ArePassed (s : Source) (old new : Made) (xs : List Term) (js : List ℕ) : Type 0 where
  pub count : length js ≡ length xs
  pub are : (ts : List Ty) (e : Passing) → Fits s ts e →
      HasTerms ts new.exprs.items js (passed_each e (length old.vars.items) xs)
  pub ordered : Takes s.types.now old new [] [] js []

-- a kind of expression as it is run, whose operands are made before it
pub record IsMadeOf (s : Source) (old new : Made) (k d : ExprKind) : Type 0 where
  pub made : ArePassed s old new (map (written_term s) (operands k)) (operands d)
  pub kind : IsKindPassed s k (operands d) d

-- a written call
abbrev pub written_call : Source → Expr → (f : ℕ) → List ℕ → Term
written_call s e f xs = term tree.Call (with_term (written_term s f) (terms (map (written_term s) xs)))
    (written_type s e.of) e.pos

-- a number comes behind those of the hidden locals for the arguments of a call at a place, which begin at another one
pub record AreCounted (s : Source) (first : ℕ) (p : Pos) (xs : List Term) (next : ℕ) : Type 0 where
  pub are : (ts : List Ty) (e : Passing) → Fits s ts e → next ≡ first + length (hidden_for_each e.names p xs)

-- the arguments of a call at a place go behind the others, and their hidden locals begin at a number
pub record ArePassedArguments (s : Source) (old new : Made) (first : ℕ) (p : Pos) (xs : List Term)
    (before after : List ℕ) : Type 0 where
  pub are : (ts : List Ty) (e : Passing) (ys : List Term) → Fits s ts e → HasTerms ts old.exprs.items before ys →
      HasTerms ts new.exprs.items after (ys ++ passed_each_argument e first (length old.vars.items) p xs)
  pub ordered : Takes s.types.now old new before [] after []

-- the hidden local of its result stands for a call
pub record IsByResult (s : Source) (old new : Made) (h called : ℕ) (list : List ℕ) (t : ℕ) (p : Pos) (j : ℕ) :
    Type 0 where
  pub extends : Extends old.exprs.items new.exprs.items
  pub rest : new ≡ record old { exprs = new.exprs }
  pub is : (ts : List Ty) (e : Passing) (f : Term) (ys : List Term) → Fits s ts e →
      HasTerm ts old.exprs.items called f → HasTerms ts old.exprs.items list ys →
      HasTerm ts new.exprs.items j (join tree.Comma (term tree.Call (with_term f (terms ys)) Void p)
      (leaf (tree.Var h) (written_type s t) p) (written_type s t) p)
  pub ordered : Takes s.types.now old new (called ∷ list) [] (j ∷ []) []

-- calls of what stands at a number, whose first own hidden local has a number too: one without a result by a pointer
pub record IsPlainCall (s : Source) (old new : Made) (e : Expr) (called own : ℕ) (xs : List ℕ) (j : ℕ) : Type 0 where
  pub is : (ts : List Ty) (g : Passing) (f : Term) → Fits s ts g → HasTerm ts old.exprs.items called f →
      HasTerm ts new.exprs.items j
      (term tree.Call (with_term f (terms (passed_each_argument g own (length old.vars.items) e.pos
      (map (written_term s) xs)))) (passed (written_type s e.of)) e.pos)
  pub ordered : Takes s.types.now old new (called ∷ []) [] (j ∷ []) []

-- and one with it
pub record IsCallByResult (s : Source) (old new : Made) (e : Expr) (called own hidden t : ℕ) (xs : List ℕ) (j : ℕ) :
    Type 0 where
  pub is : (ts : List Ty) (g : Passing) (f : Term) → Fits s ts g → HasTerm ts old.exprs.items called f →
      HasTerm ts new.exprs.items j (by_result hidden f
      (terms (passed_each_argument g own (length old.vars.items) e.pos (map (written_term s) xs)))
      (written_type s t) e.pos)
  pub ordered : Takes s.types.now old new (called ∷ []) [] (j ∷ []) []

-- ---- statements

-- statements are made with their expressions and these hidden locals, and what they are
pub record AddsActions (s : Source) (old new : Made) (vs : Names → List Variable) (P : Type 0) : Type 0 where
  pub exprs : Extends old.exprs.items new.exprs.items
  pub stmts : Extends old.stmts.items new.stmts.items
  pub hides : Hides s old new vs
  pub is : P

-- the same statement with the new numbers of its variables
pub record IsRenumbered (s : Source) (old new : StmtKind) : Type 0 where
  pub values : values new ≡ values old
  pub parts : parts new ≡ parts old
  pub form : (ts : List Ty) (e : Passing) → Fits s ts e → stmt_form new ≡ passed_form e (stmt_form old)

-- an expression, and its type, if it is given back by a pointer
abbrev pub IsGivenValue : Source → ℕ → Option (ℕ × ℕ) → Type 0
IsGivenValue s a None = by_pointer (tree.type_of (written_term s a)) ≡ false
IsGivenValue s a (Some x) =
    (a ≡ x.0) × (by_pointer (tree.type_of (written_term s a)) ≡ true) ×
    (written_type s x.1 ≡ bare (tree.type_of (written_term s a)))

-- the expression that a statement gives back by a pointer, and its type
abbrev pub IsReturned : Source → StmtKind → Option (ℕ × ℕ) → Type 0
IsReturned s k None = (a : ℕ) → k ≡ stmts.Return (Some a) → by_pointer (tree.type_of (written_term s a)) ≡ false
IsReturned s k (Some x) =
    (k ≡ stmts.Return (Some x.0)) × (by_pointer (tree.type_of (written_term s x.0)) ≡ true) ×
    (written_type s x.1 ≡ bare (tree.type_of (written_term s x.0)))

-- a statement as it is run
pub record IsPassedAction (s : Source) (old new : Made) (x : Action) (j : ℕ) : Type 0 where
  pub is : (ts : List Ty) (e : Passing) → Fits s ts e →
      HasAction ts new.exprs.items new.stmts.items j (passed_action e (length old.vars.items) x)
  pub ordered : Takes s.types.now old new [] [] [] (j ∷ [])

-- statements go behind the others
pub record ArePassedActions (s : Source) (old new : Made) (xs : List Action) (before after : List ℕ) : Type 0 where
  pub count : length after ≡ length before + length xs
  pub are : (ts : List Ty) (e : Passing) (ys : List Action) → Fits s ts e →
      HasActions ts old.exprs.items old.stmts.items before ys →
      HasActions ts new.exprs.items new.stmts.items after (ys ++ passed_each_action e (length old.vars.items) xs)
  pub ordered : Takes s.types.now old new [] before [] after
