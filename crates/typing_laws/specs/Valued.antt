-- Where a value stands and where a place (C11 6.3.2.1), in a program as it is run.
use Rattle.std.specs.Prelude.{◌≡◌, ℕ, suc, ◌<◌, ◌≤◌, ◌⊎◌, ◌||◌, Bool, true, false, List, [], ◌∷◌, length, Some}
use Rattle.std.specs.Prelude.{slice_get}
use Rattle.c_tree.specs.declared.typed.FunDef.{FunDef}
use Rattle.c_tree.specs.declared.typed.Typed.{Typed}
use Rattle.c_tree.specs.Layout.{size_limit}
use Rattle.c_tree.specs.Types.{Ty, Array, adjusted, char, is_integer, is_scalar, is_tagged, is_void, promoted}
use Rattle.c_tree.specs.Terms as tree
use Rattle.c_tree.specs.Terms.{Shape, Term, Terms, term, no_terms, with_term, type_of, Label, Form, Action, Actions}
use Rattle.c_tree.specs.Terms.{action, no_actions, with_action}
use Rattle.c_tree.specs.Expressions.{is_shift}
use Rattle.c_tree.specs.Statements.{has_label}
use Rattle.c_tree.specs.Views.{actions_of, action_at}
use Rattle.c_tree.specs.WellTyped.{type_in}
use Rattle.c_tree.specs.declared.typed.VarDef.{VarDef}

-- whether a node's first operand is a place: what is read, written or pointed to (6.3.2.1p2 to p4, 6.5.3.2, 6.5.16)
abbrev pub asks_place : Shape → Bool
asks_place tree.Load = true
asks_place tree.Decay = true
asks_place tree.Address = true
asks_place (tree.Step adds in_front) = true
asks_place tree.Assign = true
asks_place (tree.Compound o t) = true
asks_place x = false

-- no structs or unions
abbrev pub AreDirect : Terms → Type 0
AreDirect no_terms = Unit {0}
AreDirect (with_term x xs) = (is_tagged (type_of x) ≡ false) × AreDirect xs

abbrev pub AreScalars : Terms → Type 0
AreScalars no_terms = Unit {0}
AreScalars (with_term x xs) = (is_scalar (type_of x) ≡ true) × AreScalars xs

-- void or a scalar
abbrev pub is_plain : Ty → Bool
is_plain t = is_void t || is_scalar t

-- a type in which integers are computed is one that the promotions leave as it is (6.3.1.1p2)
abbrev pub IsComputed : Ty → Type 0
IsComputed t = is_integer t ≡ true → promoted t ≡ t

-- Which nodes give values. A struct or union stands for the object that it is taken from, and a call takes scalars and
-- gives one or nothing (6.5.2.2). What an operation on capability integers gives derives from its right operand in no
-- shift (6.5.7). A compound assignment to an integer is computed in a promoted type (6.5.16.2)
abbrev pub GivesValue : Shape → Terms → Ty → Type 0
GivesValue (tree.Literal k) xs t = ⊥
GivesValue (tree.Var k) xs t = is_tagged t ≡ true
GivesValue (tree.Global k) xs t = ⊥
GivesValue (tree.Fun k) xs t = ⊥
GivesValue tree.Deref xs t = ⊥
GivesValue (tree.Member k) xs t = ⊥
GivesValue tree.Call xs t = (is_plain t ≡ true) × AreScalars xs
GivesValue (tree.Library k) xs t = is_plain t ≡ true
GivesValue (tree.Capability o from_right) xs t = from_right ≡ true → is_shift o ≡ false
GivesValue (tree.Compound o of) xs t = IsComputed of
GivesValue x xs t = Unit {0}

-- a literal is no larger than an object may be
abbrev pub IsText : Ty → Type 0
IsText t = (n : ℕ) × (t ≡ Array char n) × (n ≤ size_limit)

abbrev mutual
  pub IsValue : Term → Type 0
  IsValue (term x xs t p) = GivesValue x xs t × AreAsked (asks_place x) xs

  -- a name, a literal, what a pointer points to, and a member of a place or of a struct or union (6.5.1, 6.5.2.3,
  -- 6.5.3.2)
  pub IsPlace : Term → Type 0
  IsPlace (term (tree.Literal k) xs t p) = IsText t
  IsPlace (term (tree.Var k) xs t p) = Unit {0}
  IsPlace (term (tree.Global k) xs t p) = Unit {0}
  IsPlace (term (tree.Fun k) xs t p) = Unit {0}
  IsPlace (term tree.Deref xs t p) = AreAsked false xs
  IsPlace (term (tree.Member k) (with_term a no_terms) t p) = IsPlace a ⊎ IsValue a
  IsPlace x = ⊥

  -- values, but for the first where it is to be a place
  pub AreAsked : (first_is_place : Bool) → Terms → Type 0
  AreAsked b no_terms = Unit {0}
  AreAsked true (with_term x xs) = IsPlace x × AreAsked false xs
  AreAsked false (with_term x xs) = IsValue x × AreAsked false xs

-- no two labels of a `switch` are alike (6.8.4.2p3)
abbrev pub AreOnce : List Label → Type 0
AreOnce [] = Unit {0}
AreOnce (l ∷ ls) = (has_label l.value ls ≡ false) × AreOnce ls

-- what may begin a `for`: initialisations and expressions (6.8.5p3)
abbrev pub Begins : Action → Type 0
Begins (action tree.Evaluate xs ys p) = Unit {0}
Begins (action (tree.Init k offset) xs ys p) = Unit {0}
Begins x = ⊥

abbrev pub FirstBegin : ℕ → Actions → Type 0
FirstBegin (suc n) (with_action x rest) = Begins x × FirstBegin n rest
FirstBegin n ys = Unit {0}

-- no function gives a struct or union, labels differ, and a `for` begins so
abbrev pub FormValued : Form → Terms → Actions → Type 0
FormValued tree.Return xs ys = AreDirect xs
FormValued (tree.Switch vars ls) xs ys = AreOnce ls
FormValued (tree.For vars n a b) xs ys = FirstBegin n ys
FormValued x xs ys = Unit {0}

-- the expressions of a statement are values (6.8)
abbrev mutual
  pub ActionValued : Action → Type 0
  ActionValued (action x xs ys p) = FormValued x xs ys × AreAsked false xs × ActionsValued ys

  pub ActionsValued : Actions → Type 0
  ActionsValued no_actions = Unit {0}
  ActionsValued (with_action x xs) = ActionValued x × ActionsValued xs

-- a parameter is of no array and no function type, as its type is adjusted (6.7.6.3p7, p8)
abbrev pub AreAdjusted : Typed → FunDef → Type 0
AreAdjusted p f = (k : ℕ) (v : VarDef) → k < length f.params → slice_get f.vars k ≡ Some v →
    adjusted (type_in p v.of) ≡ type_in p v.of

abbrev pub ParametersFit : Typed → Type 0
ParametersFit p = (n : ℕ) (f : FunDef) → slice_get p.funs n ≡ Some f → AreAdjusted p f

-- each function's body
abbrev pub AreValues : Typed → Type 0
AreValues p = (k : ℕ) (f : FunDef) → slice_get p.funs k ≡ Some f → ActionValued (action_at (actions_of p) f.body)
