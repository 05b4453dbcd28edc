-- What a part of the syntax keeps in scope, and the expressions among them (C11 6.5).
use Rattle.std.proofs.Common.{ℕ, ℤ, Bool, true, false, List, [], ◌∷◌, ◌++◌, length, Option, Some, None}
use Rattle.ck_base.specs.declared.positions.Pos.{Pos}
use Rattle.ck_base.specs.Tokens.{Lexeme}
use Rattle.ck_int.specs.declared.kinds.IntOp.{IntOp}
use Rattle.c_tree.specs.declared.syntax.NodeKind.{NodeKind}
use Rattle.c_tree.specs.declared.syntax.NodeKind.TheVariants as Kinds
use Rattle.c_tree.specs.declared.syntax.PrefixOperator.{PrefixOperator}
use Rattle.c_tree.specs.declared.syntax.PrefixOperator.TheVariants as prefixes
use Rattle.c_tree.specs.declared.syntax.Selection.{Selection}
use Rattle.c_tree.specs.declared.syntax.Selection.TheVariants.{Direct, Indirect}
use Rattle.c_tree.specs.Syntax.{Syn, Syns, node, nil, more}
use Rattle.c_tree.specs.Types.{Ty}
use Rattle.c_tree.specs.Terms.{actions, numbers_from}
use Rattle.c_tree.specs.Scopes.{Part, Doing}
use Rattle.c_tree.specs.Conversions.{operand_type}
use Rattle.c_tree.specs.Readings.{Specified, Prototype, Wrap, Gives, Derived, Slot, Filled, Items}
use Rattle.c_tree.specs.Readings.{Reading}
use Rattle.c_tree.specs.Expressions.{read_value, read_values, called, prefixed, assignment, selected, expression_of}
use Rattle.c_tree.specs.Expressions.{called_library, called_name}
use Rattle.typing_laws.proofs.Facts.{AllNames}
use Rattle.typing_laws.specs.Scoping.{TermScoped, ActionsScoped}
use Rattle.typing_laws.proofs.scopes.Stepping.{EntityOpen, Goes, Keeps, Any, give_keeps, refuse_goes, goes_then, going}
use Rattle.typing_laws.proofs.scopes.Expressions.{Scoped, AllScoped, value_keeps, named_keeps, text_keeps, unary_keeps}
use Rattle.typing_laws.proofs.scopes.Expressions.{infix_keeps, conditional_keeps, assign_keeps, compound_keeps}
use Rattle.typing_laws.proofs.scopes.Expressions.{stepped_keeps}
use Rattle.typing_laws.proofs.scopes.Expressions.{address_keeps, dereference_keeps, index_keeps, member_keeps}
use Rattle.typing_laws.proofs.scopes.Expressions.{member_behind_keeps, cast_keeps, sized_keeps, unevaluated_keeps}
use Rattle.typing_laws.proofs.scopes.Expressions.{call_keeps}
use Rattle.typing_laws.proofs.scopes.Expressions.{library_keeps}

-- ---- what the parts give

-- the names of a prototype's scope denote its parameters, or what was in scope
abbrev pub PrototypeOpen : List ℕ → Prototype → Type 0
PrototypeOpen js p = AllNames (EntityOpen (numbers_from 0 (length p.params) ++ js)) p.scope.names

abbrev pub WrapsOpen : List ℕ → List Wrap → Type 0
WrapsOpen js [] = Unit {0}
WrapsOpen js (Gives p ∷ ws) = PrototypeOpen js p × WrapsOpen js ws
WrapsOpen js (w ∷ ws) = WrapsOpen js ws

abbrev pub DerivedOpen : List ℕ → Derived → Type 0
DerivedOpen js d = WrapsOpen js d.wraps

abbrev pub SlotsScoped : List ℕ → List Slot → Type 0
SlotsScoped js [] = Unit {0}
SlotsScoped js (x ∷ xs) = TermScoped js x.value × SlotsScoped js xs

abbrev pub FilledScoped : List ℕ → Filled → Type 0
FilledScoped js f = SlotsScoped js f.slots

-- the variables in scope behind a declaration or a statement, whose statements name them
abbrev pub with_vars : List ℕ → Items → List ℕ
with_vars js i = i.vars ++ js

abbrev pub ItemsScoped : List ℕ → Items → Type 0
ItemsScoped js i = ActionsScoped (i.vars ++ js) (actions i.actions)

-- items, where these variables are in scope before
abbrev pub Itemed : List ℕ → Doing Items → Type 0
Itemed js d = Goes js (with_vars js) (ItemsScoped js) d

-- ---- a part of the syntax

pub record Reads (r : Reading) : Type 0 where
  pub operand : (js : List ℕ) → Keeps js (Scoped js) r.operand
  pub type : (js : List ℕ) (alone : Bool) → Keeps js Any (r.type alone)
  pub specified : (js : List ℕ) (alone : Bool) → Keeps js Any (r.specified alone)
  pub derived : (js : List ℕ) → Keeps js (DerivedOpen js) r.derived
  pub prototype : (js : List ℕ) → Keeps js (PrototypeOpen js) r.prototype
  pub parameter : (js : List ℕ) (only : Bool) → Keeps js Any (r.parameter only)
  pub members : (js : List ℕ) (ms : List Part) → Keeps js Any (r.members ms)
  pub enumerator : (js : List ℕ) (z : ℤ) → Keeps js Any (r.enumerator z)
  pub initializer : (js : List ℕ) (asked : Slot → Doing Unit) (p : Pos) (t : Ty) (n : ℕ) →
      ((x : Slot) → Keeps js Any (asked x)) → Keeps js (FilledScoped js) (r.initializer asked p t n)
  pub declared : (js : List ℕ) (s : Specified) → Itemed js (r.declared s)
  pub label : (js : List ℕ) (t : Ty) → Keeps js Any (r.label t)

abbrev pub AllReads : List Reading → Type 0
AllReads [] = Unit {0}
AllReads (r ∷ rs) = Reads r × AllReads rs

-- ---- expressions

module _ (js : List ℕ) where
  pub read_keeps : (r : Reading) → Reads r → Keeps js (Scoped js) (read_value r)
  read_keeps r h = goes_then (h.operand js) λ a i. value_keeps js a i

  reads_keep : (rs : List Reading) → AllReads rs → Keeps js (AllScoped js) (read_values rs)
  reads_keep [] h = give_keeps tt
  reads_keep (r ∷ rs) h =
      goes_then (read_keeps r h.0) λ x i. goes_then (reads_keep rs h.1) λ xs j. give_keeps (i, j)

  called_keeps : (o : Option ℕ) (x : Syn) (t : Lexeme) (r : Reading) (rs : List Reading) → Reads r → AllReads rs →
      Keeps js (Scoped js) (called o x t r rs)
  called_keeps (Some k) x t r rs h g = goes_then (reads_keep rs g) λ xs i. library_keeps js _ k xs t.pos _ i
  called_keeps None x t r rs h g =
      goes_then (read_keeps r h) λ f i. goes_then (reads_keep rs g) λ xs j. call_keeps js f xs t.pos i j

  prefixed_keeps : (o : PrefixOperator) (t : Lexeme) (r : Reading) → Reads r → Keeps js (Scoped js) (prefixed o t r)
  prefixed_keeps (prefixes.Step o) t r h = goes_then (h.operand js) λ a i. stepped_keeps js o true a t.pos t.pos i
  prefixed_keeps prefixes.Address t r h = goes_then (h.operand js) λ a i. address_keeps js a t.pos i
  prefixed_keeps prefixes.Indirection t r h = goes_then (read_keeps r h) λ a i. dereference_keeps js a t.pos t.pos i
  prefixed_keeps (prefixes.Unary o) t r h = goes_then (read_keeps r h) λ a i. unary_keeps js o a t.pos i

  assignment_keeps : (o : Option IntOp) (t : Lexeme) (r q : Reading) → Reads r → Reads q →
      Keeps js (Scoped js) (assignment o t r q)
  assignment_keeps None t r q h g =
      goes_then (h.operand js) λ a i. goes_then (read_keeps q g) λ b j. assign_keeps js a b t.pos i j
  assignment_keeps (Some o) t r q h g =
      goes_then (h.operand js) λ a i. goes_then (read_keeps q g) λ b j. compound_keeps js o a b t.pos i j

  selected_keeps : (o : Selection) (t name : Lexeme) (r : Reading) → Reads r →
      Keeps js (Scoped js) (selected o t name r)
  selected_keeps Direct t name r h = goes_then (h.operand js) λ a i. member_keeps js a name.text t.pos i
  selected_keeps Indirect t name r h = goes_then (read_keeps r h) λ a i. member_behind_keeps js a name.text t.pos i

  pub expression_keeps : (k : NodeKind) (t : Lexeme) (xs : Syns) (rs : List Reading) → AllReads rs →
      Keeps js (Scoped js) (expression_of k t xs rs)
  expression_keeps Kinds.Name t xs rs h = named_keeps js t
  expression_keeps Kinds.Number t xs rs h = give_keeps (tt, tt)
  expression_keeps Kinds.Character t xs rs h = give_keeps (tt, tt)
  expression_keeps Kinds.Text t xs rs h = text_keeps js t xs
  expression_keeps Kinds.Parenthesized t xs (r ∷ []) h = goes_then (h.0.operand js) λ a i. give_keeps i
  expression_keeps Kinds.Index t xs (r ∷ q ∷ []) h =
      goes_then (read_keeps r h.0) λ a i. goes_then (read_keeps q h.1.0) λ b j. index_keeps js a b t.pos i j
  expression_keeps Kinds.Call t (more x xs) (r ∷ rs) h =
      going λ b s at. (called_keeps (called_library s (called_name x)) x t r rs h.0 h.1).run b s at
  expression_keeps (Kinds.Select o) t (more x (more (node k name ys) nil)) (r ∷ rs) h = selected_keeps o t name r h.0
  expression_keeps (Kinds.Postfix o) t xs (r ∷ []) h =
      goes_then (h.0.operand js) λ a i. stepped_keeps js o false a t.pos a.first i
  expression_keeps (Kinds.Prefix o) t xs (r ∷ []) h = prefixed_keeps o t r h.0
  expression_keeps Kinds.SizeofExpression t xs (r ∷ []) h =
      goes_then (unevaluated_keeps js (h.0.operand js)) λ a i. sized_keeps js (operand_type a) t.pos
  expression_keeps Kinds.SizeofType t xs (r ∷ []) h =
      goes_then (unevaluated_keeps js (h.0.type js false)) λ of i. sized_keeps js of t.pos
  expression_keeps Kinds.Cast t xs (r ∷ q ∷ []) h =
      goes_then (h.0.type js false) λ of u. goes_then (read_keeps q h.1.0) λ a i. cast_keeps js of a t.pos i
  expression_keeps (Kinds.Infix o) t xs (r ∷ q ∷ []) h =
      goes_then (read_keeps r h.0) λ a i. goes_then (read_keeps q h.1.0) λ b j. infix_keeps js o a b t.pos i j
  expression_keeps Kinds.Conditional t xs (r ∷ q ∷ p ∷ []) h =
      goes_then (read_keeps r h.0) λ a i. goes_then (read_keeps q h.1.0) λ b j.
      goes_then (read_keeps p h.1.1.0) λ c l. conditional_keeps js a b c t.pos i j l
  expression_keeps (Kinds.Assignment o) t xs (r ∷ q ∷ []) h = assignment_keeps o t r q h.0 h.1.0
  expression_keeps k t xs rs h = refuse_goes
