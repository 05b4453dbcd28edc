-- What a part of the syntax gives, and the expressions among them (C11 6.5).
use Rattle.std.proofs.Common.{ℕ, ℤ, Bool, true, false, List, [], ◌∷◌, Option, Some, None, ◌≡◌}
use Rattle.ck_base.specs.Tokens.{Lexeme}
use Rattle.ck_base.specs.declared.positions.Pos.{Pos}
use Rattle.ck_int.specs.declared.kinds.IntOp.{IntOp}
use Rattle.c_tree.specs.Conversions.{operand_type}
use Rattle.c_tree.specs.Expressions.{read_value, read_values, called, prefixed, assignment, selected, expression_of}
use Rattle.c_tree.specs.Expressions.{called_library, called_name}
use Rattle.c_tree.specs.Readings.{Specified, Slot, Filled, Items, Param, Prototype, Wrap, Gives, Derived, Reading}
use Rattle.c_tree.specs.Scopes.{Part, Doing}
use Rattle.c_tree.specs.Syntax.{Syn, Syns, node, nil, more}
use Rattle.c_tree.specs.Terms.{actions}
use Rattle.c_tree.specs.Types.{Ty}
use Rattle.c_tree.specs.declared.syntax.NodeKind.{NodeKind}
use Rattle.c_tree.specs.declared.syntax.NodeKind.TheVariants as Kinds
use Rattle.c_tree.specs.declared.syntax.PrefixOperator.{PrefixOperator}
use Rattle.c_tree.specs.declared.syntax.PrefixOperator.TheVariants as prefixes
use Rattle.c_tree.specs.declared.syntax.Selection.{Selection}
use Rattle.c_tree.specs.declared.syntax.Selection.TheVariants.{Direct, Indirect}
use Rattle.typing_laws.proofs.values.Sorts.{is_stored}
use Rattle.typing_laws.proofs.values.Made.{TermWorth, ActionsMade, InitsMade}
use Rattle.typing_laws.proofs.values.Stepping.{Keeps, Any, give_keeps, refuse_goes, goes_then, going}
use Rattle.typing_laws.proofs.values.Expressions.{Made, Worth, AllWorth, value_keeps, named_keeps, text_keeps}
use Rattle.typing_laws.proofs.values.Expressions.{unary_keeps}
use Rattle.typing_laws.proofs.values.Expressions.{infix_keeps, conditional_keeps, assign_keeps, compound_keeps}
use Rattle.typing_laws.proofs.values.Expressions.{stepped_keeps}
use Rattle.typing_laws.proofs.values.Expressions.{address_keeps, dereference_keeps, index_keeps, member_keeps}
use Rattle.typing_laws.proofs.values.Expressions.{member_behind_keeps, cast_keeps, sized_keeps, unevaluated_keeps}
use Rattle.typing_laws.proofs.values.Expressions.{call_keeps}
use Rattle.typing_laws.proofs.values.Expressions.{library_keeps}

-- ---- what the parts give

abbrev pub SlotsMade : List Slot → Type 0
SlotsMade [] = Unit {0}
SlotsMade (x ∷ xs) = TermWorth x.value × SlotsMade xs

abbrev pub FilledMade : Filled → Type 0
FilledMade f = SlotsMade f.slots

abbrev pub ItemsMade : Items → Type 0
ItemsMade i = ActionsMade (actions i.actions)

-- those of declarations
abbrev pub ItemsBegin : Items → Type 0
ItemsBegin i = InitsMade i.actions

-- parameters of no array and no function type, as they are adjusted
abbrev pub ParamMade : Param → Type 0
ParamMade p = is_stored p.of ≡ false

abbrev pub ParamsMade : List Param → Type 0
ParamsMade [] = Unit {0}
ParamsMade (p ∷ ps) = ParamMade p × ParamsMade ps

abbrev pub PrototypeMade : Prototype → Type 0
PrototypeMade p = ParamsMade p.params

abbrev pub WrapMade : Wrap → Type 0
WrapMade (Gives p) = PrototypeMade p
WrapMade w = Unit {0}

abbrev pub WrapsMade : List Wrap → Type 0
WrapsMade [] = Unit {0}
WrapsMade (w ∷ ws) = WrapMade w × WrapsMade ws

abbrev pub DerivedMade : Derived → Type 0
DerivedMade d = WrapsMade d.wraps

-- ---- a part of the syntax

pub record Reads (r : Reading) : Type 0 where
  pub operand : Keeps Made r.operand
  pub type : (alone : Bool) → Keeps Any (r.type alone)
  pub specified : (alone : Bool) → Keeps Any (r.specified alone)
  pub derived : Keeps DerivedMade r.derived
  pub prototype : Keeps PrototypeMade r.prototype
  pub parameter : (only : Bool) → Keeps ParamMade (r.parameter only)
  pub members : (ms : List Part) → Keeps Any (r.members ms)
  pub enumerator : (z : ℤ) → Keeps Any (r.enumerator z)
  pub initializer : (asked : Slot → Doing Unit) (p : Pos) (t : Ty) (n : ℕ) → ((x : Slot) → Keeps Any (asked x)) →
      Keeps FilledMade (r.initializer asked p t n)
  pub declared : (s : Specified) → Keeps ItemsBegin (r.declared s)
  pub label : (t : Ty) → Keeps Any (r.label t)

abbrev pub AllReads : List Reading → Type 0
AllReads [] = Unit {0}
AllReads (r ∷ rs) = Reads r × AllReads rs

-- ---- expressions

pub read_keeps : (r : Reading) → Reads r → Keeps Worth (read_value r)
read_keeps r h = goes_then h.operand λ a i. value_keeps a i

reads_keep : (rs : List Reading) → AllReads rs → Keeps AllWorth (read_values rs)
reads_keep [] h = give_keeps tt
reads_keep (r ∷ rs) h =
    goes_then (read_keeps r h.0) λ x i. goes_then (reads_keep rs h.1) λ xs j. give_keeps (i, j)

called_keeps : (o : Option ℕ) (x : Syn) (t : Lexeme) (r : Reading) (rs : List Reading) → Reads r → AllReads rs →
    Keeps Made (called o x t r rs)
called_keeps (Some k) x t r rs h g = goes_then (reads_keep rs g) λ xs i. library_keeps _ k xs t.pos _ i
called_keeps None x t r rs h g =
    goes_then (read_keeps r h) λ f i. goes_then (reads_keep rs g) λ xs j. call_keeps f xs t.pos i j

prefixed_keeps : (o : PrefixOperator) (t : Lexeme) (r : Reading) → Reads r → Keeps Made (prefixed o t r)
prefixed_keeps (prefixes.Step o) t r h = goes_then h.operand λ a i. stepped_keeps o true a t.pos t.pos i
prefixed_keeps prefixes.Address t r h = goes_then h.operand λ a i. address_keeps a t.pos i
prefixed_keeps prefixes.Indirection t r h = goes_then (read_keeps r h) λ a i. dereference_keeps a t.pos t.pos i
prefixed_keeps (prefixes.Unary o) t r h = goes_then (read_keeps r h) λ a i. unary_keeps o a t.pos i

assignment_keeps : (o : Option IntOp) (t : Lexeme) (r q : Reading) → Reads r → Reads q →
    Keeps Made (assignment o t r q)
assignment_keeps None t r q h g =
    goes_then h.operand λ a i. goes_then (read_keeps q g) λ b j. assign_keeps a b t.pos i j
assignment_keeps (Some o) t r q h g =
    goes_then h.operand λ a i. goes_then (read_keeps q g) λ b j. compound_keeps o a b t.pos i j

selected_keeps : (o : Selection) (t name : Lexeme) (r : Reading) → Reads r →
    Keeps Made (selected o t name r)
selected_keeps Direct t name r h = goes_then h.operand λ a i. member_keeps a name.text t.pos i
selected_keeps Indirect t name r h = goes_then (read_keeps r h) λ a i. member_behind_keeps a name.text t.pos i

pub expression_keeps : (k : NodeKind) (t : Lexeme) (xs : Syns) (rs : List Reading) → AllReads rs →
    Keeps Made (expression_of k t xs rs)
expression_keeps Kinds.Name t xs rs h = named_keeps t
expression_keeps Kinds.Number t xs rs h = give_keeps (tt, tt)
expression_keeps Kinds.Character t xs rs h = give_keeps (tt, tt)
expression_keeps Kinds.Text t xs rs h = text_keeps t xs
expression_keeps Kinds.Parenthesized t xs (r ∷ []) h = goes_then h.0.operand λ a i. give_keeps i
expression_keeps Kinds.Index t xs (r ∷ q ∷ []) h =
    goes_then (read_keeps r h.0) λ a i. goes_then (read_keeps q h.1.0) λ b j. index_keeps a b t.pos i j
expression_keeps Kinds.Call t (more x xs) (r ∷ rs) h =
    going λ s at. (called_keeps (called_library s (called_name x)) x t r rs h.0 h.1).run s at
expression_keeps (Kinds.Select o) t (more x (more (node k name ys) nil)) (r ∷ rs) h = selected_keeps o t name r h.0
expression_keeps (Kinds.Postfix o) t xs (r ∷ []) h =
    goes_then h.0.operand λ a i. stepped_keeps o false a t.pos a.first i
expression_keeps (Kinds.Prefix o) t xs (r ∷ []) h = prefixed_keeps o t r h.0
expression_keeps Kinds.SizeofExpression t xs (r ∷ []) h =
    goes_then (unevaluated_keeps h.0.operand) λ a i. sized_keeps (operand_type a) t.pos
expression_keeps Kinds.SizeofType t xs (r ∷ []) h =
    goes_then (unevaluated_keeps (h.0.type false)) λ of i. sized_keeps of t.pos
expression_keeps Kinds.Cast t xs (r ∷ q ∷ []) h =
    goes_then (h.0.type false) λ of u. goes_then (read_keeps q h.1.0) λ a i. cast_keeps of a t.pos i
expression_keeps (Kinds.Infix o) t xs (r ∷ q ∷ []) h =
    goes_then (read_keeps r h.0) λ a i. goes_then (read_keeps q h.1.0) λ b j. infix_keeps o a b t.pos i j
expression_keeps Kinds.Conditional t xs (r ∷ q ∷ p ∷ []) h =
    goes_then (read_keeps r h.0) λ a i. goes_then (read_keeps q h.1.0) λ b j.
    goes_then (read_keeps p h.1.1.0) λ c l. conditional_keeps a b c t.pos i j l
expression_keeps (Kinds.Assignment o) t xs (r ∷ q ∷ []) h = assignment_keeps o t r q h.0 h.1.0
expression_keeps k t xs rs h = refuse_goes
