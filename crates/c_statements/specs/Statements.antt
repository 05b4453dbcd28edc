-- What is read of the parts of a statement, and what a statement with a scope of its own is in it (C11 6.8).
use Rattle.std.specs.Prelude.{◌≡◌, ℕ, ◌<◌, Bool, not, List, [], ◌∷◌, ◌++◌, map, Option, Some, None}
use Rattle.ck_base.specs.declared.positions.Pos.{Pos}
use Rattle.ck_base.specs.Tokens.{Lexeme}
use Rattle.c_tree.specs.declared.syntax.NodeKind.{NodeKind}
use Rattle.c_tree.specs.declared.syntax.NodeKind.TheVariants as Kinds
use Rattle.c_tree.specs.declared.typed.StmtKind.{StmtKind}
use Rattle.c_tree.specs.declared.typed.StmtKind.TheVariants as stmts
use Rattle.c_tree.specs.Syntax.{Syn, Syns, more}
use Rattle.c_tree.specs.Types.{Ty, is_integer, is_void, promoted}
use Rattle.c_tree.specs.Terms.{Term, type_of, no_terms, actions, no_actions, Form, Evaluate, If, While, Do, Switch}
use Rattle.c_tree.specs.Terms.{Break, Continue, Return}
use Rattle.c_tree.specs.Scopes.{State, Doing, give, refuse, need, in_scope, ◌>>=◌, ◌>>◌}
use Rattle.c_tree.specs.Conversions.{operand_type, converted_term, assigned}
use Rattle.c_tree.specs.Readings as meant
use Rattle.c_tree.specs.Readings.{Reading}
use Rattle.c_tree.specs.Expressions.{read_value}
use Rattle.c_tree.specs.Declarators.{constant}
use Rattle.c_tree.specs.Declarations.{both}
use Rattle.c_tree.specs.Statements as statements
use Rattle.c_tree.specs.Statements.{one_action, one_term, does, all_items, block_action, substatement, test, in_a_loop}
use Rattle.c_tree.specs.Statements.{in_a_switch, for_action, first_part, optional_test, optional_step}
use Rattle.c_tree.specs.Statements.{switch_items, no_cases, case_value, case_label, add_label}
use Rattle.c_tree.specs.Views.{label_of}
use Rattle.c_expressions.specs.declared.nodes.Nodes.{Nodes}
use Rattle.c_expressions.specs.Nodes as nodes
use Rattle.c_expressions.specs.Nodes.{type_in, term_in, type_count, term_count}
use Rattle.c_elaborator.specs.declared.work.Work.{Work}
use Rattle.c_plain_rules.specs.Cases.{Cases}
use Rattle.c_plain_rules.specs.declared.loops.Head.{Head}
use Rattle.c_plain_rules.specs.Control.{labels_in}
use Rattle.c_statements.specs.declared.labels.Controlling.{Controlling}
use Rattle.c_elaborator.specs.Items.{ItemsThere, items_in}
use Rattle.c_statements.specs.Arity.{with_one, with_two, with_three}

-- ---- expressions and jumps

abbrev pub evaluate_one : Reading → Pos → Doing meant.Items
evaluate_one r p = read_value r >>= λ a. does Evaluate (one_term a.is) no_actions p

abbrev pub evaluated : Pos → List Reading → Doing meant.Items
evaluated p rs = with_one (λ r. evaluate_one r p) p rs

abbrev pub IsJump : StmtKind → Type 0
IsJump stmts.Break = Unit {0}
IsJump stmts.Continue = Unit {0}
IsJump k = ⊥

abbrev pub jump_form : StmtKind → Form
jump_form stmts.Continue = Continue
jump_form k = Break

abbrev pub jumping : StmtKind → Bool → Pos → Doing meant.Items
jumping k allowed p = need allowed 133 p >> does (jump_form k) no_terms no_actions p

abbrev pub return_one : meant.Context → Pos → Reading → Doing meant.Items
return_one c p r = read_value r >>= λ a. need (not (is_void c.gives)) 133 p >> assigned c.gives a
    >>= λ x. does Return (one_term x) no_actions p

abbrev pub return_of : meant.Context → Pos → List Reading → Doing meant.Items
return_of c p [] = need (is_void c.gives) 133 p >> does Return no_terms no_actions p
return_of c p (r ∷ rs) = return_one c p r

-- ---- statements in the scope of their own

abbrev pub block_of : meant.Context → Pos → List Reading → Doing meant.Items
block_of c p rs = all_items c rs >>= λ i. give (one_action (block_action i p))

abbrev pub if_with : meant.Context → Pos → Reading → Reading → Doing meant.Items
if_with c p r q = test r >>= λ a. substatement c q >>= λ x. does If (one_term a) (actions x) p

abbrev pub if_of : meant.Context → Pos → List Reading → Doing meant.Items
if_of c p rs = with_two (if_with c p) p rs

abbrev pub if_else_with : meant.Context → Pos → Reading → Reading → Reading → Doing meant.Items
if_else_with c p r q o = test r >>= λ a. substatement c q >>= λ x. substatement c o
    >>= λ y. does If (one_term a) (actions (x ++ y)) p

abbrev pub if_else_of : meant.Context → Pos → List Reading → Doing meant.Items
if_else_of c p rs = with_three (if_else_with c p) p rs

abbrev pub while_with : meant.Context → Pos → Reading → Reading → Doing meant.Items
while_with c p r q = test r >>= λ a. substatement (in_a_loop c) q >>= λ x. does While (one_term a) (actions x) p

abbrev pub while_of : meant.Context → Pos → List Reading → Doing meant.Items
while_of c p rs = with_two (while_with c p) p rs

abbrev pub do_with : meant.Context → Pos → Reading → Reading → Doing meant.Items
do_with c p r q = substatement (in_a_loop c) r >>= λ x. test q >>= λ a. does Do (one_term a) (actions x) p

abbrev pub do_of : meant.Context → Pos → List Reading → Doing meant.Items
do_of c p rs = with_two (do_with c p) p rs

-- ---- for

-- what stands in the parentheses of a `for`
pub record ForHead : Type 0 where
  pub items : meant.Items
  pub test : List Term
  pub step : List Term

abbrev pub for_head : meant.Context → Syn → Syn → Syn → Reading → Reading → Reading → Doing ForHead
for_head c x y z r q p = first_part c x r >>= λ i. optional_test y q >>= λ ts. optional_step z p
    >>= λ ss. give (record { items = i; test = ts; step = ss })

abbrev pub maybe_term : Work → Option ℕ → List Term
maybe_term w None = []
maybe_term w (Some k) = term_in w.nodes k ∷ []

abbrev pub MaybeThere : Work → Option ℕ → Type 0
MaybeThere w None = Unit {0}
MaybeThere w (Some k) = k < term_count w.nodes

abbrev pub IsMaybe : Work → Option ℕ → State → List Term → Type 0
IsMaybe w o s xs = xs ≡ maybe_term w o

abbrev pub HeadThere : Work → Head → Type 0
HeadThere w h = ItemsThere w h.items × MaybeThere w h.test × MaybeThere w h.step

abbrev pub head_in : Work → Head → ForHead
head_in w h = record { items = items_in w h.items; test = maybe_term w h.test; step = maybe_term w h.step }

abbrev pub IsHead : Work → Head → State → ForHead → Type 0
IsHead w h s x = x ≡ head_in w h

abbrev pub for_with : meant.Context → Pos → Syn → Syn → Syn → Reading → Reading → Reading → Reading → Doing meant.Items
for_with c p x y z r q o b =
    for_head c x y z r q o >>= λ h. substatement (in_a_loop c) b
    >>= λ body. give (one_action (for_action h.items h.test h.step body p))

abbrev pub for_in : meant.Context → Pos → Syns → List Reading → Doing meant.Items
for_in c p (more x (more y (more z ws))) (r ∷ q ∷ o ∷ b ∷ []) = for_with c p x y z r q o b
for_in c p xs rs = refuse 120 p

-- ---- switch

-- what a `switch` is on
pub record SwitchedOn : Type 0 where
  pub of : Ty
  pub value : Term

abbrev pub switched : Reading → Doing SwitchedOn
switched r =
    read_value r >>= λ a. need (is_integer (operand_type a)) 133 a.first >>
    give (record { of = promoted (operand_type a); value = converted_term (promoted (operand_type a)) a.is })

abbrev pub SwitchedThere : Work → Controlling → Type 0
SwitchedThere w x = (x.of < type_count w.nodes) × (x.value < term_count w.nodes)

abbrev pub switched_on : Work → Controlling → SwitchedOn
switched_on w x = record { of = type_in w.nodes x.of; value = term_in w.nodes x.value }

abbrev pub IsSwitched : Work → Controlling → State → SwitchedOn → Type 0
IsSwitched w x s a = a ≡ switched_on w x

-- an expression as an integer in its promoted type
pub record IsPromoted (old new : Nodes) (node : ℕ) (x : Controlling) : Type 0 where
  pub keeps : nodes.Keeps old new
  pub of : nodes.IsType new x.of (promoted (type_of (term_in old node)))
  pub value : nodes.IsTerm new x.value (converted_term (promoted (type_of (term_in old node))) (term_in old node))

abbrev pub CasesThere : Work → Cases → Type 0
CasesThere w x = ItemsThere w x.items

abbrev pub cases_in : Work → Cases → statements.Cases
cases_in w x = record { items = items_in w x.items; labels = map label_of (labels_in x) }

abbrev pub IsCases : Work → Cases → State → statements.Cases → Type 0
IsCases w x s a = a ≡ cases_in w x

abbrev pub LabelThere : Work → Option ℕ → Type 0
LabelThere w v = Unit {0}

abbrev pub IsLabel : Work → Option ℕ → State → Option ℕ → Type 0
IsLabel w v s a = a ≡ v

abbrev pub switch_with : meant.Context → Pos → Syns → Reading → List Reading → Doing meant.Items
switch_with c p xs r rs =
    switched r >>= λ on. in_scope (switch_items (in_a_switch c) on.of xs rs no_cases) >>= λ cases.
    does (Switch cases.items.vars cases.labels) (one_term on.value) (actions cases.items.actions) p

abbrev pub switch_in : meant.Context → Pos → Syns → List Reading → Doing meant.Items
switch_in c p (more x xs) (r ∷ rs) = switch_with c p xs r rs
switch_in c p xs rs = refuse 120 p

-- the value of a `case`
abbrev pub case_of : Ty → Reading → Doing (Option ℕ)
case_of of r = constant r >>= λ k. give (Some (case_value of k))

-- a declaration or a statement behind the others
abbrev pub further : meant.Context → Reading → statements.Cases → Doing statements.Cases
further c r cases = r.item c >>= λ i. give (record cases { items = both cases.items i })

-- a label, which is added behind the others
abbrev pub labelling : List Reading → Ty → Pos → statements.Cases → Doing statements.Cases
labelling rs of p cases = case_label rs of >>= λ v. add_label v p cases

-- ---- the statements that have a scope of their own, in that scope (6.8p3)

abbrev pub inside_of : NodeKind → Lexeme → Syns → List Reading → meant.Context → Doing meant.Items
inside_of Kinds.Block t xs rs c = block_of c t.pos rs
inside_of Kinds.If t xs rs c = if_of c t.pos rs
inside_of Kinds.IfElse t xs rs c = if_else_of c t.pos rs
inside_of Kinds.While t xs rs c = while_of c t.pos rs
inside_of Kinds.Do t xs rs c = do_of c t.pos rs
inside_of Kinds.For t xs rs c = for_in c t.pos xs rs
inside_of Kinds.Switch t xs rs c = switch_in c t.pos xs rs
inside_of k t xs rs c = refuse 120 t.pos
