-- The typing of statements (C11 6.8).
use Rattle.std.specs.Prelude.{ℕ, Bool, true, false, not, ◌||◌, ◌==◌, if◌then◌else◌, List, [], ◌∷◌, ◌++◌, length, Option}
use Rattle.std.specs.Prelude.{Some, None}
use Rattle.ck_base.specs.declared.positions.Pos.{Pos}
use Rattle.ck_base.specs.Tokens.{Lexeme}
use Rattle.ck_int.specs.Kinds.{wrapped}
use Rattle.c_tree.specs.declared.syntax.NodeKind.{NodeKind}
use Rattle.c_tree.specs.declared.syntax.NodeKind.TheVariants as Kinds
use Rattle.c_tree.specs.Syntax.{Syn, Syns, node, more, first_token}
use Rattle.c_tree.specs.Types.{Ty, is_integer, is_void, promoted}
use Rattle.c_tree.specs.Terms.{Label, Term, Terms, no_terms, with_term, Form, Evaluate, Block, If, While, Do, For}
use Rattle.c_tree.specs.Terms.{Switch, Break, Continue, Return, Empty, Action, Actions, action, no_actions, actions}
use Rattle.c_tree.specs.Scopes.{Doing, give, refuse, need, ◌>>=◌, ◌>>◌, in_scope}
use Rattle.c_tree.specs.Constants.{kind_of}
use Rattle.c_tree.specs.Conversions.{operand_type, converted_term, assigned}
use Rattle.c_tree.specs.Readings.{Context, Items, Reading}
use Rattle.c_tree.specs.Expressions.{read_value, condition}
use Rattle.c_tree.specs.Declarators.{Constant, constant}
use Rattle.c_tree.specs.Declarations.{no_items, both, declaration}

abbrev pub one_action : Action → Items
one_action a = record { vars = []; actions = a ∷ [] }

abbrev pub does : Form → Terms → Actions → Pos → Doing Items
does f xs ys p = give (one_action (action f xs ys p))

abbrev pub one_term : Term → Terms
one_term x = with_term x no_terms

-- declarations and statements, one after the other
abbrev pub all_items : Context → List Reading → Doing Items
all_items c [] = give no_items
all_items c (r ∷ rs) = r.item c >>= λ a. all_items c rs >>= λ b. give (both a b)

-- 6.8.2
abbrev pub block_action : Items → Pos → Action
block_action i p = action (Block i.vars) no_terms (actions i.actions) p

-- a statement that is a part of another is a block of its own (6.8.4p3, 6.8.5p5)
abbrev pub substatement : Context → Reading → Doing (List Action)
substatement c r = in_scope (r.item c) >>= λ i. give i.actions

abbrev pub test : Reading → Doing Term
test r = read_value r >>= condition

abbrev pub in_a_loop : Context → Context
in_a_loop c = record c { in_loop = true; breakable = true }

abbrev pub in_a_switch : Context → Context
in_a_switch c = record c { breakable = true }

-- ---- for (6.8.5.3)

abbrev pub is_absent : Syn → Bool
is_absent (node Kinds.Absent t xs) = true
is_absent x = false

abbrev pub is_declaration : Syn → Bool
is_declaration (node Kinds.Declaration t xs) = true
is_declaration x = false

-- a declaration, an expression as a statement, or nothing
abbrev pub first_part : Context → Syn → Reading → Doing Items
first_part c x r =
    (if is_declaration x then r.item c
    else (if is_absent x then give no_items
    else read_value r >>= λ a. does Evaluate (one_term a.is) no_actions (first_token x).pos))

abbrev pub optional_test : Syn → Reading → Doing (List Term)
optional_test x r = (if is_absent x then give [] else test r >>= λ a. give (a ∷ []))

abbrev pub optional_step : Syn → Reading → Doing (List Term)
optional_step x r = (if is_absent x then give [] else read_value r >>= λ a. give (a.is ∷ []))

abbrev pub has_one : List Term → Bool
has_one [] = false
has_one (x ∷ xs) = true

abbrev pub list_terms : List Term → Terms
list_terms [] = no_terms
list_terms (x ∷ xs) = with_term x (list_terms xs)

abbrev pub for_action : Items → List Term → List Term → List Action → Pos → Action
for_action i ts ss body p =
    action (For i.vars (length i.actions) (has_one ts) (has_one ss)) (list_terms (ts ++ ss))
    (actions (i.actions ++ body)) p

abbrev pub for_of : Context → Lexeme → Syn → Syn → Syn → Reading → Reading → Reading → Reading → Doing Items
for_of c t x y z r q p b =
    first_part c x r >>= λ i. optional_test y q >>= λ ts. optional_step z p >>= λ ss. substatement (in_a_loop c) b
    >>= λ body.
    give (one_action (for_action i ts ss body t.pos))

-- ---- switch (6.8.4.2)

-- what stands in the braces so far: the variables and the statements, and the labels
pub record Cases : Type 0 where
  pub items : Items
  pub labels : List Label

abbrev pub same_value : Option ℕ → Option ℕ → Bool
same_value None None = true
same_value (Some a) (Some b) = a == b
same_value a b = false

abbrev pub has_label : Option ℕ → List Label → Bool
has_label v [] = false
has_label v (l ∷ ls) = same_value v l.value || has_label v ls

-- no two labels are alike
abbrev pub add_label : Option ℕ → Pos → Cases → Doing Cases
add_label v p c =
    need (not (has_label v c.labels)) 131 p >>
    give (record c { labels = c.labels ++ record { value = v; before = length c.items.actions } ∷ [] })

-- the value of a `case`, converted to the promoted type of what the switch is on
abbrev pub case_value : Ty → Constant → ℕ
case_value of k = wrapped (kind_of of) k.number

-- the labels of a switch
unfoldable pub case_label : List Reading → Ty → Doing (Option ℕ)
case_label [] of = give None
case_label (r ∷ rs) of = constant r >>= λ k. give (Some (case_value of k))

abbrev pub labels : Syn → Bool
labels (node Kinds.Case t xs) = true
labels (node Kinds.Default t xs) = true
labels x = false

abbrev pub place : Syn → Pos
place (node k t xs) = t.pos

abbrev pub switch_item : Context → Ty → Syn → Reading → Cases → Doing Cases
switch_item c of x r cases =
    (if labels x then (r.label of >>= λ v. add_label v (place x) cases)
    else r.item c >>= λ i. give (record cases { items = both cases.items i }))

abbrev pub switch_items : Context → Ty → Syns → List Reading → Cases → Doing Cases
switch_items c of (more x xs) (r ∷ rs) cases = switch_item c of x r cases >>= λ next. switch_items c of xs rs next
switch_items c of xs rs cases = give cases

abbrev pub no_cases : Cases
no_cases = record { items = no_items; labels = [] }

-- what it is on is an integer, promoted; its braces are a scope
abbrev pub switch_of : Context → Lexeme → Syns → Reading → List Reading → Doing Items
switch_of c t xs r rs =
    read_value r >>= λ a.
    need (is_integer (operand_type a)) 133 a.first >>
    let of = promoted (operand_type a) in
    in_scope (switch_items (in_a_switch c) of xs rs no_cases) >>= λ cases.
    does (Switch cases.items.vars cases.labels) (one_term (converted_term of a.is)) (actions cases.items.actions) t.pos

-- ---- return (6.8.6.4)

-- a value exactly where the function gives one
abbrev pub return_of : Context → Lexeme → List Reading → Doing Items
return_of c t [] = need (is_void c.gives) 133 t.pos >> does Return no_terms no_actions t.pos
return_of c t (r ∷ rs) =
    read_value r >>= λ a. need (not (is_void c.gives)) 133 t.pos >> assigned c.gives a
    >>= λ x. does Return (one_term x) no_actions t.pos

-- ---- all of them

abbrev pub statement_of : NodeKind → Lexeme → Syns → List Reading → Context → Doing Items
statement_of Kinds.Declaration t xs rs c = declaration t.pos rs
statement_of Kinds.Block t xs rs c = in_scope (all_items c rs) >>= λ i. give (one_action (block_action i t.pos))
statement_of Kinds.EmptyStatement t xs rs c = does Empty no_terms no_actions t.pos
statement_of Kinds.ExpressionStatement t xs (r ∷ []) c =
    read_value r >>= λ a. does Evaluate (one_term a.is) no_actions t.pos
statement_of Kinds.If t xs (r ∷ q ∷ []) c =
    in_scope (test r >>= λ a. substatement c q >>= λ x. does If (one_term a) (actions x) t.pos)
statement_of Kinds.IfElse t xs (r ∷ q ∷ p ∷ []) c =
    in_scope (test r >>= λ a. substatement c q >>= λ x. substatement c p
    >>= λ y. does If (one_term a) (actions (x ++ y)) t.pos)
statement_of Kinds.While t xs (r ∷ q ∷ []) c =
    in_scope (test r >>= λ a. substatement (in_a_loop c) q >>= λ x. does While (one_term a) (actions x) t.pos)
statement_of Kinds.Do t xs (r ∷ q ∷ []) c =
    in_scope (substatement (in_a_loop c) r >>= λ x. test q >>= λ a. does Do (one_term a) (actions x) t.pos)
statement_of Kinds.For t (more x (more y (more z ws))) (r ∷ q ∷ p ∷ b ∷ []) c = in_scope (for_of c t x y z r q p b)
statement_of Kinds.Switch t (more x xs) (r ∷ rs) c = in_scope (switch_of c t xs r rs)
statement_of Kinds.Break t xs rs c = need c.breakable 133 t.pos >> does Break no_terms no_actions t.pos
statement_of Kinds.Continue t xs rs c = need c.in_loop 133 t.pos >> does Continue no_terms no_actions t.pos
statement_of Kinds.Return t xs rs c = return_of c t rs
statement_of k t xs rs c = refuse 120 t.pos
