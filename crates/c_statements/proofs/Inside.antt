-- The statements that have a scope of their own.
use Rattle.std.proofs.Common.{◌≡◌, Bool, true, false, List, [], ◌∷◌, Result, Ok, Err, refl, ap}
use Rattle.ck_base.specs.Tokens.{Lexeme}
use Rattle.c_tree.specs.declared.syntax.NodeKind.{NodeKind}
use Rattle.c_tree.specs.declared.syntax.NodeKind.TheVariants as Kinds
use Rattle.c_tree.specs.Syntax.{Syn, Syns, node, nil, more, first_token}
use Rattle.c_tree.specs.Types.{Ty, is_integer, promoted}
use Rattle.c_tree.specs.Terms.{Term, actions, Switch}
use Rattle.c_tree.specs.Conversions.{Operand, operand_type, converted_term}
use Rattle.c_tree.specs.Readings as meant
use Rattle.c_tree.specs.Readings.{Reading}
use Rattle.c_tree.specs.Scopes.{State, Doing, Fault, give, need, refuse, leave, in_scope, continued, ◌>>=◌, ◌>>◌}
use Rattle.c_tree.specs.Expressions.{read_value}
use Rattle.c_tree.specs.Statements.{all_items, one_action, one_term, block_action, statement_of, for_of, switch_of}
use Rattle.c_tree.specs.Statements.{first_part, optional_test, optional_step, substatement, in_a_loop, in_a_switch}
use Rattle.c_tree.specs.Statements.{for_action, switch_items, no_cases, does}
use Rattle.c_statements.specs.Statements.{ForHead, SwitchedOn, for_with, switch_with, inside_of, further, evaluated}
use Rattle.c_statements.specs.Statements.{evaluate_one, return_of}
use Rattle.c_tree.specs.Declarations.{declaration}
use Rattle.c_tree.specs.Statements as statements
use Rattle.c_tree.specs.Statements.{switch_item, case_label, add_label}
use Rattle.c_tree.specs.Programs.{reading, readings}
use Rattle.c_statements.proofs.Stating.{scope_then, reading_node}

-- which they are not
abbrev pub IsScoped : NodeKind → Type 0
IsScoped Kinds.Declaration = ⊥
IsScoped Kinds.EmptyStatement = ⊥
IsScoped Kinds.ExpressionStatement = ⊥
IsScoped Kinds.Break = ⊥
IsScoped Kinds.Continue = ⊥
IsScoped Kinds.Return = ⊥
IsScoped k = Unit {0}

-- a step is the same in a scope of its own where it is the same there
within : {A : Type 0} (d e : Doing A) → ((s : State) → d s ≡ e s) → (s : State) → in_scope d s ≡ in_scope e s
within d e h s = ap (λ (o : Result (_ × State) Fault). continued o (λ a. leave >> give a))
    (h (record s { scopes = record { names = []; tags = [] } ∷ s.scopes }))

for_is : (c : meant.Context) (t : Lexeme) (x y z : Syn) (r q p b : Reading) (s : State) →
    for_of c t x y z r q p b s ≡ for_with c t.pos x y z r q p b s
for_is c t x y z r q p b s = first (first_part c x r s)
  where
    third : (i : meant.Items) (ts : List Term) (o : Result (List Term × State) Fault) →
        continued o (λ ss. substatement (in_a_loop c) b >>= λ body. give (one_action (for_action i ts ss body t.pos)))
        ≡ continued (continued o (λ ss. give (let h : ForHead = record { items = i; test = ts; step = ss } in h)))
        (λ h. substatement (in_a_loop c) b
        >>= λ body. give (one_action (for_action h.items h.test h.step body t.pos)))
    third i ts (Ok u) = refl
    third i ts (Err e) = refl

    second : (i : meant.Items) (o : Result (List Term × State) Fault) →
        continued o (λ ts. optional_step z p >>= λ ss. substatement (in_a_loop c) b
        >>= λ body. give (one_action (for_action i ts ss body t.pos)))
        ≡ continued (continued o (λ ts. optional_step z p
        >>= λ ss. give (let h : ForHead = record { items = i; test = ts; step = ss } in h)))
        (λ h. substatement (in_a_loop c) b
        >>= λ body. give (one_action (for_action h.items h.test h.step body t.pos)))
    second i (Ok u) = third i u.0 (optional_step z p u.1)
    second i (Err e) = refl

    first : (o : Result (meant.Items × State) Fault) →
        continued o (λ i. optional_test y q >>= λ ts. optional_step z p >>= λ ss. substatement (in_a_loop c) b
        >>= λ body. give (one_action (for_action i ts ss body t.pos)))
        ≡ continued (continued o (λ i. optional_test y q >>= λ ts. optional_step z p
        >>= λ ss. give (let h : ForHead = record { items = i; test = ts; step = ss } in h)))
        (λ h. substatement (in_a_loop c) b
        >>= λ body. give (one_action (for_action h.items h.test h.step body t.pos)))
    first (Ok u) = second u.0 (optional_test y q u.1)
    first (Err e) = refl

switch_is : (c : meant.Context) (t : Lexeme) (xs : Syns) (r : Reading) (rs : List Reading) (s : State) →
    switch_of c t xs r rs s ≡ switch_with c t.pos xs r rs s
switch_is c t xs r rs s = at (read_value r s)
  where
    tested : (a : Operand) (b : Bool) (s : State) →
        (need b 133 a.first >> (in_scope (switch_items (in_a_switch c) (promoted (operand_type a)) xs rs no_cases)
        >>= λ cases. does (Switch cases.items.vars cases.labels)
        (one_term (converted_term (promoted (operand_type a)) a.is)) (actions cases.items.actions) t.pos)) s
        ≡ continued ((need b 133 a.first
        >> give (let t = promoted (operand_type a) in
        let o : SwitchedOn = record { of = t; value = converted_term t a.is } in o)) s)
        (λ on. in_scope (switch_items (in_a_switch c) on.of xs rs no_cases)
        >>= λ cases. does (Switch cases.items.vars cases.labels) (one_term on.value)
        (actions cases.items.actions) t.pos)
    tested a true s = refl
    tested a false s = refl

    at : (o : Result (Operand × State) Fault) →
        continued o (λ a. need (is_integer (operand_type a)) 133 a.first
        >> (in_scope (switch_items (in_a_switch c) (promoted (operand_type a)) xs rs no_cases)
        >>= λ cases. does (Switch cases.items.vars cases.labels)
        (one_term (converted_term (promoted (operand_type a)) a.is)) (actions cases.items.actions) t.pos))
        ≡ continued (continued o (λ a. need (is_integer (operand_type a)) 133 a.first
        >> give (let t = promoted (operand_type a) in
        let o : SwitchedOn = record { of = t; value = converted_term t a.is } in o)))
        (λ on. in_scope (switch_items (in_a_switch c) on.of xs rs no_cases)
        >>= λ cases. does (Switch cases.items.vars cases.labels) (one_term on.value)
        (actions cases.items.actions) t.pos)
    at (Ok u) = tested u.0 (is_integer (operand_type u.0)) u.1
    at (Err e) = refl

if_is : (t : Lexeme) (xs : Syns) (rs : List Reading) (c : meant.Context) (s : State) →
    statement_of Kinds.If t xs rs c s ≡ in_scope (inside_of Kinds.If t xs rs c) s
if_is t xs [] c s = refl
if_is t xs (r ∷ []) c s = refl
if_is t xs (r ∷ q ∷ []) c s = refl
if_is t xs (r ∷ q ∷ o ∷ rs) c s = refl

if_else_is : (t : Lexeme) (xs : Syns) (rs : List Reading) (c : meant.Context) (s : State) →
    statement_of Kinds.IfElse t xs rs c s ≡ in_scope (inside_of Kinds.IfElse t xs rs c) s
if_else_is t xs [] c s = refl
if_else_is t xs (r ∷ []) c s = refl
if_else_is t xs (r ∷ q ∷ []) c s = refl
if_else_is t xs (r ∷ q ∷ o ∷ []) c s = refl
if_else_is t xs (r ∷ q ∷ o ∷ p ∷ rs) c s = refl

while_is : (t : Lexeme) (xs : Syns) (rs : List Reading) (c : meant.Context) (s : State) →
    statement_of Kinds.While t xs rs c s ≡ in_scope (inside_of Kinds.While t xs rs c) s
while_is t xs [] c s = refl
while_is t xs (r ∷ []) c s = refl
while_is t xs (r ∷ q ∷ []) c s = refl
while_is t xs (r ∷ q ∷ o ∷ rs) c s = refl

do_is : (t : Lexeme) (xs : Syns) (rs : List Reading) (c : meant.Context) (s : State) →
    statement_of Kinds.Do t xs rs c s ≡ in_scope (inside_of Kinds.Do t xs rs c) s
do_is t xs [] c s = refl
do_is t xs (r ∷ []) c s = refl
do_is t xs (r ∷ q ∷ []) c s = refl
do_is t xs (r ∷ q ∷ o ∷ rs) c s = refl

for_loop_is : (t : Lexeme) (xs : Syns) (rs : List Reading) (c : meant.Context) (s : State) →
    statement_of Kinds.For t xs rs c s ≡ in_scope (inside_of Kinds.For t xs rs c) s
for_loop_is t nil rs c s = refl
for_loop_is t (more x nil) rs c s = refl
for_loop_is t (more x (more y nil)) rs c s = refl
for_loop_is t (more x (more y (more z ws))) [] c s = refl
for_loop_is t (more x (more y (more z ws))) (r ∷ []) c s = refl
for_loop_is t (more x (more y (more z ws))) (r ∷ q ∷ []) c s = refl
for_loop_is t (more x (more y (more z ws))) (r ∷ q ∷ p ∷ []) c s = refl
for_loop_is t (more x (more y (more z ws))) (r ∷ q ∷ p ∷ b ∷ []) c s =
    within (for_of c t x y z r q p b) (for_with c t.pos x y z r q p b) (for_is c t x y z r q p b) s
for_loop_is t (more x (more y (more z ws))) (r ∷ q ∷ p ∷ b ∷ o ∷ rs) c s = refl

switch_loop_is : (t : Lexeme) (xs : Syns) (rs : List Reading) (c : meant.Context) (s : State) →
    statement_of Kinds.Switch t xs rs c s ≡ in_scope (inside_of Kinds.Switch t xs rs c) s
switch_loop_is t nil rs c s = refl
switch_loop_is t (more x xs) [] c s = refl
switch_loop_is t (more x xs) (r ∷ rs) c s =
    within (switch_of c t xs r rs) (switch_with c t.pos xs r rs) (switch_is c t xs r rs) s

pub scope_is : (k : NodeKind) (t : Lexeme) (xs : Syns) (rs : List Reading) (c : meant.Context) (s : State) →
    IsScoped k → statement_of k t xs rs c s ≡ in_scope (inside_of k t xs rs c) s
scope_is Kinds.Declaration t xs rs c s h = absurd h
scope_is Kinds.EmptyStatement t xs rs c s h = absurd h
scope_is Kinds.ExpressionStatement t xs rs c s h = absurd h
scope_is Kinds.Break t xs rs c s h = absurd h
scope_is Kinds.Continue t xs rs c s h = absurd h
scope_is Kinds.Return t xs rs c s h = absurd h
scope_is Kinds.Block t xs rs c s h = scope_then (all_items c rs) (λ i. one_action (block_action i t.pos)) s
scope_is Kinds.If t xs rs c s h = if_is t xs rs c s
scope_is Kinds.IfElse t xs rs c s h = if_else_is t xs rs c s
scope_is Kinds.While t xs rs c s h = while_is t xs rs c s
scope_is Kinds.Do t xs rs c s h = do_is t xs rs c s
scope_is Kinds.For t xs rs c s h = for_loop_is t xs rs c s
scope_is Kinds.Switch t xs rs c s h = switch_loop_is t xs rs c s
scope_is k t xs rs c s h = refl

pub is_scoped : (k : NodeKind) → (k ≡ Kinds.Declaration → ⊥) → (k ≡ Kinds.EmptyStatement → ⊥) →
    (k ≡ Kinds.ExpressionStatement → ⊥) → (k ≡ Kinds.Break → ⊥) → (k ≡ Kinds.Continue → ⊥) → (k ≡ Kinds.Return → ⊥) →
    IsScoped k
is_scoped Kinds.Declaration a b c d e f = absurd (a refl)
is_scoped Kinds.EmptyStatement a b c d e f = absurd (b refl)
is_scoped Kinds.ExpressionStatement a b c d e f = absurd (c refl)
is_scoped Kinds.Break a b c d e f = absurd (d refl)
is_scoped Kinds.Continue a b c d e f = absurd (e refl)
is_scoped Kinds.Return a b c d e f = absurd (f refl)
is_scoped k a b c d e f = tt

pub nothing_inside : (k : NodeKind) (t : Lexeme) (xs : Syns) (rs : List Reading) (o : meant.Context) →
    (k ≡ Kinds.Block → ⊥) → (k ≡ Kinds.If → ⊥) → (k ≡ Kinds.IfElse → ⊥) → (k ≡ Kinds.While → ⊥) → (k ≡ Kinds.Do → ⊥) →
    (k ≡ Kinds.For → ⊥) → (k ≡ Kinds.Switch → ⊥) → inside_of k t xs rs o ≡ refuse 120 t.pos
nothing_inside Kinds.Block t xs rs o a b c d e f g = absurd (a refl)
nothing_inside Kinds.If t xs rs o a b c d e f g = absurd (b refl)
nothing_inside Kinds.IfElse t xs rs o a b c d e f g = absurd (c refl)
nothing_inside Kinds.While t xs rs o a b c d e f g = absurd (d refl)
nothing_inside Kinds.Do t xs rs o a b c d e f g = absurd (e refl)
nothing_inside Kinds.For t xs rs o a b c d e f g = absurd (f refl)
nothing_inside Kinds.Switch t xs rs o a b c d e f g = absurd (g refl)
nothing_inside k t xs rs o a b c d e f g = refl

-- ---- the other statements

pub evaluated_is : (t : Lexeme) (xs : Syns) (rs : List Reading) (c : meant.Context) (s : State) →
    statement_of Kinds.ExpressionStatement t xs rs c s ≡ evaluated t.pos rs s
evaluated_is t xs [] c s = refl
evaluated_is t xs (r ∷ []) c s = refl
evaluated_is t xs (r ∷ q ∷ rs) c s = refl

pub returned_is : (t : Lexeme) (xs : Syns) (rs : List Reading) (c : meant.Context) (s : State) →
    statement_of Kinds.Return t xs rs c s ≡ return_of c t.pos rs s
returned_is t xs [] c s = refl
returned_is t xs (r ∷ rs) c s = refl

-- ---- the first part of a for

-- neither a declaration nor nothing
abbrev pub IsExpression : NodeKind → Type 0
IsExpression Kinds.Declaration = ⊥
IsExpression Kinds.Absent = ⊥
IsExpression k = Unit {0}

pub declares_first : (c : meant.Context) (t : Lexeme) (xs : Syns) →
    first_part c (node Kinds.Declaration t xs) (reading (node Kinds.Declaration t xs)) ≡ declaration t.pos (readings xs)
declares_first c t xs = ap (λ (r : Reading). r.item c) (reading_node Kinds.Declaration t xs)

pub evaluates_first : (c : meant.Context) (k : NodeKind) (t : Lexeme) (xs : Syns) (r : Reading) → IsExpression k →
    first_part c (node k t xs) r ≡ evaluate_one r (first_token (node k t xs)).pos
evaluates_first c Kinds.Declaration t xs r h = absurd h
evaluates_first c Kinds.Absent t xs r h = absurd h
evaluates_first c k t xs r h = refl

pub is_expression : (k : NodeKind) → (k ≡ Kinds.Declaration → ⊥) → (k ≡ Kinds.Absent → ⊥) → IsExpression k
is_expression Kinds.Declaration a b = absurd (a refl)
is_expression Kinds.Absent a b = absurd (b refl)
is_expression k a b = tt

-- ---- what stands in the braces of a switch

pub case_item : (o : meant.Context) (of : Ty) (t : Lexeme) (xs : Syns) (cases : statements.Cases) →
    switch_item o of (node Kinds.Case t xs) (reading (node Kinds.Case t xs)) cases
    ≡ (case_label (readings xs) of >>= λ v. add_label v t.pos cases)
case_item o of t xs cases =
    ap (λ (r : Reading). r.label of >>= λ v. add_label v t.pos cases) (reading_node Kinds.Case t xs)

pub default_item : (o : meant.Context) (of : Ty) (t : Lexeme) (xs : Syns) (cases : statements.Cases) →
    switch_item o of (node Kinds.Default t xs) (reading (node Kinds.Default t xs)) cases
    ≡ (case_label (readings xs) of >>= λ v. add_label v t.pos cases)
default_item o of t xs cases =
    ap (λ (r : Reading). r.label of >>= λ v. add_label v t.pos cases) (reading_node Kinds.Default t xs)

pub other_item : (o : meant.Context) (of : Ty) (k : NodeKind) (t : Lexeme) (xs : Syns) (r : Reading)
    (cases : statements.Cases) → (k ≡ Kinds.Case → ⊥) → (k ≡ Kinds.Default → ⊥) →
    switch_item o of (node k t xs) r cases ≡ further o r cases
other_item o of Kinds.Case t xs r cases a b = absurd (a refl)
other_item o of Kinds.Default t xs r cases a b = absurd (b refl)
other_item o of k t xs r cases a b = refl
