-- Statements (C11 6.8) are refused by codes of typing.
use Rattle.std.proofs.Common.{◌≡◌, ℕ, Bool, true, false, List, [], ◌∷◌, Option, refl, sym, ◌∙◌}
use Rattle.std.proofs.Common.{◌⊎◌, ⊎_elim}
use Rattle.std.proofs.lemmas.Bool.{false≢true}
use Rattle.ck_base.specs.declared.positions.Pos.{Pos}
use Rattle.ck_base.specs.Tokens.{Lexeme}
use Rattle.c_tree.specs.declared.syntax.NodeKind.TheVariants as Kinds
use Rattle.c_tree.specs.Syntax.{Syn, Syns, nil, more}
use Rattle.c_tree.specs.Types.{Ty}
use Rattle.c_tree.specs.Readings.{Context, Reading}
use Rattle.c_tree.specs.Statements.{all_items, substatement, test, in_a_loop, in_a_switch, is_absent, is_declaration}
use Rattle.c_tree.specs.Statements.{first_part, optional_test, optional_step, Cases, add_label}
use Rattle.c_tree.specs.Statements.{case_label, labels, place, switch_item, switch_items, no_cases}
use Rattle.c_tree.specs.Statements.{return_of}
use Rattle.c_tree.specs.Statements.{statement_of}
use Rattle.typing_laws.proofs.codes.Stepping.{Coded, Any, give_coded, then_coded, needs, where_coded, in_scope_coded}
use Rattle.typing_laws.proofs.codes.Expressions.{IsOperand, read_coded, assigned_coded, condition_coded}
use Rattle.typing_laws.proofs.codes.Declarators.{constant_coded}

abbrev pub IsItem : Reading → Type 0
IsItem r = (c : Context) → Coded Any (r.item c)

abbrev pub IsLabel : Reading → Type 0
IsLabel r = (of : Ty) → Coded Any (r.label of)

-- a declaration or a statement, or in a switch a label
abbrev pub Stands : Bool → Syn → Reading → Type 0
Stands false x r = (labels x ≡ false) × IsItem r
Stands true x r = ((labels x ≡ false) × IsItem r) ⊎ ((labels x ≡ true) × IsLabel r)

abbrev pub Stand : Bool → Syns → List Reading → Type 0
Stand in_switch nil rs = Unit {0}
Stand in_switch (more x xs) [] = Unit {0}
Stand in_switch (more x xs) (r ∷ rs) = Stands in_switch x r × Stand in_switch xs rs

-- an expression, or none
abbrev pub IsOptional : Syn → Reading → Type 0
IsOptional x r = is_absent x ≡ false → IsOperand r

-- as many parts as there are readings
abbrev pub Matched : Syns → List Reading → Type 0
Matched nil [] = Unit {0}
Matched (more x xs) (r ∷ rs) = Matched xs rs
Matched xs rs = ⊥

pub items_coded : (c : Context) (xs : Syns) (rs : List Reading) → Matched xs rs → Stand false xs rs →
    Coded Any (all_items c rs)
items_coded c nil [] m h = give_coded tt
items_coded c (more x xs) (r ∷ rs) m h =
    then_coded (h.0.1 c) λ a u. then_coded (items_coded c xs rs m h.1) λ b u. give_coded tt
items_coded c nil (r ∷ rs) m h = absurd m
items_coded c (more x xs) [] m h = absurd m

substatement_coded : (c : Context) (r : Reading) → IsItem r → Coded Any (substatement c r)
substatement_coded c r h = then_coded (in_scope_coded (h c)) λ i u. give_coded tt

test_coded : (r : Reading) → IsOperand r → Coded Any (test r)
test_coded r h = then_coded (read_coded r h) λ a u. condition_coded a

-- ---- for

optional_test_coded : (x : Syn) (r : Reading) → IsOptional x r → Coded Any (optional_test x r)
optional_test_coded x r h =
    where_coded (is_absent x) _ _ (λ e. give_coded tt) λ e. then_coded (test_coded r (h e)) λ a u. give_coded tt

optional_step_coded : (x : Syn) (r : Reading) → IsOptional x r → Coded Any (optional_step x r)
optional_step_coded x r h =
    where_coded (is_absent x) _ _ (λ e. give_coded tt) λ e. then_coded (read_coded r (h e)) λ a u. give_coded tt

-- what stands first in a `for`
abbrev pub IsFirst : Syn → Reading → Type 0
IsFirst x r = ((is_declaration x ≡ true) × IsItem r) ⊎ ((is_declaration x ≡ false) × IsOptional x r)

first_coded : (c : Context) (x : Syn) (r : Reading) → IsFirst x r → Coded Any (first_part c x r)
first_coded c x r h =
    where_coded (is_declaration x) _ _
    (λ i. ⊎_elim (λ a. a.1 c) (λ b. absurd (false≢true (sym b.0 ∙ i))) h)
    (λ i. where_coded (is_absent x) _ _ (λ e. give_coded tt) λ e.
    then_coded (read_coded r (⊎_elim (λ a. absurd (false≢true (sym i ∙ a.0))) (λ b. b.1 e) h)) λ a u. give_coded tt)

pub for_coded : (c : Context) (t : Lexeme) (x y z w : Syn) (r q p b : Reading) → IsFirst x r → IsOptional y q →
    IsOptional z p → IsItem b →
    Coded Any (statement_of Kinds.For t (more x (more y (more z (more w nil)))) (r ∷ q ∷ p ∷ b ∷ []) c)
for_coded c t x y z w r q p b h g f e =
    in_scope_coded (then_coded (first_coded c x r h) λ i u. then_coded (optional_test_coded y q g) λ ts u.
    then_coded (optional_step_coded z p f) λ ss u.
    then_coded (substatement_coded (in_a_loop c) b e) λ body u. give_coded tt)

-- ---- switch

pub case_coded : (r : Reading) (of : Ty) → IsOperand r → Coded Any (case_label (r ∷ []) of)
unfolding case_label
case_coded r of h = then_coded (constant_coded r h) λ k u. give_coded tt

pub default_coded : (of : Ty) → Coded Any (case_label [] of)
unfolding case_label
default_coded of = give_coded tt

add_label_coded : (v : Option ℕ) (p : Pos) (cs : Cases) → Coded Any (add_label v p cs)
add_label_coded v p cs = needs _ _ _ refl (give_coded tt)

switch_item_coded : (c : Context) (of : Ty) (x : Syn) (r : Reading) (cs : Cases) → Stands true x r →
    Coded Any (switch_item c of x r cs)
switch_item_coded c of x r cs h =
    where_coded (labels x) _ _
    (λ i. then_coded (⊎_elim (λ a. absurd (false≢true (sym a.0 ∙ i))) (λ b. b.1 of) h) λ v u.
    add_label_coded v (place x) cs)
    (λ i. then_coded (⊎_elim (λ a. a.1 c) (λ b. absurd (false≢true (sym i ∙ b.0))) h) λ i u. give_coded tt)

switch_items_coded : (c : Context) (of : Ty) (xs : Syns) (rs : List Reading) (cs : Cases) → Stand true xs rs →
    Coded Any (switch_items c of xs rs cs)
switch_items_coded c of (more x xs) (r ∷ rs) cs h =
    then_coded (switch_item_coded c of x r cs h.0) λ ds u. switch_items_coded c of xs rs ds h.1
switch_items_coded c of nil rs cs h = give_coded tt
switch_items_coded c of (more x xs) [] cs h = give_coded tt

pub switch_coded : (c : Context) (t : Lexeme) (x : Syn) (xs : Syns) (r : Reading) (rs : List Reading) →
    IsOperand r → Stand true xs rs → Coded Any (statement_of Kinds.Switch t (more x xs) (r ∷ rs) c)
switch_coded c t x xs r rs h g =
    in_scope_coded (then_coded (read_coded r h) λ a u. needs _ _ _ refl
    (then_coded (in_scope_coded (switch_items_coded (in_a_switch c) _ xs rs no_cases g)) λ cs u. give_coded tt))

-- ---- the others

pub expression_coded : (c : Context) (t : Lexeme) (xs : Syns) (r : Reading) → IsOperand r →
    Coded Any (statement_of Kinds.ExpressionStatement t xs (r ∷ []) c)
expression_coded c t xs r h = then_coded (read_coded r h) λ a u. give_coded tt

pub block_coded : (c : Context) (t : Lexeme) (xs : Syns) (rs : List Reading) → Coded Any (all_items c rs) →
    Coded Any (statement_of Kinds.Block t xs rs c)
block_coded c t xs rs h = then_coded (in_scope_coded h) λ i u. give_coded tt

pub if_statement_coded : (c : Context) (t : Lexeme) (xs : Syns) (r q : Reading) → IsOperand r → IsItem q →
    Coded Any (statement_of Kinds.If t xs (r ∷ q ∷ []) c)
if_statement_coded c t xs r q h g =
    in_scope_coded (then_coded (test_coded r h) λ a u. then_coded (substatement_coded c q g) λ x u. give_coded tt)

pub if_else_coded : (c : Context) (t : Lexeme) (xs : Syns) (r q p : Reading) → IsOperand r → IsItem q → IsItem p →
    Coded Any (statement_of Kinds.IfElse t xs (r ∷ q ∷ p ∷ []) c)
if_else_coded c t xs r q p h g f =
    in_scope_coded (then_coded (test_coded r h) λ a u. then_coded (substatement_coded c q g) λ x u.
    then_coded (substatement_coded c p f) λ y u. give_coded tt)

pub while_coded : (c : Context) (t : Lexeme) (xs : Syns) (r q : Reading) → IsOperand r → IsItem q →
    Coded Any (statement_of Kinds.While t xs (r ∷ q ∷ []) c)
while_coded c t xs r q h g =
    in_scope_coded (then_coded (test_coded r h) λ a u. then_coded (substatement_coded (in_a_loop c) q g) λ x u.
    give_coded tt)

pub do_coded : (c : Context) (t : Lexeme) (xs : Syns) (r q : Reading) → IsItem r → IsOperand q →
    Coded Any (statement_of Kinds.Do t xs (r ∷ q ∷ []) c)
do_coded c t xs r q h g =
    in_scope_coded (then_coded (substatement_coded (in_a_loop c) r h) λ x u. then_coded (test_coded q g) λ a u.
    give_coded tt)

pub break_coded : (c : Context) (t : Lexeme) → Coded Any (statement_of Kinds.Break t nil [] c)
break_coded c t = needs _ _ _ refl (give_coded tt)

pub continue_coded : (c : Context) (t : Lexeme) → Coded Any (statement_of Kinds.Continue t nil [] c)
continue_coded c t = needs _ _ _ refl (give_coded tt)

pub return_coded : (c : Context) (t : Lexeme) → Coded Any (return_of c t [])
return_coded c t = needs _ _ _ refl (give_coded tt)

pub return_value_coded : (c : Context) (t : Lexeme) (r : Reading) (rs : List Reading) → IsOperand r →
    Coded Any (return_of c t (r ∷ rs))
return_value_coded c t r rs h =
    then_coded (read_coded r h) λ a u. then_coded (needs _ _ _ refl (assigned_coded c.gives a)) λ x u. give_coded tt
