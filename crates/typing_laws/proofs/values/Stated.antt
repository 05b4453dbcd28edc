-- Statements as typing makes them (C11 6.8).
use Rattle.std.proofs.Common.{◌≡◌, ℕ, Bool, true, false, List, [], ◌∷◌, ◌++◌, Option, Some, None, refl, sym, ap, ◌∙◌}
use Rattle.std.specs.Prelude.{not, ◌||◌}
use Rattle.std.proofs.lemmas.Bool.{false≢true, ne_eqb, eqb-false, or_parts}
use Rattle.ck_base.specs.Tokens.{Lexeme}
use Rattle.c_tree.specs.Programs.{reading_of, reading, readings}
use Rattle.c_tree.specs.Readings.{Context, Reading}
use Rattle.c_tree.specs.Statements.{all_items, substatement, test, in_a_loop, in_a_switch, is_absent, is_declaration}
use Rattle.c_tree.specs.Statements.{first_part, optional_test, optional_step, list_terms, for_of, Cases, same_value}
use Rattle.c_tree.specs.Statements.{has_label, case_label, labels, switch_item, switch_items, no_cases, switch_of}
use Rattle.c_tree.specs.Statements.{return_of, statement_of}
use Rattle.c_tree.specs.Syntax.{Syn, Syns, node, nil, more}
use Rattle.c_tree.specs.Terms.{Label, Term, actions}
use Rattle.c_tree.specs.Types.{Ty}
use Rattle.c_tree.specs.declared.syntax.NodeKind.{NodeKind}
use Rattle.c_tree.specs.declared.syntax.NodeKind.TheVariants as Kinds
use Rattle.typing_laws.specs.Valued.{AreOnce}
use Rattle.typing_laws.proofs.values.Made.{TermWorth, TermsMade, ActionsMade, inits_are, inits_begin, actions_append}
use Rattle.typing_laws.proofs.values.Made.{converted_made}
use Rattle.typing_laws.proofs.values.Stepping.{if_known, less, need_true, Keeps, Any, give_keeps, refuse_goes}
use Rattle.typing_laws.proofs.values.Stepping.{goes_then}
use Rattle.typing_laws.proofs.values.Stepping.{goes_next, need_keeps, if_goes, in_scope_keeps}
use Rattle.typing_laws.proofs.values.Expressions.{assigned_keeps, condition_keeps}
use Rattle.typing_laws.proofs.values.Readings.{ItemsMade, ItemsBegin, Reads, AllReads, read_keeps, expression_keeps}
use Rattle.typing_laws.proofs.values.Declarators.{constant_keeps, specifiers_keep, kind_keeps, declarator_keeps}
use Rattle.typing_laws.proofs.values.Declarators.{prototype_keeps}
use Rattle.typing_laws.proofs.values.Declarators.{parameter_of_keeps, member_of_keeps, enumerator_keeps}
use Rattle.typing_laws.proofs.values.Declared.{initializer_keeps, init_declarator_goes, both_made, declaration_goes}

-- what a part keeps as a statement or declaration
pub record Stated (r : Reading) : Type 0 where
  pub reads : Reads r
  pub item : (c : Context) → Keeps ItemsMade (r.item c)
  pub body : (c : Context) → Keeps ItemsMade (r.body c)

abbrev pub AllStated : List Reading → Type 0
AllStated [] = Unit {0}
AllStated (r ∷ rs) = Stated r × AllStated rs

pub all_read : (rs : List Reading) → AllStated rs → AllReads rs
all_read [] h = tt
all_read (r ∷ rs) h = (h.0.reads, all_read rs h.1)

-- ---- statements

list_append : (xs ys : List Term) → TermsMade false (list_terms xs) → TermsMade false (list_terms ys) →
    TermsMade false (list_terms (xs ++ ys))
list_append [] ys h k = k
list_append (x ∷ xs) ys h k = (h.0, list_append xs ys h.1 k)

substatement_keeps : (c : Context) (r : Reading) → Stated r →
    Keeps (λ xs. ActionsMade (actions xs)) (substatement c r)
substatement_keeps c r h = goes_then (in_scope_keeps (h.item c)) λ i g. give_keeps g

test_keeps : (r : Reading) → Reads r → Keeps TermWorth (test r)
test_keeps r h = goes_then (read_keeps r h) λ a i. condition_keeps a i

optional_test_keeps : (x : Syn) (r : Reading) → Reads r →
    Keeps (λ ts. TermsMade false (list_terms ts)) (optional_test x r)
optional_test_keeps x r h =
    if_goes (is_absent x) _ _ (give_keeps tt) (goes_then (test_keeps r h) λ a i. give_keeps (i, tt))

optional_step_keeps : (x : Syn) (r : Reading) → Reads r →
    Keeps (λ ts. TermsMade false (list_terms ts)) (optional_step x r)
optional_step_keeps x r h =
    if_goes (is_absent x) _ _ (give_keeps tt) (goes_then (read_keeps r h) λ a i. give_keeps (i, tt))

-- a declaration does nothing but initialise
abbrev Declares : Syn → Reading → Type 0
Declares x r = is_declaration x ≡ true → (c : Context) → Keeps ItemsBegin (r.item c)

abbrev FirstDeclares : Syns → List Reading → Type 0
FirstDeclares (more x xs) (r ∷ rs) = Declares x r
FirstDeclares xs rs = Unit {0}

first_goes : (c : Context) (x : Syn) (r : Reading) → Stated r → Declares x r → Keeps ItemsBegin (first_part c x r)
first_goes c x r h d =
    if_known (is_declaration x) _ _ (λ e. d e c)
    (if_goes (is_absent x) _ _ (give_keeps tt)
    (goes_then (read_keeps r h.reads) λ a i. give_keeps ((tt, (tt, (i, tt), tt)), tt)))

all_items_goes : (c : Context) (rs : List Reading) → AllStated rs → Keeps ItemsMade (all_items c rs)
all_items_goes c [] h = give_keeps tt
all_items_goes c (r ∷ rs) h =
    goes_then (h.0.item c) λ a i. goes_then (all_items_goes c rs h.1) λ b j. give_keeps (both_made a b i j)

for_goes : (c : Context) (t : Lexeme) (x y z : Syn) (r q p b : Reading) → Stated r → Declares x r → Reads q →
    Reads p → Stated b →
    Keeps ItemsMade (for_of c t x y z r q p b)
for_goes c t x y z r q p b h d g f l =
    goes_then (first_goes c x r h d) λ i o. goes_then (optional_test_keeps y q g) λ ts u.
    goes_then (optional_step_keeps z p f) λ ss v. goes_then (substatement_keeps (in_a_loop c) b l) λ body w.
    give_keeps (
      (
        inits_begin i.actions body o,
        list_append ts ss u v,
        actions_append i.actions body (inits_are i.actions o) w,
      ),
      tt,
    )

-- ---- switch

same_sym : (v w : Option ℕ) → same_value v w ≡ false → same_value w v ≡ false
same_sym None None e = e
same_sym None (Some b) e = refl
same_sym (Some a) None e = refl
same_sym (Some a) (Some b) e = ne_eqb b a (λ i. eqb-false a b e (sym i))

not_true : (b : Bool) → not b ≡ true → b ≡ false
not_true true e = absurd (false≢true e)
not_true false e = refl

-- a label that differs from those before it
lacks_more : (v w : Option ℕ) (n : ℕ) (ls : List Label) → same_value v w ≡ false → has_label v ls ≡ false →
    has_label v (ls ++ record { value = w; before = n } ∷ []) ≡ false
lacks_more v w n [] e h = ap (λ b. b || false) e
lacks_more v w n (l ∷ ls) e h =
    let k = or_parts (same_value v l.value) (has_label v ls) h in
    ap (λ b. b || has_label v (ls ++ record { value = w; before = n } ∷ [])) k.0 ∙ lacks_more v w n ls e k.1

once_more : (v : Option ℕ) (n : ℕ) (ls : List Label) → has_label v ls ≡ false → AreOnce ls →
    AreOnce (ls ++ record { value = v; before = n } ∷ [])
once_more v n [] e h = (refl, tt)
once_more v n (l ∷ ls) e h =
    let k = or_parts (same_value v l.value) (has_label v ls) e in
    (lacks_more l.value v n ls (same_sym v l.value k.0) h.0, once_more v n ls k.1 h.1)

abbrev CasesMade : Cases → Type 0
CasesMade cs = ItemsMade cs.items × AreOnce cs.labels

switch_item_goes : (c : Context) (of : Ty) (x : Syn) (r : Reading) (cs : Cases) → Stated r → CasesMade cs →
    Keeps CasesMade (switch_item c of x r cs)
switch_item_goes c of x r cs h g =
    if_goes (labels x) _ _
    (goes_then (h.reads.label of) λ v u. goes_then (need_true _ _ _) λ e i.
    give_keeps (g.0, once_more v _ cs.labels (not_true (has_label v cs.labels) i) g.1))
    (goes_then (h.item c) λ i o. give_keeps (both_made cs.items i g.0 o, g.1))

switch_items_goes : (c : Context) (of : Ty) (xs : Syns) (rs : List Reading) (cs : Cases) → AllStated rs →
    CasesMade cs → Keeps CasesMade (switch_items c of xs rs cs)
switch_items_goes c of (more x xs) (r ∷ rs) cs h g =
    goes_then (switch_item_goes c of x r cs h.0 g) λ ds i. switch_items_goes c of xs rs ds h.1 i
switch_items_goes c of nil rs cs h g = give_keeps g
switch_items_goes c of (more x xs) [] cs h g = give_keeps g

switch_keeps : (c : Context) (t : Lexeme) (xs : Syns) (r : Reading) (rs : List Reading) → Reads r → AllStated rs →
    Keeps ItemsMade (switch_of c t xs r rs)
switch_keeps c t xs r rs h g =
    goes_then (read_keeps r h) λ a i. goes_next (need_keeps _ _ _)
    (goes_then (in_scope_keeps (switch_items_goes (in_a_switch c) _ xs rs no_cases g (tt, tt))) λ cs o.
    give_keeps ((o.1, (converted_made _ a.is i, tt), o.0), tt))

return_keeps : (c : Context) (t : Lexeme) (rs : List Reading) → AllReads rs → Keeps ItemsMade (return_of c t rs)
return_keeps c t [] h = goes_next (need_keeps _ _ _) (give_keeps ((tt, tt, tt), tt))
return_keeps c t (r ∷ rs) h =
    goes_then (read_keeps r h.0) λ a i. goes_then (goes_next (need_keeps _ _ _) (assigned_keeps c.gives a i))
    λ x j. give_keeps ((tt, (j, tt), tt), tt)

statement_keeps : (k : NodeKind) (t : Lexeme) (xs : Syns) (rs : List Reading) (c : Context) → AllStated rs →
    FirstDeclares xs rs → Keeps ItemsMade (statement_of k t xs rs c)
statement_keeps Kinds.Declaration t xs rs c h d =
    less (λ i g. inits_are i.actions g) (declaration_goes t.pos rs (all_read rs h))
statement_keeps Kinds.Block t xs rs c h d =
    goes_then (in_scope_keeps (all_items_goes c rs h)) λ i g. give_keeps ((tt, tt, g), tt)
statement_keeps Kinds.EmptyStatement t xs rs c h d = give_keeps ((tt, tt, tt), tt)
statement_keeps Kinds.ExpressionStatement t xs (r ∷ []) c h d =
    goes_then (read_keeps r h.0.reads) λ a i. give_keeps ((tt, (i, tt), tt), tt)
statement_keeps Kinds.If t xs (r ∷ q ∷ []) c h d =
    in_scope_keeps (goes_then (test_keeps r h.0.reads) λ a i. goes_then (substatement_keeps c q h.1.0) λ x j.
    give_keeps ((tt, (i, tt), j), tt))
statement_keeps Kinds.IfElse t xs (r ∷ q ∷ p ∷ []) c h d =
    in_scope_keeps (goes_then (test_keeps r h.0.reads) λ a i. goes_then (substatement_keeps c q h.1.0) λ x j.
    goes_then (substatement_keeps c p h.1.1.0) λ y l. give_keeps ((tt, (i, tt), actions_append x y j l), tt))
statement_keeps Kinds.While t xs (r ∷ q ∷ []) c h d =
    in_scope_keeps (goes_then (test_keeps r h.0.reads) λ a i.
    goes_then (substatement_keeps (in_a_loop c) q h.1.0) λ x j. give_keeps ((tt, (i, tt), j), tt))
statement_keeps Kinds.Do t xs (r ∷ q ∷ []) c h d =
    in_scope_keeps (goes_then (substatement_keeps (in_a_loop c) r h.0) λ x j.
    goes_then (test_keeps q h.1.0.reads) λ a i. give_keeps ((tt, (i, tt), j), tt))
statement_keeps Kinds.For t (more x (more y (more z ws))) (r ∷ q ∷ p ∷ b ∷ []) c h d =
    in_scope_keeps (for_goes c t x y z r q p b h.0 d h.1.0.reads h.1.1.0.reads h.1.1.1.0)
statement_keeps Kinds.Switch t (more x xs) (r ∷ rs) c h d = in_scope_keeps (switch_keeps c t xs r rs h.0.reads h.1)
statement_keeps Kinds.Break t xs rs c h d = goes_next (need_keeps _ _ _) (give_keeps ((tt, tt, tt), tt))
statement_keeps Kinds.Continue t xs rs c h d = goes_next (need_keeps _ _ _) (give_keeps ((tt, tt, tt), tt))
statement_keeps Kinds.Return t xs rs c h d = return_keeps c t rs (all_read rs h)
statement_keeps k t xs rs c h d = refuse_goes

-- ---- all of them

label_keeps : (rs : List Reading) (of : Ty) → AllReads rs → Keeps Any (case_label rs of)
unfolding case_label
label_keeps [] of h = give_keeps tt
label_keeps (r ∷ rs) of h = goes_then (constant_keeps r h.0) λ k i. give_keeps tt

reads_node : (k : NodeKind) (t : Lexeme) (xs : Syns) (rs : List Reading) → AllReads rs → Reads (reading_of k t xs rs)
reads_node k t xs rs h = record {
  operand = expression_keeps k t xs rs h;
  type = λ alone. kind_keeps k t xs rs alone h;
  specified = λ alone. specifiers_keep alone t xs rs h;
  derived = declarator_keeps k t xs rs h;
  prototype = prototype_keeps rs h;
  parameter = λ only. parameter_of_keeps t rs only h;
  members = λ ms. member_of_keeps t xs rs ms h;
  enumerator = λ z. enumerator_keeps t rs z h;
  initializer = λ asked p of at a. initializer_keeps k t xs rs asked p of at h a;
  declared = λ s. init_declarator_goes xs rs s h;
  label = λ of. label_keeps rs of h;
}

stated_node : (k : NodeKind) (t : Lexeme) (xs : Syns) (rs : List Reading) → AllStated rs → FirstDeclares xs rs →
    Stated (reading_of k t xs rs)
stated_node k t xs rs h d = record {
  reads = reads_node k t xs rs (all_read rs h);
  item = λ c. statement_keeps k t xs rs c h d;
  body = λ c. all_items_goes c rs h;
}

mutual
  unfolding reading readings

  pub stated : (x : Syn) → Stated (reading x)
  stated (node k t xs) = stated_node k t xs (readings xs) (all_stated xs) (first_declares xs)

  pub all_stated : (xs : Syns) → AllStated (readings xs)
  all_stated nil = tt
  all_stated (more x xs) = (stated x, all_stated xs)

  first_declares : (xs : Syns) → FirstDeclares xs (readings xs)
  first_declares nil = tt
  first_declares (more (node Kinds.Declaration t ys) xs) =
      λ e c. declaration_goes t.pos (readings ys) (all_read (readings ys) (all_stated ys))
  first_declares (more (node k t ys) xs) = λ e. absurd (false≢true e)
