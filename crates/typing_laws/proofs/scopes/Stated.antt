-- Statements name what is in scope (C11 6.8).
use Rattle.std.proofs.Common.{◌≡◌, ℕ, Bool, true, false, List, [], ◌∷◌, ◌++◌, refl}
use Rattle.std.proofs.Common.{Result, sym}
use Rattle.std.proofs.lemmas.Bool.{false≢true}
use Rattle.ck_base.specs.Tokens.{Lexeme}
use Rattle.c_tree.specs.declared.syntax.NodeKind.{NodeKind}
use Rattle.c_tree.specs.declared.syntax.NodeKind.TheVariants as Kinds
use Rattle.c_tree.specs.Syntax.{Syn, Syns, node, nil, more}
use Rattle.c_tree.specs.Types.{Ty}
use Rattle.c_tree.specs.Terms.{Term, Action, action, actions}
use Rattle.c_tree.specs.Scopes.{State, Fault, Doing}
use Rattle.c_tree.specs.Readings.{Context, Items, Reading}
use Rattle.c_tree.specs.Statements.{all_items, substatement, test, in_a_loop, in_a_switch, is_absent, is_declaration}
use Rattle.c_tree.specs.Statements.{first_part, optional_test, optional_step, list_terms, for_of, Cases}
use Rattle.c_tree.specs.Statements.{case_label, labels, switch_item, switch_items, no_cases, switch_of, return_of}
use Rattle.c_tree.specs.Statements.{statement_of}
use Rattle.c_tree.specs.WellTyped.{form_vars}
use Rattle.c_tree.specs.Programs.{reading_of, reading, readings}
use Rattle.typing_laws.specs.Fitting.{KindFits, IsStatement, IsFit, AreFit}
use Rattle.typing_laws.specs.Scoping.{TermScoped, TermsScoped, ActionsScoped}
use Rattle.typing_laws.proofs.scopes.Stepping.{among_right, actions_more, actions_append, Runs, at_more, Goes, Keeps}
use Rattle.typing_laws.proofs.scopes.Stepping.{Any, going, give_goes, give_keeps, refuse_goes, goes_then, goes_next}
use Rattle.typing_laws.proofs.scopes.Stepping.{need_keeps, if_goes, in_scope_keeps}
use Rattle.typing_laws.proofs.scopes.Expressions.{converted_scoped, assigned_keeps, condition_keeps}
use Rattle.typing_laws.proofs.scopes.Readings.{with_vars, ItemsScoped, Itemed, Reads, AllReads, read_keeps}
use Rattle.typing_laws.proofs.scopes.Readings.{expression_keeps}
use Rattle.typing_laws.proofs.scopes.Declarators.{constant_keeps, specifiers_keep, kind_keeps, declarator_keeps}
use Rattle.typing_laws.proofs.scopes.Declarators.{prototype_keeps}
use Rattle.typing_laws.proofs.scopes.Declarators.{parameter_of_keeps, member_of_keeps, enumerator_keeps}
use Rattle.typing_laws.proofs.scopes.Declared.{initializer_keeps, init_declarator_goes, around, both_scoped}
use Rattle.typing_laws.proofs.scopes.Declared.{declaration_goes}

-- statements beside which no variable is declared
abbrev pub LoneScoped : List ℕ → Items → Type 0
LoneScoped js i = ActionsScoped js (actions i.actions)

abbrev pub IsLone : Reading → Type 0
IsLone r = (js : List ℕ) (c : Context) → Keeps js (LoneScoped js) (r.item c)

-- what a part keeps as a statement or declaration
pub record Stated (x : Syn) (r : Reading) : Type 0 where
  pub reads : Reads r
  pub item : (js : List ℕ) (c : Context) → Itemed js (r.item c)
  pub lone : IsStatement x → IsLone r
  pub body : (js : List ℕ) (c : Context) → Itemed js (r.body c)

abbrev pub AllStated : Syns → List Reading → Type 0
AllStated nil [] = Unit {0}
AllStated (more x xs) (r ∷ rs) = Stated x r × AllStated xs rs
AllStated xs rs = ⊥

pub all_read : (xs : Syns) (rs : List Reading) → AllStated xs rs → AllReads rs
all_read nil [] h = tt
all_read (more x xs) (r ∷ rs) h = (h.0.reads, all_read xs rs h.1)
all_read nil (r ∷ rs) h = absurd h
all_read (more x xs) [] h = absurd h

-- ---- the parts of statements that are statements

second_of : (t : Lexeme) (xs : Syns) (r q : Reading) → KindFits Kinds.If t xs → AllStated xs (r ∷ q ∷ []) → IsLone q
second_of t nil r q f h = absurd h
second_of t (more x nil) r q f h = absurd h.1
second_of t (more x (more y ys)) r q f h = h.1.0.lone f

while_body : (t : Lexeme) (xs : Syns) (r q : Reading) → KindFits Kinds.While t xs → AllStated xs (r ∷ q ∷ []) →
    IsLone q
while_body t nil r q f h = absurd h
while_body t (more x nil) r q f h = absurd h.1
while_body t (more x (more y ys)) r q f h = h.1.0.lone f

do_body : (t : Lexeme) (xs : Syns) (r q : Reading) → KindFits Kinds.Do t xs → AllStated xs (r ∷ q ∷ []) → IsLone r
do_body t nil r q f h = absurd h
do_body t (more x xs) r q f h = h.0.lone f

both_arms : (t : Lexeme) (xs : Syns) (r q p : Reading) → KindFits Kinds.IfElse t xs →
    AllStated xs (r ∷ q ∷ p ∷ []) → IsLone q × IsLone p
both_arms t nil r q p f h = absurd h
both_arms t (more x nil) r q p f h = absurd h.1
both_arms t (more x (more y nil)) r q p f h = absurd h.1.1
both_arms t (more x (more y (more z zs))) r q p f h = (h.1.0.lone f.0, h.1.1.0.lone f.1)

-- ---- statements

-- the variables that a statement alone declares for its parts
abbrev own_vars : List Action → List ℕ
own_vars [] = []
own_vars (action f xs ys p ∷ rest) = form_vars f

list_append : (js : List ℕ) (xs ys : List Term) → TermsScoped js (list_terms xs) → TermsScoped js (list_terms ys) →
    TermsScoped js (list_terms (xs ++ ys))
list_append js [] ys h k = k
list_append js (x ∷ xs) ys h k = (h.0, list_append js xs ys h.1 k)

module _ (js : List ℕ) where
  substatement_keeps : (c : Context) (r : Reading) → IsLone r →
      Keeps js (λ xs. ActionsScoped js (actions xs)) (substatement c r)
  substatement_keeps c r h = goes_then (in_scope_keeps (h js c)) λ i g. give_keeps g

  test_keeps : (r : Reading) → Reads r → Keeps js (TermScoped js) (test r)
  test_keeps r h = goes_then (read_keeps js r h) λ a i. condition_keeps js a i

  optional_test_keeps : (x : Syn) (r : Reading) → Reads r →
      Keeps js (λ ts. TermsScoped js (list_terms ts)) (optional_test x r)
  optional_test_keeps x r h =
      if_goes (is_absent x) _ _ (give_keeps tt) (goes_then (test_keeps r h) λ a i. give_keeps (i, tt))

  optional_step_keeps : (x : Syn) (r : Reading) → Reads r →
      Keeps js (λ ts. TermsScoped js (list_terms ts)) (optional_step x r)
  optional_step_keeps x r h =
      if_goes (is_absent x) _ _ (give_keeps tt) (goes_then (read_keeps js r h) λ a i. give_keeps (i, tt))

  -- an item that declares nothing is an item
  lone_item : (d : Doing Items) → Keeps js (LoneScoped js) d → Itemed js d
  lone_item d h = going λ b s at. weakened (d s) (h.run b s at)
    where
      weakened : {b : State}
          (r : Result (Items × State)
          Fault) → Runs (λ _. js) (LoneScoped js) b r →
          Runs (with_vars js) (ItemsScoped js) b r
      weakened r h = record {
        state = λ x e. at_more (among_right x.0.vars js) (h.state x e);
        post = λ x e. actions_more js (x.0.vars ++ js) (among_right x.0.vars js) (actions x.0.actions) (h.post x e);
      }

  first_goes : (c : Context) (x : Syn) (r : Reading) → Stated x r → Itemed js (first_part c x r)
  first_goes c x r h =
      if_goes (is_declaration x) _ _ (h.item js c)
      (if_goes (is_absent x) _ _ (give_goes (λ k i. i) tt)
      (goes_then (read_keeps js r h.reads) λ a i. give_goes (λ k i. i) ((tt, (i, tt), tt), tt)))

all_items_goes : (js : List ℕ) (c : Context) (xs : Syns) (rs : List Reading) → AllStated xs rs →
    Itemed js (all_items c rs)
all_items_goes js c nil [] h = give_goes (λ k i. i) tt
all_items_goes js c (more x xs) (r ∷ rs) h =
    goes_then (h.0.item js c) λ a i. goes_then (all_items_goes (a.vars ++ js) c xs rs h.1) λ b j.
    give_goes (around js a.vars b.vars) (both_scoped js a b i j)
all_items_goes js c nil (r ∷ rs) h = absurd h
all_items_goes js c (more x xs) [] h = absurd h

for_goes : (js : List ℕ) (c : Context) (t : Lexeme) (x y z : Syn) (r q p b : Reading) → Stated x r → Reads q →
    Reads p → IsLone b → Goes js (λ i. own_vars i.actions ++ js) (LoneScoped js) (for_of c t x y z r q p b)
for_goes js c t x y z r q p b h g f l =
    goes_then (first_goes js c x r h) λ i o. goes_then (optional_test_keeps (i.vars ++ js) y q g) λ ts u.
    goes_then (optional_step_keeps (i.vars ++ js) z p f) λ ss v.
    goes_then (substatement_keeps (i.vars ++ js) (in_a_loop c) b l) λ body w.
    give_goes (λ k m. m) (
      (
        tt,
        list_append (i.vars ++ js) ts ss u v,
        actions_append (i.vars ++ js) i.actions body o w,
      ),
      tt,
    )

-- ---- switch

module _ (js : List ℕ) where
  abbrev CasesScoped : Cases → Type 0
  CasesScoped cs = ItemsScoped js cs.items

  switch_item_goes : (c : Context) (of : Ty) (x : Syn) (r : Reading) (cs : Cases) → Stated x r → CasesScoped cs →
      Goes (cs.items.vars ++ js) (λ ds. ds.items.vars ++ js) CasesScoped (switch_item c of x r cs)
  switch_item_goes c of x r cs h g =
      if_goes (labels x) _ _
      (goes_then (h.reads.label (cs.items.vars ++ js) of) λ v u.
      goes_next (need_keeps _ _ _) (give_goes (λ k m. m) g))
      (goes_then (h.item (cs.items.vars ++ js) c) λ i o.
      give_goes (around js cs.items.vars i.vars) (both_scoped js cs.items i g o))

  switch_items_goes : (c : Context) (of : Ty) (xs : Syns) (rs : List Reading) (cs : Cases) → AllStated xs rs →
      CasesScoped cs →
      Goes (cs.items.vars ++ js) (λ ds. ds.items.vars ++ js) CasesScoped (switch_items c of xs rs cs)
  switch_items_goes c of nil [] cs h g = give_goes (λ k m. m) g
  switch_items_goes c of (more x xs) (r ∷ rs) cs h g =
      goes_then (switch_item_goes c of x r cs h.0 g) λ ds i. switch_items_goes c of xs rs ds h.1 i
  switch_items_goes c of nil (r ∷ rs) cs h g = absurd h
  switch_items_goes c of (more x xs) [] cs h g = absurd h

  switch_keeps : (c : Context) (t : Lexeme) (xs : Syns) (r : Reading) (rs : List Reading) → Reads r →
      AllStated xs rs → Keeps js (LoneScoped js) (switch_of c t xs r rs)
  switch_keeps c t xs r rs h g =
      goes_then (read_keeps js r h) λ a i. goes_next (need_keeps _ _ _)
      (goes_then (in_scope_keeps (switch_items_goes (in_a_switch c) _ xs rs no_cases g tt)) λ cs o.
      give_keeps ((tt, (converted_scoped js _ a.is i, tt), o), tt))

  return_keeps : (c : Context) (t : Lexeme) (rs : List Reading) → AllReads rs →
      Keeps js (LoneScoped js) (return_of c t rs)
  return_keeps c t [] h = goes_next (need_keeps _ _ _) (give_keeps ((tt, tt, tt), tt))
  return_keeps c t (r ∷ rs) h =
      goes_then (read_keeps js r h.0) λ a i. goes_then (goes_next (need_keeps _ _ _) (assigned_keeps js c.gives a i))
      λ x j. give_keeps ((tt, (j, tt), tt), tt)

  -- a statement that is no declaration
  lone_keeps : (k : NodeKind) (t : Lexeme) (xs : Syns) (rs : List Reading) (c : Context) → KindFits k t xs →
      AllStated xs rs → is_declaration (node k t xs) ≡ false → Keeps js (LoneScoped js) (statement_of k t xs rs c)
  lone_keeps Kinds.Declaration t xs rs c f h d = absurd (false≢true
      (sym d))
  lone_keeps Kinds.Block t xs rs c f h d =
      goes_then (in_scope_keeps (all_items_goes js c xs rs h)) λ i g. give_keeps ((tt, tt, g), tt)
  lone_keeps Kinds.EmptyStatement t xs rs c f h d = give_keeps ((tt, tt, tt), tt)
  lone_keeps Kinds.ExpressionStatement t xs (r ∷ []) c f h d =
      goes_then (read_keeps js r (all_read xs (r ∷ []) h).0) λ a i. give_keeps ((tt, (i, tt), tt), tt)
  lone_keeps Kinds.If t xs (r ∷ q ∷ []) c f h d =
      in_scope_keeps (goes_then (test_keeps js r (all_read xs (r ∷ q ∷ []) h).0) λ a i.
      goes_then (substatement_keeps js c q (second_of t xs r q f h)) λ x j. give_keeps ((tt, (i, tt), j), tt))
  lone_keeps Kinds.IfElse t xs (r ∷ q ∷ p ∷ []) c f h d =
      let arms = both_arms t xs r q p f h in
      in_scope_keeps (goes_then (test_keeps js r (all_read xs (r ∷ q ∷ p ∷ []) h).0) λ a i.
      goes_then (substatement_keeps js c q arms.0) λ x j. goes_then (substatement_keeps js c p arms.1) λ y l.
      give_keeps ((tt, (i, tt), actions_append js x y j l), tt))
  lone_keeps Kinds.While t xs (r ∷ q ∷ []) c f h d =
      in_scope_keeps (goes_then (test_keeps js r (all_read xs (r ∷ q ∷ []) h).0) λ a i.
      goes_then (substatement_keeps js (in_a_loop c) q (while_body t xs r q f h)) λ x j.
      give_keeps ((tt, (i, tt), j), tt))
  lone_keeps Kinds.Do t xs (r ∷ q ∷ []) c f h d =
      in_scope_keeps (goes_then (substatement_keeps js (in_a_loop c) r (do_body t xs r q f h)) λ x j.
      goes_then (test_keeps js q (all_read xs (r ∷ q ∷ []) h).1.0) λ a i. give_keeps ((tt, (i, tt), j), tt))
  lone_keeps Kinds.For t (more x (more y (more z (more w nil)))) (r ∷ q ∷ p ∷ b ∷ []) c f h d =
      in_scope_keeps (for_goes js c t x y z r q p b h.0 h.1.0.reads h.1.1.0.reads (h.1.1.1.0.lone f))
  lone_keeps Kinds.For t (more x (more y (more z (more w (more v vs))))) (r ∷ q ∷ p ∷ b ∷ []) c f h d =
      absurd h.1.1.1.1
  lone_keeps Kinds.For t (more x (more y (more z nil))) (r ∷ q ∷ p ∷ b ∷ []) c f h d = absurd h.1.1.1
  lone_keeps Kinds.Switch t (more x xs) (r ∷ rs) c f h d =
      in_scope_keeps (switch_keeps c t xs r rs h.0.reads h.1)
  lone_keeps Kinds.Break t xs rs c f h d = goes_next (need_keeps _ _ _) (give_keeps ((tt, tt, tt), tt))
  lone_keeps Kinds.Continue t xs rs c f h d = goes_next (need_keeps _ _ _) (give_keeps ((tt, tt, tt), tt))
  lone_keeps Kinds.Return t xs rs c f h d = return_keeps c t rs (all_read xs rs h)
  lone_keeps k t xs rs c f h d = refuse_goes

  item_goes : (k : NodeKind) (t : Lexeme) (xs : Syns) (rs : List Reading) (c : Context) → KindFits k t xs →
      AllStated xs rs → (b : Bool) → is_declaration (node k t xs) ≡ b → Itemed js (statement_of k t xs rs c)
  item_goes k t xs rs c f h false d = lone_item js _ (lone_keeps k t xs rs c f h d)
  item_goes Kinds.Declaration t xs rs c f h true d = declaration_goes js t.pos rs (all_read xs rs h)
  item_goes k t xs rs c f h true d = absurd (false≢true d)

-- ---- all of them

label_keeps : (js : List ℕ) (rs : List Reading) (of : Ty) → AllReads rs → Keeps js Any (case_label rs of)
unfolding case_label
label_keeps js [] of h = give_keeps tt
label_keeps js (r ∷ rs) of h = goes_then (constant_keeps js r h.0) λ k i. give_keeps tt

reads_node : (k : NodeKind) (t : Lexeme) (xs : Syns) (rs : List Reading) → AllReads rs → Reads (reading_of k t xs rs)
reads_node k t xs rs h = record {
  operand = λ js. expression_keeps js k t xs rs h;
  type = λ js alone. kind_keeps js k t xs rs alone h;
  specified = λ js alone. specifiers_keep js alone t xs rs h;
  derived = λ js. declarator_keeps js k t xs rs h;
  prototype = λ js. prototype_keeps js rs h;
  parameter = λ js only. parameter_of_keeps js t rs only h;
  members = λ js ms. member_of_keeps js t xs rs ms h;
  enumerator = λ js z. enumerator_keeps js t rs z h;
  initializer = λ js asked p of at a. initializer_keeps js k t xs rs asked p of at h a;
  declared = λ js s. init_declarator_goes js xs rs s h;
  label = λ js of. label_keeps js rs of h;
}

stated_node : (k : NodeKind) (t : Lexeme) (xs : Syns) (rs : List Reading) → KindFits k t xs → AllStated xs rs →
    Stated (node k t xs) (reading_of k t xs rs)
stated_node k t xs rs f h = record {
  reads = reads_node k t xs rs (all_read xs rs h);
  item = λ js c. item_goes js k t xs rs c f h (is_declaration (node k t xs)) refl;
  lone = λ d js c. lone_keeps js k t xs rs c f h d;
  body = λ js c. all_items_goes js c xs rs h;
}

mutual
  unfolding IsFit AreFit reading readings

  pub stated : (x : Syn) → IsFit x → Stated x (reading x)
  stated (node k t xs) f = stated_node k t xs (readings xs) f.0 (all_stated xs f.1)

  pub all_stated : (xs : Syns) → AreFit xs → AllStated xs (readings xs)
  all_stated nil f = tt
  all_stated (more x xs) f = (stated x f.0, all_stated xs f.1)
