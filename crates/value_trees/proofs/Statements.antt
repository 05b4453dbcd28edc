-- By induction on the numbers of statements: the tree of each does what is asked.
use Rattle.std.proofs.Common.{◌≡◌, ℕ, zero, suc, ◌+◌, ◌<◌, ◌≤◌, Bool, true, false, List, [], ◌∷◌, ◌++◌, length, map}
use Rattle.std.proofs.Common.{get_or, Option, Some, None, refl, sym, ap, subst, ◌∙◌, arith, inl, inr, ◌⊎◌, ⊎_elim}
use Rattle.std.proofs.Common.{if◌then◌else◌}
use Rattle.std.specs.Prelude.{slice_get, ◌||◌}
use Rattle.std.proofs.lemmas.Bool.{false≢true, cases_lt}
use Rattle.std.proofs.lemmas.Option.{slice_get-get_or, same_Some, slice_get_within}
use Rattle.ck_base.specs.declared.positions.Pos.{Pos}
use Rattle.c_tree.specs.Layout.{bare}
use Rattle.c_tree.specs.Statements.{same_value, has_label}
use Rattle.c_tree.specs.Terms as tree
use Rattle.c_tree.specs.Terms.{Term, Terms, no_terms, with_term, type_of, Label, Form, Action, Actions}
use Rattle.c_tree.specs.Terms.{action, actions, no_actions, with_action, Program}
use Rattle.c_tree.specs.Types as ty
use Rattle.c_tree.specs.Types.{Ty, is_scalar, is_tagged}
use Rattle.c_tree.specs.Typing.{Sound}
use Rattle.c_tree.specs.Views as views
use Rattle.c_tree.specs.Views.{terms_of, term_at, actions_of, action_at, values, parts, kind_action}
use Rattle.c_tree.specs.Views.{Shows}
use Rattle.c_tree.specs.WellTyped.{Frame, Inside, TermFits, TermsFit, FormFits, InitFits, ActionFits, ActionsFit}
use Rattle.c_tree.specs.WellTyped.{inside_of, in_loop, in_switch, count_of, AreVars, LabelsFit, form_vars, declared}
use Rattle.c_tree.specs.WellTyped.{all_declared, IsComplete, FunctionFits, WellTyped, outside}
use Rattle.c_tree.specs.declared.typed.Expr.{Expr}
use Rattle.c_tree.specs.declared.typed.ExprKind.TheVariants as exprs
use Rattle.c_tree.specs.declared.typed.FunDef.{FunDef}
use Rattle.c_tree.specs.declared.typed.Stmt.{Stmt}
use Rattle.c_tree.specs.declared.typed.StmtKind.{StmtKind}
use Rattle.c_tree.specs.declared.typed.StmtKind.TheVariants as stmts
use Rattle.c_tree.specs.declared.typed.SwitchLabel.{SwitchLabel}
use Rattle.c_tree.specs.declared.typed.Typed.{Typed}
use Rattle.c_tree.specs.declared.typed.VarDef.{VarDef}
use Rattle.typing_laws.proofs.Sound.{well_typed}
use Rattle.typing_laws.specs.Scoping.{IsAmong, TermScoped, ActionScoped, ActionsScoped}
use Rattle.typing_laws.proofs.scopes.Whole.{scoped}
use Rattle.typing_laws.specs.Valued.{is_plain, AreOnce, Begins, FirstBegin, IsValue, ActionValued, ActionsValued}
use Rattle.typing_laws.proofs.values.Whole.{valued}
use Rattle.cheri_c_sem.specs.Expressions as meant
use Rattle.cheri_c_sem.specs.Expressions.{expr_tree}
use Rattle.cheri_c_sem.specs.Programs as means
use Rattle.cheri_c_sem.specs.Programs.{stmt_tree, statements, initialisation, stmt_kind_tree}
use Rattle.cheri_c_sem.specs.Statements.{default_of}
use Rattle.cheri_c_sem.specs.Tree as cheri
use Rattle.cheri_c_sem.specs.Tree.{Ex, St, Sts, Give, Init, Fill}
use Rattle.cheri_c_sem.specs.Types.{is_simple, is_record, objects_before, size_in, align_in, unit_of, kind_of}
use Rattle.cheri_c_sem.proofs.Unfold.{statement_node}
use Rattle.placement.proofs.Ordering.{ordered_of}
use Rattle.lower_runs.specs.Statements.{IsOnce, AreAmong, stands_before, count_statements}
use Rattle.lower_runs.specs.States.{Scene}
use Rattle.lower_runs.specs.Trees.{AreInner, Values, Places, Does, DoAll, held_by, AreOthers}
use Rattle.value_trees.specs.Standing.{HaveSpots, Stands, TreesStand}
use Rattle.value_trees.specs.Statements.{BodiesDo}
use Rattle.value_trees.proofs.Values.{untagged, integer_untagged, plain_untagged, of_terms, value_sort}
use Rattle.value_trees.proofs.Sorts.{plain_at, record_at}
use Rattle.value_trees.proofs.Blocks.{Apart, apart_first, apart_rest, apart_inside, among_at, not_among, all_inner}
use Rattle.value_trees.proofs.Blocks.{at_among, all_others, others_of, entered_spots}
use Rattle.value_trees.proofs.Held.{Held, held_in_scope}
use Rattle.value_trees.proofs.Nodes.{expression_type, statement_is}
use Rattle.value_trees.proofs.Standing.{trees_stand}

-- ---- the labels of a switch

abbrev meant_label : SwitchLabel → cheri.Label
meant_label l = means.label_of l.value l.before

no_default : (ls : List SwitchLabel) → has_label None (map views.label_of ls) ≡ false →
    default_of (map meant_label ls) ≡ None
no_default [] h = refl
no_default (l ∷ ls) h = by l.value h (no_default ls)
  where
    by : (v : Option ℕ) → (same_value None v || has_label None (map views.label_of ls)) ≡ false →
        (has_label None (map views.label_of ls) ≡ false → default_of (map meant_label ls) ≡ None) →
        default_of (means.label_of v l.before ∷ map meant_label ls) ≡ None
    by None h g = absurd (false≢true (sym h))
    by (Some n) h g = g h

once : (ls : List SwitchLabel) → AreOnce (map views.label_of ls) → IsOnce (map meant_label ls)
once [] h = tt
once (l ∷ ls) h = by l.value h.0 (once ls h.1)
  where
    by : (v : Option ℕ) → has_label v (map views.label_of ls) ≡ false → IsOnce (map meant_label ls) →
        IsOnce (means.label_of v l.before ∷ map meant_label ls)
    by None e g = (no_default ls e, g)
    by (Some n) e g = g

labels_among : (ls : List SwitchLabel) (n : ℕ) → LabelsFit (map views.label_of ls) n → AreAmong (map meant_label ls) n
labels_among [] n h = tt
labels_among (l ∷ ls) n h = (by l.value (h 0 (views.label_of l) refl), labels_among ls n (λ j k e. h (suc j) k e))
  where
    by : (v : Option ℕ) → l.before ≤ n → stands_before (means.label_of v l.before) ≤ n
    by None e = e
    by (Some m) e = e

-- ---- what is known of a statement

abbrev nothing : Expr
nothing = record { kind = exprs.Constant 0; of = 0; pos = views.nowhere }

abbrev empty : Stmt
empty = record { kind = stmts.Empty; pos = views.nowhere }

at_least : (k n : ℕ) → (k < n → ⊥) → n ≤ k
at_least k n h = ⊎_elim (λ e. absurd (h e)) (λ e. e) (cases_lt k n)

module _ (p : Typed) (trees : TreesStand p) (w : WellTyped p) (q : Program) (shows : Shows p q) (d : FunDef)
    (of : FunctionFits p d) where
  abbrev vars : List VarDef
  vars = d.vars

  abbrev params : ℕ
  params = length d.params

  abbrev gives : Ty
  gives = ty.bare of.result

  abbrev F : Frame
  F = record { program = p; vars = vars; gives = gives }

  abbrev x : ℕ → Term
  x k = term_at (terms_of p) k

  abbrev st : ℕ → Action
  st k = action_at (actions_of p) k

  abbrev tr : ℕ → Ex
  tr k = expr_tree p vars k

  abbrev sts : ℕ → St
  sts k = stmt_tree p vars k

  record Meets (i : Inside) (js : List ℕ) (a : Action) : Type 0 where
    fits : ActionFits F i a
    valued : ActionValued a
    scoped : ActionScoped js a
    apart : Apart (length vars) js (declared a)
    below : (k : ℕ) → k < params → IsAmong js k

  record MeetsAll (i : Inside) (js : List ℕ) (ys : Actions) : Type 0 where
    fits : ActionsFit F i ys
    valued : ActionsValued ys
    scoped : ActionsScoped js ys
    apart : Apart (length vars) js (all_declared ys)
    below : (k : ℕ) → k < params → IsAmong js k

  of_action : (i : Inside) (n : Form) (xs : Terms) (ys : Actions) (r : Pos) → ActionFits F i (action n xs ys r) →
      TermsFit F xs × FormFits F i n xs (count_of ys) × ActionsFit F (inside_of n i) ys
  unfolding ActionFits
  of_action i n xs ys r h = (h.0, h.1, h.2)

  of_actions : (i : Inside) (y : Action) (ys : Actions) → ActionsFit F i (with_action y ys) →
      ActionFits F i y × ActionsFit F i ys
  unfolding ActionFits
  of_actions i y ys h = (h.0, h.1)

  first_meets : (i : Inside) (js : List ℕ) (y : Action) (ys : Actions) → MeetsAll i js (with_action y ys) → Meets i js y
  first_meets i js y ys m = record {
    fits = (of_actions i y ys m.fits).0;
    valued = m.valued.0;
    scoped = m.scoped.0;
    apart = apart_first (length vars) js (declared y) (all_declared ys) m.apart;
    below = m.below;
  }

  rest_meet : (i : Inside) (js : List ℕ) (y : Action) (ys : Actions) → MeetsAll i js (with_action y ys) →
      MeetsAll i js ys
  rest_meet i js y ys m = record {
    fits = (of_actions i y ys m.fits).1;
    valued = m.valued.1;
    scoped = m.scoped.1;
    apart = apart_rest (length vars) js (declared y) (all_declared ys) m.apart;
    below = m.below;
  }

  among_right : (xs js : List ℕ) (k : ℕ) → IsAmong js k → IsAmong (xs ++ js) k
  among_right [] js k h = h
  among_right (y ∷ xs) js k h = inr (among_right xs js k h)

  parts_meet : (i : Inside) (js : List ℕ) (n : Form) (xs : Terms) (ys : Actions) (r : Pos) → AreVars F (form_vars n) →
      Meets i js (action n xs ys r) → MeetsAll (inside_of n i) (form_vars n ++ js) ys
  parts_meet i js n xs ys r vs m = record {
    fits = (of_action i n xs ys r m.fits).2;
    valued = m.valued.2;
    scoped = m.scoped.2;
    apart = apart_inside (length vars) js (form_vars n) (all_declared ys)
        (λ k g. let z = among_at (form_vars n) k g in vs z.0 k z.1) m.apart;
    below = λ k lt. among_right (form_vars n) js k (m.below k lt);
  }

  none : AreVars F []
  none j k e = absurd cc

  inner : (js xs ys : List ℕ) → Apart (length vars) js (xs ++ ys) → ((k : ℕ) → k < params → IsAmong js k) →
      AreInner vars params (map (means.declared p vars) xs)
  inner js xs ys a below =
      all_inner p vars params xs (λ y g. at_least y params (λ lt. not_among (length vars) js xs ys y a (below y lt) g))

  -- ---- expressions

  module _ (js : List ℕ) (g : Scene) (spots : HaveSpots vars g js) (a : ℕ) (lt : a < length p.exprs)
      (v : IsValue (x a)) (f : TermFits F (x a)) (s : TermScoped js (x a)) where
    abbrev node : Expr
    node = get_or p.exprs a nothing

    there : slice_get p.exprs a ≡ Some node
    there = slice_get-get_or p.exprs a nothing lt

    tree_stands : Stands g (is_tagged (type_of (x a))) (tr a)
    tree_stands = (trees vars gives js g spots a node there).value v f s

    value_of : is_tagged (type_of (x a)) ≡ false → Values g (tr a)
    value_of e = subst (λ b. Stands g b (tr a)) e tree_stands

    place_of : is_tagged (type_of (x a)) ≡ true → Places g (tr a)
    place_of e = subst (λ b. Stands g b (tr a)) e tree_stands

    either_of : Values g (tr a) ⊎ Places g (tr a)
    either_of = by (is_tagged (type_of (x a))) refl
      where
        by : (b : Bool) → is_tagged (type_of (x a)) ≡ b → Values g (tr a) ⊎ Places g (tr a)
        by true e = inr (place_of e)
        by false e = inl (value_of e)

    -- a struct or union by its number as well
    record_is : IsComplete p (type_of (x a)) →
        is_record (bare p.types (meant.type_of (slice_get p.exprs a))) ≡ is_tagged (type_of (x a))
    record_is c =
        let t = expression_type p w.ordered a node there in
        let z = w.ordered.typed a node there in
        ap (λ (m : Option Expr). is_record (bare p.types (meant.type_of m))) there
        ∙ ⊎_elim (λ e. plain_at p w.ordered node.of z (sym (ap is_plain t) ∙ e)
        ∙ sym (plain_untagged (type_of (x a)) e))
        (λ e. record_at p w.ordered q shows node.of z (sym (ap is_tagged t) ∙ e.0) (subst (IsComplete p) t c) ∙ sym e.0)
        (value_sort F (x a) v f)

    init_done : (i : Inside) (r : Pos) (var offset : ℕ) → InitFits F var offset (type_of (x a)) → IsAmong js var →
        Does vars params i g
        (initialisation p vars r var offset (meant.type_of (slice_get p.exprs a)) (tr a))
    init_done i r var offset h among =
        by (is_simple (slice_get vars var)) (is_record (bare p.types (meant.type_of (slice_get p.exprs a)))) refl
        (sym (record_is (h.2, h.5)))
      where
        by : (b c : Bool) → is_simple (slice_get vars var) ≡ b → is_tagged (type_of (x a)) ≡ c →
            Does vars params i g (if b then Give var (tr a) else if c
            then Fill r (objects_before vars var) offset (size_in p.types (meant.type_of (slice_get p.exprs a)))
            (unit_of (align_in p.types (meant.type_of (slice_get p.exprs a)))) (tr a)
            else Init r (objects_before vars var) offset
            (kind_of (bare p.types (meant.type_of (slice_get p.exprs a)))) (tr a))
        by true c e z =
            let k = sym (ap is_simple h.3) ∙ e in
            value_of (untagged _ (ap is_scalar (h.7 k).1 ∙ of.simple_scalar var h.0 h.3 k))
        by false true e z = (spots var among e, place_of z)
        by false false e z = (spots var among e, value_of z)

  -- ---- lists of statements

  abbrev Done : Inside → List ℕ → St → Type 0
  Done i js a = (g : Scene) → HaveSpots vars g js → Does vars params i g a

  abbrev DoneAll : Inside → List ℕ → Sts → Type 0
  DoneAll i js ss = (g : Scene) → HaveSpots vars g js → DoAll vars params i g ss

  abbrev Known : List ℕ → Type 0
  Known ks = (j a : ℕ) → slice_get ks j ≡ Some a → (i : Inside) (js : List ℕ) → Meets i js (st a) → Done i js (sts a)

  statements_done : (ks : List ℕ) (i : Inside) (js : List ℕ) → Known ks → MeetsAll i js (actions (map st ks)) →
      DoneAll i js (statements sts ks)
  statements_done [] i js r m g s = tt
  statements_done (k ∷ ks) i js r m g s = (
    r 0 k refl i js (first_meets i js (st k) _ m) g s,
    statements_done ks i js (λ j a e. r (suc j) a e) (rest_meet i js (st k) _ m) g s,
  )

  one_more : (i : Inside) (a : Term) (m : ℕ) →
      FormFits F i tree.Evaluate (with_term a no_terms) (m + 1) → ⊥
  one_more i a m h =
      let e : m + 1 ≡ suc m = omega arith in subst (FormFits F i tree.Evaluate (with_term a no_terms)) e h

  init_more : (i : Inside) (v o : ℕ) (a : Term) (m : ℕ) →
      FormFits F i (tree.Init v o) (with_term a no_terms) (m + 1) → ⊥
  init_more i v o a m h =
      let e : m + 1 ≡ suc m = omega arith in subst (FormFits F i (tree.Init v o) (with_term a no_terms)) e h

  -- what begins a `for` stands anywhere
  begun_fits : (i j : Inside) (a : Action) → Begins a → ActionFits F i a → ActionFits F j a
  unfolding ActionFits
  begun_fits i j (action tree.Evaluate (with_term a no_terms) no_actions r) b f = f
  begun_fits i j (action tree.Evaluate (with_term a no_terms) (with_action y ys) r) b f =
      absurd (one_more i a (count_of ys) f.1)
  begun_fits i j (action tree.Evaluate no_terms ys r) b f = absurd f.1
  begun_fits i j (action tree.Evaluate (with_term a (with_term c xs)) ys r) b f = absurd f.1
  begun_fits i j (action (tree.Init v o) (with_term a no_terms) no_actions r) b f = f
  begun_fits i j (action (tree.Init v o) (with_term a no_terms) (with_action y ys) r) b f =
      absurd (init_more i v o a (count_of ys) f.1)
  begun_fits i j (action (tree.Init v o) no_terms ys r) b f = absurd f.1
  begun_fits i j (action (tree.Init v o) (with_term a (with_term c xs)) ys r) b f = absurd f.1
  begun_fits i j (action n xs ys r) b f = absurd b

  begun_meets : (i j : Inside) (js : List ℕ) (a : Action) → Begins a → Meets i js a → Meets j js a
  begun_meets i j js a b m = record {
    fits = begun_fits i j a b m.fits;
    valued = m.valued;
    scoped = m.scoped;
    apart = m.apart;
    below = m.below;
  }

  -- the statements that begin a `for`, and its body
  firsts_done : (ks : List ℕ) (y : ℕ) (i : Inside) (js : List ℕ) → Known (ks ++ y ∷ []) →
      MeetsAll in_loop js (actions (map st ks ++ st y ∷ [])) →
      FirstBegin (length ks) (actions (map st ks ++ st y ∷ [])) →
      DoneAll i js (statements sts ks) × Done in_loop js (sts y)
  firsts_done [] y i js r m b = (λ g s. tt, r 0 y refl in_loop js (first_meets in_loop js (st y) _ m))
  firsts_done (k ∷ ks) y i js r m b =
      let z = firsts_done ks y i js (λ j a e. r (suc j) a e) (rest_meet in_loop js (st k) _ m) b.1 in
      let f = begun_meets in_loop i js (st k) b.0 (first_meets in_loop js (st k) _ m) in
      (λ g s. (r 0 k refl i js f g s, z.0 g s), z.1)

  counts : (ks : List ℕ) → count_of (actions (map st ks)) ≡ count_statements (statements sts ks)
  counts [] = refl
  counts (k ∷ ks) = omega (arith, counts ks)

  -- ---- one statement

  others : (js xs ys : List ℕ) → Apart (length vars) js (xs ++ ys) → (held : Option cheri.Declared) →
      Held p vars js held → AreOthers held (map (means.declared p vars) xs)
  others js xs ys a None h = all_others p vars None xs (λ y g e. absurd cc)
  others js xs ys a (Some c) h =
      subst (λ c. AreOthers (Some c) (map (means.declared p vars) xs)) (sym h.is)
      (others_of p vars (length vars) h.number js xs ys a h.among)

  fits_one : (a : Term) (xs : Terms) → TermsFit F (with_term a xs) → TermFits F a
  fits_one a xs f = (of_terms F a xs f).0

  kind_done : (kd : StmtKind) (r : Pos) (i : Inside) (js : List ℕ) →
      ((j a : ℕ) → slice_get (values kd) j ≡ Some a → a < length p.exprs) → Known (parts kd) →
      Meets i js (kind_action (terms_of p) kd r st) → Done i js (stmt_kind_tree p vars tr sts r kd)
  kind_done (stmts.Expr a) r i js v k m g s =
      let f = of_action i tree.Evaluate _ _ r m.fits in
      either_of js g s a (v 0 a refl) m.valued.1.0 (fits_one (x a) no_terms f.0) m.scoped.1.0
  kind_done (stmts.Init var offset a) r i js v k m g s =
      let f = of_action i (tree.Init var offset) _ _ r m.fits in
      init_done js g s a (v 0 a refl) m.valued.1.0 (fits_one (x a) no_terms f.0) m.scoped.1.0 i r var offset f.1
      m.scoped.0
  kind_done (stmts.Block xs ks) r i js v k m g s =
      let f = of_action i (tree.Block xs) _ _ r m.fits in
      let n = parts_meet i js (tree.Block xs) _ _ r f.1 m in (
        inner js xs (all_declared (actions (map st ks))) m.apart m.below,
        λ h c e. statements_done ks i (xs ++ js) k n h (entered_spots p vars xs js g h c e s),
      )
  kind_done (stmts.If c a None) r i js v k m g s =
      let f = of_action i tree.If _ _ r m.fits in
      let n = parts_meet i js tree.If _ _ r none m in (
        value_of js g s c (v 0 c refl) m.valued.1.0 (fits_one (x c) no_terms f.0) m.scoped.1.0 (untagged _ f.1.0),
        k 0 a refl i js (first_meets i js (st a) _ n) g s,
        tt,
      )
  kind_done (stmts.If c a (Some b)) r i js v k m g s =
      let f = of_action i tree.If _ _ r m.fits in
      let n = parts_meet i js tree.If _ _ r none m in (
        value_of js g s c (v 0 c refl) m.valued.1.0 (fits_one (x c) no_terms f.0) m.scoped.1.0 (untagged _ f.1.0),
        k 0 a refl i js (first_meets i js (st a) _ n) g s,
        k 1 b refl i js (first_meets i js (st b) _ (rest_meet i js (st a) _ n)) g s,
      )
  kind_done (stmts.While c a) r i js v k m g s =
      let f = of_action i tree.While _ _ r m.fits in
      let n = parts_meet i js tree.While _ _ r none m in (
        value_of js g s c (v 0 c refl) m.valued.1.0 (fits_one (x c) no_terms f.0) m.scoped.1.0 (untagged _ f.1.0),
        k 0 a refl in_loop js (first_meets in_loop js (st a) _ n) g s,
      )
  kind_done (stmts.Do a c) r i js v k m g s =
      let f = of_action i tree.Do _ _ r m.fits in
      let n = parts_meet i js tree.Do _ _ r none m in (
        k 0 a refl in_loop js (first_meets in_loop js (st a) _ n) g s,
        value_of js g s c (v 0 c refl) m.valued.1.0 (fits_one (x c) no_terms f.0) m.scoped.1.0 (untagged _ f.1.0),
      )
  kind_done (stmts.For xs first None None a) r i js v k m g s =
      let n = tree.For xs (length first) false false in
      let f = of_action i n _ _ r m.fits in
      let z = firsts_done first a i (xs ++ js) k (parts_meet i js n _ _ r f.1.0 m) m.valued.0 in (
        inner js xs (all_declared (actions (map st first ++ st a ∷ []))) m.apart m.below,
        λ h c e. let t = entered_spots p vars xs js g h c e s in (z.0 h t, tt, tt, z.1 h t),
      )
  kind_done (stmts.For xs first None (Some b) a) r i js v k m g s =
      let n = tree.For xs (length first) false true in
      let f = of_action i n _ _ r m.fits in
      let z = firsts_done first a i (xs ++ js) k (parts_meet i js n _ _ r f.1.0 m) m.valued.0 in (
        inner js xs (all_declared (actions (map st first ++ st a ∷ []))) m.apart m.below,
        λ h c e. let t = entered_spots p vars xs js g h c e s in (
          z.0 h t,
          tt,
          either_of (xs ++ js) h t b (v 0 b refl) m.valued.1.0 (fits_one (x b) no_terms f.0) m.scoped.1.0,
          z.1 h t,
        ),
      )
  kind_done (stmts.For xs first (Some b) None a) r i js v k m g s =
      let n = tree.For xs (length first) true false in
      let f = of_action i n _ _ r m.fits in
      let z = firsts_done first a i (xs ++ js) k (parts_meet i js n _ _ r f.1.0 m) m.valued.0 in (
        inner js xs (all_declared (actions (map st first ++ st a ∷ []))) m.apart m.below,
        λ h c e. let t = entered_spots p vars xs js g h c e s in (
          z.0 h t,
          value_of (xs ++ js) h t b (v 0 b refl) m.valued.1.0 (fits_one (x b) no_terms f.0) m.scoped.1.0
              (untagged _ f.1.1),
          tt,
          z.1 h t,
        ),
      )
  kind_done (stmts.For xs first (Some b) (Some u) a) r i js v k m g s =
      let n = tree.For xs (length first) true true in
      let f = of_action i n _ _ r m.fits in
      let l = of_terms F (x b) (with_term (x u) no_terms) f.0 in
      let z = firsts_done first a i (xs ++ js) k (parts_meet i js n _ _ r f.1.0 m) m.valued.0 in (
        inner js xs (all_declared (actions (map st first ++ st a ∷ []))) m.apart m.below,
        λ h c e. let t = entered_spots p vars xs js g h c e s in (
          z.0 h t,
          value_of (xs ++ js) h t b (v 0 b refl) m.valued.1.0 l.0 m.scoped.1.0 (untagged _ f.1.1),
          either_of (xs ++ js) h t u (v 1 u refl) m.valued.1.1.0 (fits_one (x u) no_terms l.1) m.scoped.1.1.0,
          z.1 h t,
        ),
      )
  kind_done (stmts.Switch on xs labels ks) r i js v k m g s =
      let n = tree.Switch xs (map views.label_of labels) in
      let f = of_action i n _ _ r m.fits in
      let y = all_declared (actions (map st ks)) in
      let l = v 0 on refl in (
        inner js xs y m.apart m.below,
        value_of js g s on l m.valued.1.0 (fits_one (x on) no_terms f.0) m.scoped.1.0 (integer_untagged _ f.1.1),
        others js xs y m.apart (held_by (tr on))
            (held_in_scope p vars js w.ordered on _ (slice_get-get_or p.exprs on nothing l) m.scoped.1.0),
        once labels m.valued.0,
        subst (AreAmong (map meant_label labels)) (counts ks)
            (labels_among labels (count_of (actions (map st ks))) f.1.3),
        λ h c e. statements_done ks (in_switch i) (xs ++ js) k (parts_meet i js n _ _ r f.1.0 m) h
            (entered_spots p vars xs js g h c e s),
      )
  kind_done stmts.Break r i js v k m g s = (of_action i tree.Break _ _ r m.fits).1
  kind_done stmts.Continue r i js v k m g s = (of_action i tree.Continue _ _ r m.fits).1
  kind_done (stmts.Return None) r i js v k m g s = tt
  kind_done (stmts.Return (Some a)) r i js v k m g s =
      let f = of_action i tree.Return _ _ r m.fits in
      value_of js g s a (v 0 a refl) m.valued.1.0 (fits_one (x a) no_terms f.0) m.scoped.1.0 m.valued.0.0
  kind_done stmts.Empty r i js v k m g s = tt

  -- ---- all of them

  below_done : (n k : ℕ) → k < n → k < length p.stmts → (i : Inside) (js : List ℕ) → Meets i js (st k) →
      Done i js (sts k)
  below_done zero k lt there i js m = absurd (omega (arith, lt))
  below_done (suc n) k lt there i js m =
      let c = get_or p.stmts k empty in
      let e = slice_get-get_or p.stmts k empty there in
      let o = w.ordered in
      subst (Done i js) (sym (statement_node p vars (ordered_of p o) k c e))
      (kind_done c.kind c.pos i js (λ j a z. o.values_there k j a c e z)
      (λ j a z i js m. let l = o.parts_before k j a c e z in
      below_done n a (omega (arith, lt, l)) (omega (arith, there, l)) i js m)
      (subst (Meets i js) (statement_is p o k c e) m))

  -- ---- the function's body

  param_below : (j k : ℕ) → slice_get d.params j ≡ Some k → (k < params) × (slice_get d.params k ≡ Some k)
  param_below j k e =
      let l = slice_get_within d.params j k e in
      let i : j ≡ k = same_Some j k (sym (of.params_first j l) ∙ e) in
      (subst (λ n. n < params) i l, subst (λ n. slice_get d.params n ≡ Some n) i (of.params_first j l))

  body_apart : Apart (length vars) d.params (declared (st d.body))
  body_apart = record {
    none = λ k i. let z = among_at d.params k i in of.params_apart k (param_below z.0 k z.1).0;
    once = λ k lt. ⊎_elim (λ l. omega (arith, of.params_apart k l)) (λ l. omega (arith, of.declared_once k l lt))
        (cases_lt k params);
  }

  body_done : d.body < length p.stmts → ActionValued (st d.body) → ActionScoped d.params (st d.body) → (g : Scene) →
      HaveSpots vars g d.params → Does vars params outside g (sts d.body)
  body_done lt v s = below_done (suc d.body) d.body (omega arith) lt outside d.params (record {
    fits = of.body;
    valued = v;
    scoped = s;
    apart = body_apart;
    below = λ k l. at_among d.params k k (of.params_first k l);
  })

pub bodies_do : (p : Typed) → Sound p → BodiesDo p
bodies_do p h n d there =
    let w = well_typed p h in
    let t = h.types.types in
    body_done p (trees_stand p h) w t.program t.shows d (w.funs n d there) (w.ordered.funs n d there).1
    (valued p h n d there) (scoped p h n d there)
