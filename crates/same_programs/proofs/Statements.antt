-- The tree of a statement is that of the action that it stands for.
use Rattle.std.proofs.Common.{◌≡◌, ℕ, zero, suc, ◌<◌, ◌≤◌, Bool, cond, List, [], ◌∷◌, ◌++◌, length}
use Rattle.std.proofs.Common.{map, get_or, Option, Some, None, refl, sym, ap, subst, ◌∙◌, arith}
use Rattle.std.specs.Prelude.{slice_get}
use Rattle.std.specs.List.{AllByRecursion}
use Rattle.std.proofs.lemmas.Option.{slice_get-get_or}
use Rattle.ck_base.specs.declared.positions.Pos.{Pos}
use Rattle.c_tree.specs.Layout.{bare}
use Rattle.c_tree.specs.declared.typed.Stmt.{Stmt}
use Rattle.c_tree.specs.declared.typed.StmtKind.{StmtKind}
use Rattle.c_tree.specs.declared.typed.StmtKind.TheVariants as stmts
use Rattle.c_tree.specs.declared.typed.SwitchLabel.{SwitchLabel}
use Rattle.c_tree.specs.declared.typed.Typed.{Typed}
use Rattle.c_tree.specs.declared.typed.VarDef.{VarDef}
use Rattle.c_tree.specs.Types.{Ty}
use Rattle.c_tree.specs.Terms as tree
use Rattle.c_tree.specs.Terms.{Term, Terms, terms, Action, actions, Variable, Program}
use Rattle.c_tree.specs.Views as views
use Rattle.c_tree.specs.Views.{types_of, type_at, terms_of, term_at, kind_action, actions_of, action_at, values, parts}
use Rattle.c_tree.specs.Views.{variable_of, Shows, IsOrdered, listed, is_some, same_number}
use Rattle.cheri_c_sem.specs.Expressions.{type_of, kind_at, expr_tree}
use Rattle.cheri_c_sem.specs.Kinds.{Kind}
use Rattle.cheri_c_sem.specs.Order.{IsAfterParts}
use Rattle.cheri_c_sem.specs.Programs.{statements, expression_of, label_of, declared, test_in}
use Rattle.cheri_c_sem.specs.Programs.{initialisation, stmt_kind_tree, stmt_tree}
use Rattle.cheri_c_sem.specs.Tree as meant
use Rattle.cheri_c_sem.specs.Tree.{Ex, St, Seq}
use Rattle.cheri_c_sem.specs.Types.{objects_before, size_in, align_in, kind_of, is_record, unit_of}
use Rattle.cheri_c_sem.proofs.Unfold.{statement_node}
use Rattle.same_programs.specs.Points.{TermPoints, TermsPoint, ActionPoints, ActionsPoint}
use Rattle.same_programs.specs.Trees.{is_tree_simple, tree_objects_before, term_ex, terms_ex, tree_declared}
use Rattle.same_programs.specs.Trees.{tree_initialisation}
use Rattle.same_programs.specs.Trees.{tree_test, tree_next, first_of, statement_at, tree_label, action_st, actions_st}
use Rattle.same_programs.specs.Types.{tree_kind, tree_size, tree_align, is_tree_record, peeled}
use Rattle.same_programs.proofs.Expressions.{simple_is, objects_are, operand_type, expression_same, kind_at_is}
use Rattle.same_programs.proofs.Needs.{map_over}
use Rattle.same_programs.proofs.Nodes.{action_is}
use Rattle.same_programs.proofs.Order.{ordered_of}
use Rattle.same_programs.proofs.Types.{kind_is, record_is, size_is, align_is}

pub map_alike : {A B : Type 0} (f g : A → B) (xs : List A) → ((x : A) → f x ≡ g x) → map f xs ≡ map g xs
map_alike f g [] h = refl
map_alike f g (x ∷ xs) h = let a = h x in let b = map_alike f g xs h in cc

module _ (p : Typed) (o : IsOrdered p) (q : Program) (s : Shows p q) (d : ℕ) (deep : length p.types ≤ d)
    (vs : List VarDef) where
  abbrev ts : List Ty
  ts = types_of p.types

  abbrev es : List Term
  es = terms_of p

  abbrev vars : List Variable
  vars = map (variable_of ts) vs

  abbrev go : ℕ → Action
  go = action_at (actions_of p)

  abbrev ex : ℕ → Ex
  ex = expr_tree p vs

  abbrev st : ℕ → St
  st = stmt_tree p vs

  abbrev of_term : Term → Ex
  of_term = term_ex d q vars

  abbrev of_action : Action → St
  of_action = action_st d q vars

  declared_is : (x : ℕ) → declared p vs x ≡ tree_declared d q vars x
  declared_is x =
      ap (λ b. cond b (meant.Simple x) (meant.Objects (objects_before vs x))) (simple_is ts vs x)
      ∙ ap (λ n. cond (is_tree_simple (slice_get vars x)) (meant.Simple x) (meant.Objects n)) (objects_are ts vs x)

  declared_are : (xs : List ℕ) → map (declared p vs) xs ≡ map (tree_declared d q vars) xs
  declared_are xs = map_alike (declared p vs) (tree_declared d q vars) xs declared_is

  initialisation_is : (pos : Pos) (x offset t : ℕ) (u : Ty) (v : Ex) → t < length p.types → u ≡ type_at ts t →
      initialisation p vs pos x offset t v ≡ tree_initialisation d q vars pos x offset u v
  initialisation_is pos x offset t u v lt e =
      let made : Bool → ℕ → Bool → ℕ → ℕ → Kind → St =
      λ b n r m a k. cond b (meant.Give x v) (cond r (meant.Fill pos n offset m (unit_of a) v)
      (meant.Init pos n offset k v))
      in
      let simple = is_tree_simple (slice_get vars x) in
      let n = tree_objects_before vars x in
      let r = is_tree_record q.tags (peeled (type_at ts t)) in
      let m = tree_size d q.tags (type_at ts t) in
      ap (λ y. made y (objects_before vs x) (is_record (bare p.types t)) (size_in p.types t) (align_in p.types t)
      (kind_of (bare p.types t))) (simple_is ts vs x)
      ∙ ap (λ y. made simple y (is_record (bare p.types t)) (size_in p.types t) (align_in p.types t)
      (kind_of (bare p.types t))) (objects_are ts vs x)
      ∙ ap (λ y. made simple n y (size_in p.types t) (align_in p.types t) (kind_of (bare p.types t)))
      (record_is p o q s t lt)
      ∙ ap (λ y. made simple n r y (align_in p.types t) (kind_of (bare p.types t))) (size_is p o q s d deep t lt)
      ∙ ap (λ y. made simple n r m y (kind_of (bare p.types t))) (align_is p o q s d deep t lt)
      ∙ ap (made simple n r m (tree_align d q.tags (type_at ts t))) (kind_is p o t lt)
      ∙ ap (λ y. tree_initialisation d q vars pos x offset y v) (sym e)

  labels_are : (ls : List SwitchLabel) →
      map (λ (l : SwitchLabel). label_of l.value l.before) ls ≡ map (tree_label d q vars) (map views.label_of ls)
  labels_are ls = map_over (λ (l : SwitchLabel). label_of l.value l.before) (tree_label d q vars) views.label_of ls
      (λ k l e. refl)

  parts_same : (ks : List ℕ) (k : ℕ) → AllByRecursion (λ c. c < k) ks →
      ((a : ℕ) → a < k → ActionPoints (go a) → st a ≡ of_action (go a)) → ActionsPoint (actions (map go ks)) →
      statements st ks ≡ actions_st d q vars (actions (map go ks))
  parts_same [] k b h z = refl
  parts_same (a ∷ ks) k b h z =
      ap (λ x. Seq x (statements st ks)) (h a b.0 z.0) ∙ ap (Seq (of_action (go a))) (parts_same ks k b.1 h z.1)

  -- the statements before the last one, and it
  first_same : (ks : List ℕ) (x : Action) →
      first_of d q vars (length ks) (actions_st d q vars (actions (map go ks ++ x ∷ [])))
      ≡ actions_st d q vars (actions (map go ks))
  first_same [] x = refl
  first_same (k ∷ ks) x = ap (Seq (of_action (go k))) (first_same ks x)

  last_same : (ks : List ℕ) (x : Action) →
      statement_at d q vars (length ks) (actions_st d q vars (actions (map go ks ++ x ∷ []))) ≡ of_action x
  last_same [] x = refl
  last_same (k ∷ ks) x = last_same ks x

  front_points : (ks : List ℕ) (x : Action) → ActionsPoint (actions (map go ks ++ x ∷ [])) →
      ActionsPoint (actions (map go ks)) × ActionPoints x
  front_points [] x z = (tt, z.0)
  front_points (k ∷ ks) x z = let r = front_points ks x z.1 in ((z.0, r.0), r.1)

  value_same : (a : ℕ) → a < length p.exprs → TermPoints (term_at es a) → ex a ≡ of_term (term_at es a)
  value_same = expression_same p o q s d deep vs

  test_kind : (a : ℕ) → a < length p.exprs → kind_at p vs a ≡ tree_kind (tree.type_of (term_at es a))
  test_kind = kind_at_is p o q s d deep vs

  -- ---- the test and the step of a `for`

  abbrev ends : Option ℕ → Option ℕ → Terms
  ends a b = terms (listed (term_at es) a ++ listed (term_at es) b)

  abbrev AreThere : Option ℕ → Option ℕ → Type 0
  AreThere a b = (j c : ℕ) → slice_get (listed same_number a ++ listed same_number b) j ≡ Some c → c < length p.exprs

  test_same : (pos : Pos) (a b : Option ℕ) → AreThere a b → TermsPoint (ends a b) →
      test_in p vs pos ex a ≡ tree_test d q vars pos (is_some a) (ends a b) (terms_ex d q vars (ends a b))
  test_same pos None None h z = refl
  test_same pos None (Some b) h z = refl
  test_same pos (Some a) None h z = rw (test_kind a (h 0 a refl), value_same a (h 0 a refl) z.0) refl
  test_same pos (Some a) (Some b) h z = rw (test_kind a (h 0 a refl), value_same a (h 0 a refl) z.0) refl

  next_same : (a b : Option ℕ) → AreThere a b → TermsPoint (ends a b) →
      expression_of ex b ≡ tree_next d q vars (is_some a) (is_some b) (terms_ex d q vars (ends a b))
  next_same None None h z = refl
  next_same None (Some b) h z = ap Some (value_same b (h 0 b refl) z.0)
  next_same (Some a) None h z = refl
  next_same (Some a) (Some b) h z = ap Some (value_same b (h 1 b refl) z.1.0)

  level : (k : ℕ) (x : Stmt) → slice_get p.stmts k ≡ Some x →
      ((a : ℕ) → a < k → ActionPoints (go a) → st a ≡ of_action (go a)) → (kind : StmtKind) → x.kind ≡ kind →
      ActionPoints (kind_action es kind x.pos go) →
      stmt_kind_tree p vs ex st x.pos kind ≡ of_action (kind_action es kind x.pos go)
  level k x g h kind is z = by kind is z
    where
      value : (j a : ℕ) (kind : StmtKind) → x.kind ≡ kind → slice_get (values kind) j ≡ Some a → a < length p.exprs
      value j a kind e f = o.values_there k j a x g (ap (λ y. slice_get (values y) j) e ∙ f)

      part : (j a : ℕ) (kind : StmtKind) → x.kind ≡ kind → slice_get (parts kind) j ≡ Some a → a < k
      part j a kind e f = o.parts_before k j a x g (ap (λ y. slice_get (parts y) j) e ∙ f)

      by : (kind : StmtKind) → x.kind ≡ kind → ActionPoints (kind_action es kind x.pos go) →
          stmt_kind_tree p vs ex st x.pos kind ≡ of_action (kind_action es kind x.pos go)
      by (stmts.Expr a) i z = ap meant.Do (value_same a (value 0 a _ i refl) z.0.0)
      by (stmts.Init n offset a) i z =
          let there = value 0 a _ i refl in
          let n_of = operand_type p o q s d deep vs a there in
          initialisation_is x.pos n offset (type_of (slice_get p.exprs a)) (tree.type_of (term_at es a)) (ex a) n_of.0
          n_of.1
          ∙ ap (tree_initialisation d q vars x.pos n offset (tree.type_of (term_at es a)))
          (value_same a there z.0.0)
      by (stmts.Block xs ks) i z =
          let all = subst (IsAfterParts k) i ((ordered_of p o).stmts k x g) in
          ap (λ l. meant.Block l (statements st ks)) (declared_are xs)
          ∙ ap (meant.Block (map (tree_declared d q vars) xs)) (parts_same ks k all h z.1)
      by (stmts.If c a None) i z =
          let there = value 0 c _ i refl in
          rw (test_kind c there, value_same c there z.0.0, h a (part 0 a _ i refl) z.1.0) refl
      by (stmts.If c a (Some b)) i z =
          let there = value 0 c _ i refl in
          rw (
            test_kind c there,
            value_same c there z.0.0,
            h a (part 0 a _ i refl) z.1.0,
            h b (part 1 b _ i refl) z.1.1.0,
          ) refl
      by (stmts.While c a) i z =
          let there = value 0 c _ i refl in
          rw (test_kind c there, value_same c there z.0.0, h a (part 0 a _ i refl) z.1.0) refl
      by (stmts.Do a c) i z =
          let there = value 0 c _ i refl in
          rw (test_kind c there, value_same c there z.0.0, h a (part 0 a _ i refl) z.1.0) refl
      by (stmts.For xs first test next a) i z =
          let all : AllByRecursion (λ c. c < k) first × (a < k) =
          subst (IsAfterParts k) i ((ordered_of p o).stmts k x g) in
          let points = front_points first (go a) z.1 in
          let fs = parts_same first k all.0 h points.0 ∙ sym (first_same first (go a)) in
          let last = h a all.1 points.1 ∙ sym (last_same first (go a)) in
          let there : AreThere test next = λ j c. value j c _ i in
          let ys = actions_st d q vars (actions (map go first ++ go a ∷ [])) in
          let xs' = map (tree_declared d q vars) xs in
          let n = length first in
          ap (λ y. meant.For y (statements st first) (test_in p vs x.pos ex test) (expression_of ex next) (st a))
          (declared_are xs)
          ∙ ap (λ y. meant.For xs' y (test_in p vs x.pos ex test) (expression_of ex next) (st a)) fs
          ∙ ap (λ y. meant.For xs' (first_of d q vars n ys) y (expression_of ex next) (st a))
          (test_same x.pos test next there z.0)
          ∙ ap (λ y. meant.For xs' (first_of d q vars n ys) (tree_test d q vars x.pos (is_some test) (ends test next)
          (terms_ex d q vars (ends test next))) y (st a)) (next_same test next there z.0)
          ∙ ap (meant.For xs' (first_of d q vars n ys) (tree_test d q vars x.pos (is_some test) (ends test next)
          (terms_ex d q vars (ends test next)))
          (tree_next d q vars (is_some test) (is_some next) (terms_ex d q vars (ends test next)))) last
      by (stmts.Switch on xs labels ks) i z =
          let all : AllByRecursion (λ c. c < k) ks = subst (IsAfterParts k) i ((ordered_of p o).stmts k x g) in
          let there = value 0 on _ i refl in
          let kind = tree_kind (tree.type_of (term_at es on)) in
          let e = of_term (term_at es on) in
          let own = map (λ (l : SwitchLabel). label_of l.value l.before) labels in
          ap (λ y. meant.Switch x.pos y (ex on) (map (declared p vs) xs) own (statements st ks)) (test_kind on there)
          ∙ ap (λ y. meant.Switch x.pos kind y (map (declared p vs) xs) own (statements st ks))
          (value_same on there z.0.0)
          ∙ ap (λ y. meant.Switch x.pos kind e y own (statements st ks)) (declared_are xs)
          ∙ ap (λ y. meant.Switch x.pos kind e (map (tree_declared d q vars) xs) y (statements st ks))
          (labels_are labels)
          ∙ ap (meant.Switch x.pos kind e (map (tree_declared d q vars) xs)
          (map (tree_label d q vars) (map views.label_of labels))) (parts_same ks k all h z.1)
      by stmts.Break i z = refl
      by stmts.Continue i z = refl
      by (stmts.Return None) i z = refl
      by (stmts.Return (Some a)) i z = ap (λ e. meant.Return (Some e)) (value_same a (value 0 a _ i refl) z.0.0)
      by stmts.Empty i z = refl

  stmt_same : (n k : ℕ) → k < n → k < length p.stmts → ActionPoints (go k) → st k ≡ of_action (go k)
  stmt_same zero k lt there z = absurd (omega arith)
  stmt_same (suc n) k lt there z =
      let none : Stmt = record { kind = stmts.Empty; pos = record { line = 0; col = 0 } } in
      let x = get_or p.stmts k none in
      let g : slice_get p.stmts k ≡ Some x = slice_get-get_or p.stmts k none there in
      let t = action_is p o k x g in
      statement_node p vs (ordered_of p o) k x g
      ∙ level k x g (λ a l. stmt_same n a (omega arith) (omega arith)) x.kind refl (subst ActionPoints t z)
      ∙ ap of_action (sym t)

  -- statement k
  pub statement_same : (k : ℕ) → k < length p.stmts → ActionPoints (action_at (actions_of p) k) →
      stmt_tree p vs k ≡ action_st d q (map (variable_of (types_of p.types)) vs) (action_at (actions_of p) k)
  statement_same k lt = stmt_same (suc k) k (omega arith) lt
