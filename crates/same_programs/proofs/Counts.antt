-- Programs that stand for one program have the same counts.
use Rattle.std.proofs.Common.{◌≡◌, ℕ, suc, ◌+◌, ◌<◌, ◌≤◌, cond, List, [], ◌∷◌, length, map, get_or, Option}
use Rattle.std.proofs.Common.{Some}
use Rattle.std.proofs.Common.{None, refl, sym, ap, ◌∙◌, arith}
use Rattle.std.specs.Prelude.{slice_get, sum_by}
use Rattle.std.proofs.lemmas.List.Sums.{sum_by-cons}
use Rattle.std.proofs.lemmas.Option.{slice_get-get_or}
use Rattle.cap_concentrate.specs.Rounding.{owned}
use Rattle.ck_base.specs.declared.positions.Pos.{Pos}
use Rattle.c_tree.specs.declared.typed.CType.{CType}
use Rattle.c_tree.specs.declared.typed.CType.TheVariants as ctypes
use Rattle.c_tree.specs.declared.typed.Expr.{Expr}
use Rattle.c_tree.specs.declared.typed.ExprKind.{ExprKind}
use Rattle.c_tree.specs.declared.typed.ExprKind.TheVariants as exprs
use Rattle.c_tree.specs.declared.typed.Stmt.{Stmt}
use Rattle.c_tree.specs.declared.typed.StmtKind.{StmtKind}
use Rattle.c_tree.specs.declared.typed.StmtKind.TheVariants as stmts
use Rattle.c_tree.specs.declared.typed.Typed.{Typed}
use Rattle.c_tree.specs.declared.typed.VarDef.{VarDef}
use Rattle.c_tree.specs.Counts.{parts, var_granules, fun_granules, granules, copied, kind_copies, expr_copies}
use Rattle.c_tree.specs.Counts.{value_copies, init_copies, stmt_copies, copies, is_record}
use Rattle.c_tree.specs.Layout.{bare, extent, size_of}
use Rattle.c_tree.specs.Types.{Ty}
use Rattle.c_tree.specs.Terms.{Term, type_of, Action, Program}
use Rattle.c_tree.specs.Views.{types_of, type_at, kind_term, terms_of, term_at, kind_action, actions_of}
use Rattle.c_tree.specs.Views.{action_at, values, variable_of, routine_of, Shows, IsOrdered}
use Rattle.c_tree.proofs.Weighed.{weight_of_program}
use Rattle.obj_mem.specs.Counted.{count_of}
use Rattle.cheri_c_sem.specs.Types as types
use Rattle.same_programs.specs.Types.{peeled, is_tree_record}
use Rattle.same_programs.specs.Counts.{variable_granules, routine_granules, tree_copied, term_copies, action_copies}
use Rattle.same_programs.specs.Counts.{tree_granules, tree_copies}
use Rattle.same_programs.proofs.Nodes.{term_is, action_is}
use Rattle.same_programs.proofs.Totals.{total_is}
use Rattle.same_programs.proofs.Types.{extent_same, record_is}

sum_over : {A B : Type 0} (f : A → ℕ) (g : B → ℕ) (h : A → B) (xs : List A) →
    ((k : ℕ) (x : A) → slice_get xs k ≡ Some x → f x ≡ g (h x)) → sum_by f xs ≡ sum_by g (map h xs)
sum_over f g h [] e = refl
sum_over f g h (x ∷ xs) e =
    omega (
      arith,
      sum_by-cons f x xs,
      sum_by-cons g (h x) (map h xs),
      e 0 x refl,
      sum_over f g h xs (λ k. e (suc k)),
    )

counted_record : (c : Option CType) → is_record c ≡ types.is_record c
counted_record None = refl
counted_record (Some (ctypes.Struct tag ms)) = refl
counted_record (Some (ctypes.Union tag ms)) = refl
counted_record (Some c) = refl

module _ (p : Typed) (o : IsOrdered p) (q : Program) (s : Shows p q) (d : ℕ) (deep : length p.types ≤ d) where
  abbrev ts : List Ty
  ts = types_of p.types

  -- ---- granules

  var_same : (v : VarDef) → v.of < length p.types →
      var_granules p.types v ≡ variable_granules d q.tags (variable_of ts v)
  var_same v lt = ap (λ x. cond v.simple 0 (parts (owned (size_of x)))) (extent_same p o q s d deep v.of lt)

  granules_are : granules p ≡ tree_granules d q
  unfolding granules
  granules_are =
      sum_over (fun_granules p.types) (routine_granules d q.tags) (routine_of ts (actions_of p)) p.funs
      (λ k f e. sum_over (var_granules p.types) (variable_granules d q.tags) (variable_of ts) f.vars
      (λ j v g. var_same v (o.vars k j f v e g)))
      ∙ ap (sum_by (routine_granules d q.tags)) s.routines

  -- ---- copies

  copied_same : (t : ℕ) → t < length p.types → copied p.types t ≡ tree_copied d q.tags (type_at ts t)
  copied_same t lt =
      let r = counted_record (bare p.types t) ∙ record_is p o q s t lt in
      let x = ap (λ y. parts (size_of y)) (extent_same p o q s d deep t lt) in
      ap (λ b. cond b (parts (size_of (extent p.types t))) 0) r
      ∙ ap (λ n. cond (is_tree_record q.tags (peeled (type_at ts t))) n 0) x

  expr_level : (kind : ExprKind) (t : ℕ) (pos : Pos) (go : ℕ → Term) → t < length p.types →
      kind_copies p.types kind t ≡ term_copies d q.tags (kind_term ts kind (type_at ts t) pos go)
  expr_level (exprs.Assign a b) t pos go lt = copied_same t lt
  expr_level (exprs.Conditional a b c) t pos go lt = copied_same t lt
  expr_level kind t pos go lt = refl

  expr_same : (k : ℕ) (e : Expr) → slice_get p.exprs k ≡ Some e →
      expr_copies p.types e ≡ term_copies d q.tags (term_at (terms_of p) k)
  expr_same k e g = expr_level e.kind e.of e.pos (term_at (terms_of p)) (o.typed k e g)
      ∙ ap (term_copies d q.tags) (sym (term_is p o k e g))

  type_same : (k : ℕ) (e : Expr) → slice_get p.exprs k ≡ Some e → type_of (term_at (terms_of p) k) ≡ type_at ts e.of
  type_same k e g = ap type_of (term_is p o k e g) ∙ by e.kind
    where
      by : (kind : ExprKind) → type_of (kind_term ts kind (type_at ts e.of) e.pos (term_at (terms_of p)))
          ≡ type_at ts e.of
      by (exprs.Constant n) = refl
      by kind = refl

  stmt_level : (k : ℕ) (st : Stmt) (kind : StmtKind) (go : ℕ → Action) → slice_get p.stmts k ≡ Some st →
      st.kind ≡ kind →
      init_copies p.types p.exprs kind ≡ action_copies d q.tags (kind_action (terms_of p) kind st.pos go)
  stmt_level k st (stmts.Init x offset a) go g h =
      let lt = o.values_there k 0 a st g (ap (λ z. slice_get (values z) 0) h) in
      let none : Expr = record { kind = exprs.Constant 0; of = 0; pos = record { line = 0; col = 0 } } in
      let e = get_or p.exprs a none in
      let there : slice_get p.exprs a ≡ Some e = slice_get-get_or p.exprs a none lt in
      ap (value_copies p.types) there ∙ copied_same e.of (o.typed a e there)
      ∙ ap (tree_copied d q.tags) (sym (type_same a e there))
  stmt_level k st kind go g h = refl

  stmt_same : (k : ℕ) (st : Stmt) → slice_get p.stmts k ≡ Some st →
      stmt_copies p.types p.exprs st ≡ action_copies d q.tags (action_at (actions_of p) k)
  stmt_same k st g = stmt_level k st st.kind (action_at (actions_of p)) g refl
      ∙ ap (action_copies d q.tags) (sym (action_is p o k st g))

  copies_are : copies p ≡ tree_copies d q
  unfolding copies
  copies_are =
      total_is (term_copies d q.tags) (action_copies d q.tags) p o (expr_copies p.types) expr_same
      (stmt_copies p.types p.exprs) stmt_same q s

pub count_same : (p p' : Typed) (q : Program) → IsOrdered p → IsOrdered p' → Shows p q → Shows p' q →
    count_of p ≡ count_of p'
unfolding count_of
count_same p p' q o o' s s' =
    let d = length p.types + length p'.types in
    omega (
      arith,
      weight_of_program p q o s,
      weight_of_program p' q o' s',
      granules_are p o q s d (omega arith),
      granules_are p' o' q s' d (omega arith),
      copies_are p o q s d (omega arith),
      copies_are p' o' q s' d (omega arith),
    )
