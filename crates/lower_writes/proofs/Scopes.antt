-- The trees of a sound program name variables that are declared around them, as its expressions and statements do.
use Rattle.std.proofs.Common.{◌≡◌, ℕ, zero, suc, ◌<◌, Bool, true, false, List, [], ◌∷◌, ◌++◌, length, map, get_or}
use Rattle.std.proofs.Common.{Option, Some, None, refl, sym, ap, subst, ◌∙◌, arith, inl, inr, ◌⊎◌, if◌then◌else◌}
use Rattle.std.specs.Prelude.{slice_get}
use Rattle.std.proofs.lemmas.Option.{slice_get-get_or, slice_get_within}
use Rattle.ck_base.specs.declared.positions.Pos.{Pos}
use Rattle.c_tree.specs.Layout.{bare}
use Rattle.c_tree.specs.Terms.{Term, terms, Action, actions}
use Rattle.c_tree.specs.Typing.{Sound}
use Rattle.c_tree.specs.Views.{types_of, terms_of, term_at, kind_term, operands, IsOrdered, actions_of, action_at}
use Rattle.c_tree.specs.Views.{kind_action, values, parts}
use Rattle.c_tree.specs.WellTyped.{type_in}
use Rattle.c_tree.specs.declared.typed.Expr.{Expr}
use Rattle.c_tree.specs.declared.typed.ExprKind.{ExprKind}
use Rattle.c_tree.specs.declared.typed.ExprKind.TheVariants as exprs
use Rattle.c_tree.specs.declared.typed.Stmt.{Stmt}
use Rattle.c_tree.specs.declared.typed.StmtKind.{StmtKind}
use Rattle.c_tree.specs.declared.typed.StmtKind.TheVariants as stmts
use Rattle.c_tree.specs.declared.typed.Typed.{Typed}
use Rattle.c_tree.specs.declared.typed.UnaryOp.{UnaryOp}
use Rattle.c_tree.specs.declared.typed.UnaryOp.TheVariants as unary
use Rattle.c_tree.specs.declared.typed.VarDef.{VarDef}
use Rattle.typing_laws.specs.Scoping.{IsAmong, TermScoped, TermsScoped, ActionScoped, ActionsScoped}
use Rattle.typing_laws.proofs.scopes.Whole.{scoped}
use Rattle.cheri_c_sem.specs.Expressions as meant
use Rattle.cheri_c_sem.specs.Expressions.{constant, kind_tree, expr_tree, variable, arguments, bare_type, type_of}
use Rattle.cheri_c_sem.specs.Kinds.{Kind, Plain, Capability}
use Rattle.cheri_c_sem.specs.Programs.{declared, parameter_of, stmt_tree, statements, initialisation, stmt_kind_tree}
use Rattle.cheri_c_sem.specs.Tree as cheri
use Rattle.cheri_c_sem.specs.Tree.{Ex, Load, Aggregate, Discard, Copy, Assign, Declared, Simple, Objects, St, Give}
use Rattle.cheri_c_sem.specs.Tree.{Init, Fill, Parameter, In_variable, In_object}
use Rattle.cheri_c_sem.specs.Types.{is_simple, is_record, is_void, is_pointer, objects_before, size_in, align_in}
use Rattle.cheri_c_sem.specs.Types.{unit_of}
use Rattle.cheri_c_sem.specs.Types.{kind_of, type_of_var}
use Rattle.cheri_c_sem.proofs.Unfold.{expression_node, statement_node}
use Rattle.placement.proofs.Ordering.{ordered_of}
use Rattle.value_trees.proofs.Blocks.{among_either}
use Rattle.value_trees.proofs.Nodes.{expression_is, statement_is}
use Rattle.lower_writes.specs.Naming.{IsDeclared, Names, AllName, Says, AllSay, within_block}
use Rattle.lower_writes.specs.Naming.{declared_by, with_parameters, BodiesName}

-- ---- those that are declared

block_more : (es ds : List Declared) (d : Declared) → IsDeclared ds d → IsDeclared (within_block es ds) d
block_more [] ds d h = h
block_more (e ∷ es) ds d h = block_more es (e ∷ ds) d (inr h)

parameters_more : (ps : List Parameter) (ds : List Declared) (d : Declared) → IsDeclared ds d →
    IsDeclared (with_parameters ps ds) d
parameters_more [] ds d h = h
parameters_more (a ∷ ps) ds d h = parameters_more ps (declared_by a ∷ ds) d (inr h)

module _ (p : Typed) (vars : List VarDef) where
  abbrev dc : ℕ → Declared
  dc x = declared p vars x

  -- the variables that are in scope are declared
  abbrev AreDeclared : List ℕ → List Declared → Type 0
  AreDeclared js ds = (y : ℕ) → IsAmong js y → IsDeclared ds (dc y)

  block_own : (xs : List ℕ) (ds : List Declared) → AreDeclared xs (within_block (map dc xs) ds)
  block_own [] ds y h = absurd h
  block_own (x ∷ xs) ds y (inl e) = block_more (map dc xs) (dc x ∷ ds) (dc y) (inl (ap dc e))
  block_own (x ∷ xs) ds y (inr h) = block_own xs (dc x ∷ ds) y h

  block_declared : (xs js : List ℕ) (ds : List Declared) → AreDeclared js ds →
      AreDeclared (xs ++ js) (within_block (map dc xs) ds)
  block_declared xs js ds has y h = by (among_either xs js y h)
    where
      by : IsAmong xs y ⊎ IsAmong js y → IsDeclared (within_block (map dc xs) ds) (dc y)
      by (inl g) = block_own xs ds y g
      by (inr g) = block_more (map dc xs) ds (dc y) (has y g)

  parameter_declared : (x : ℕ) → declared_by (parameter_of p vars x) ≡ dc x
  parameter_declared x = by (is_simple (slice_get vars x))
    where
      by : (b : Bool) → declared_by (if b then In_variable x
          else In_object (objects_before vars x) (kind_of (bare p.types (type_of_var (slice_get vars x)))))
          ≡ (if b then Simple x else Objects (objects_before vars x))
      by true = refl
      by false = refl

  parameters_declared : (xs : List ℕ) (ds : List Declared) →
      AreDeclared xs (with_parameters (map (parameter_of p vars) xs) ds)
  parameters_declared [] ds y h = absurd h
  parameters_declared (x ∷ xs) ds y (inl e) =
      parameters_more (map (parameter_of p vars) xs) (declared_by (parameter_of p vars x) ∷ ds) (dc y)
      (inl (parameter_declared x ∙ ap dc e))
  parameters_declared (x ∷ xs) ds y (inr h) = parameters_declared xs (declared_by (parameter_of p vars x) ∷ ds) y h

  -- ---- expressions

  module _ (ds : List Declared) where
    variable_names : (q : Pos) (y : ℕ) → IsDeclared ds (dc y) → Names ds (variable p vars q y)
    variable_names q y h = by (is_simple (slice_get vars y)) h
      where
        by : (b : Bool) → IsDeclared ds (if b then Simple y else Objects (objects_before vars y)) →
            Names ds (if b then cheri.Variable q y else cheri.Local q (objects_before vars y))
        by true h = h
        by false h = h

    constant_names : (n : ℕ) (k : Kind) → Names ds (constant n k)
    constant_names n (Plain k) = tt
    constant_names n (Capability s) = tt

    load_names : (b : Bool) (k : Kind) (e : Ex) → Names ds e → Names ds (if b then Aggregate e else Load k e)
    load_names true k e h = h
    load_names false k e h = h

    sign_names : (q : Pos) (k : Kind) (e : Ex) (op : UnaryOp) → Names ds e → Names ds (meant.sign_of q k e op)
    sign_names q k e unary.Plus h = h
    sign_names q k e unary.Minus h = h
    sign_names q k e unary.Complement h = h
    sign_names q k e unary.LogicalNot h = h

    convert_names : (q : Pos) (b plain : Bool) (old new : Option Kind) (e : Ex) → Names ds e →
        Names ds (if b then Discard e else meant.conversion_by p vars q old new plain e)
    convert_names q true plain old new e h = h
    convert_names q false plain (Some j) (Some k) e h = h
    convert_names q false plain None new e h = h
    convert_names q false plain (Some j) None e h = h

    sum_names : (q : Pos) (b : Bool) (m n : cheri.Operation) (c d : Ex) → Names ds c → Names ds d →
        Names ds (if b then cheri.Binary q m c d else cheri.Binary q n c d)
    sum_names q true m n c d g h = (g, h)
    sum_names q false m n c d g h = (g, h)

    assign_names : (q : Pos) (b : Bool) (m u : ℕ) (k : Kind) (c d : Ex) → Names ds c → Names ds d →
        Names ds (if b then Copy q m u c d else Assign k c d)
    assign_names q true m u k c d g h = (g, h)
    assign_names q false m u k c d g h = (g, h)

  abbrev x : ℕ → Term
  x k = term_at (terms_of p) k

  abbrev tr : ℕ → Ex
  tr k = expr_tree p vars k

  module _ (o : IsOrdered p) where
    module _ (js : List ℕ) (ds : List Declared) (has : AreDeclared js ds) where
      arguments_name : (xs : List ℕ) → ((j a : ℕ) → slice_get xs j ≡ Some a → TermScoped js (x a) → Names ds (tr a)) →
          TermsScoped js (terms (map x xs)) → AllName ds (arguments tr xs)
      arguments_name [] h s = tt
      arguments_name (a ∷ xs) h s = (h 0 a refl s.0, arguments_name xs (λ j b e. h (suc j) b e) s.1)

      kind_names : (kd : ExprKind) (of : ℕ) (q : Pos) →
          ((j a : ℕ) → slice_get (operands kd) j ≡ Some a → TermScoped js (x a) → Names ds (tr a)) →
          TermScoped js (kind_term (types_of p.types) kd (type_in p of) q x) → Names ds (kind_tree p vars tr of q kd)
      kind_names (exprs.Constant n) of q h s = constant_names ds n _
      kind_names (exprs.Literal k) of q h s = tt
      kind_names (exprs.Var y) of q h s = variable_names ds q y (has y s.0)
      kind_names (exprs.Global k) of q h s = tt
      kind_names (exprs.Fun k) of q h s = tt
      kind_names (exprs.Load a) of q h s = load_names ds (is_record (bare p.types of)) _ (tr a) (h 0 a refl s.1.0)
      kind_names (exprs.Decay a) of q h s = h 0 a refl s.1.0
      kind_names (exprs.Deref a) of q h s = h 0 a refl s.1.0
      kind_names (exprs.Member a m) of q h s = h 0 a refl s.1.0
      kind_names (exprs.Address a) of q h s = h 0 a refl s.1.0
      kind_names (exprs.Convert a) of q h s =
          convert_names ds q (is_void (bare p.types of)) _ _ _ (tr a) (h 0 a refl s.1.0)
      kind_names (exprs.Unary op a) of q h s = sign_names ds q _ (tr a) op (h 0 a refl s.1.0)
      kind_names (exprs.Int op a b) of q h s = (h 0 a refl s.1.0, h 1 b refl s.1.1.0)
      kind_names (exprs.Capability op a b r) of q h s = (h 0 a refl s.1.0, h 1 b refl s.1.1.0)
      kind_names (exprs.Plus a b minus) of q h s =
          sum_names ds q (is_pointer (bare_type p vars a)) _ _ (tr a) (tr b) (h 0 a refl s.1.0) (h 1 b refl s.1.1.0)
      kind_names (exprs.Difference a b) of q h s = (h 0 a refl s.1.0, h 1 b refl s.1.1.0)
      kind_names (exprs.Compare op a b) of q h s = (h 0 a refl s.1.0, h 1 b refl s.1.1.0)
      kind_names (exprs.And a b) of q h s = (h 0 a refl s.1.0, h 1 b refl s.1.1.0)
      kind_names (exprs.Or a b) of q h s = (h 0 a refl s.1.0, h 1 b refl s.1.1.0)
      kind_names (exprs.Conditional c a b) of q h s =
          (h 0 c refl s.1.0, h 1 a refl s.1.1.0, h 2 b refl s.1.1.1.0)
      kind_names (exprs.Comma a b) of q h s = (h 0 a refl s.1.0, h 1 b refl s.1.1.0)
      kind_names (exprs.Assign a b) of q h s =
          assign_names ds q (is_record (bare p.types of)) _ _ _ (tr a) (tr b) (h 0 a refl s.1.0) (h 1 b refl s.1.1.0)
      kind_names (exprs.Compound op a b c) of q h s = (h 0 a refl s.1.0, h 1 b refl s.1.1.0)
      kind_names (exprs.Step a adds front) of q h s = (h 0 a refl s.1.0, tt)
      kind_names (exprs.Call c xs) of q h s =
          (h 0 c refl s.1.0, arguments_name xs (λ j a e. h (suc j) a e) s.1.1)
      kind_names (exprs.Library c xs) of q h s = arguments_name xs h s.1

      names_below : (n k : ℕ) → k < n → (e : Expr) → slice_get p.exprs k ≡ Some e → TermScoped js (x k) →
          Names ds (tr k)
      names_below zero k lt e h s = absurd (omega (arith, lt))
      names_below (suc n) k lt e h s =
          let l = slice_get_within p.exprs k e h in
          subst (Names ds) (sym (expression_node p vars (ordered_of p o) k e h))
          (kind_names e.kind e.of e.pos (λ j a i t. let m = o.operands_before k j a e h i in
          names_below n a (omega (arith, lt, m)) (get_or p.exprs a e)
          (slice_get-get_or p.exprs a e (omega (arith, l, m))) t)
          (subst (TermScoped js) (expression_is p o k e h) s))

      expression_names : (k : ℕ) → k < length p.exprs → TermScoped js (x k) → Names ds (tr k)
      expression_names k lt s = names_below (suc k) k (omega arith) (get_or p.exprs k nothing)
          (slice_get-get_or p.exprs k nothing lt) s
        where
          nothing : Expr
          nothing = record { kind = exprs.Constant 0; of = 0; pos = record { line = 0; col = 0 } }

      init_says : (r : Pos) (y offset t : ℕ) (e : Ex) → IsDeclared ds (dc y) → Names ds e →
          Says ds (initialisation p vars r y offset t e)
      init_says r y offset t e h n = by (is_simple (slice_get vars y)) (is_record (bare p.types t)) h
        where
          by : (b c : Bool) → IsDeclared ds (if b then Simple y else Objects (objects_before vars y)) →
              Says ds (if b then Give y e else if c
              then Fill r (objects_before vars y) offset (size_in p.types t) (unit_of (align_in p.types t)) e
              else Init r (objects_before vars y) offset (kind_of (bare p.types t)) e)
          by true c h = n
          by false true h = (h, n)
          by false false h = (h, n)

    -- ---- statements

    abbrev st : ℕ → Action
    st k = action_at (actions_of p) k

    abbrev sts : ℕ → St
    sts k = stmt_tree p vars k

    abbrev Known : List ℕ → Type 0
    Known ks = (j a : ℕ) → slice_get ks j ≡ Some a → (js : List ℕ) (ds : List Declared) → AreDeclared js ds →
        ActionScoped js (st a) → Says ds (sts a)

    statements_say : (ks : List ℕ) (js : List ℕ) (ds : List Declared) → AreDeclared js ds → Known ks →
        ActionsScoped js (actions (map st ks)) → AllSay ds (statements sts ks)
    statements_say [] js ds has r s = tt
    statements_say (k ∷ ks) js ds has r s =
        (r 0 k refl js ds has s.0, statements_say ks js ds has (λ j a e. r (suc j) a e) s.1)

    firsts_say : (ks : List ℕ) (y : ℕ) (js : List ℕ) (ds : List Declared) → AreDeclared js ds → Known (ks ++ y ∷ []) →
        ActionsScoped js (actions (map st ks ++ st y ∷ [])) → AllSay ds (statements sts ks) × Says ds (sts y)
    firsts_say [] y js ds has r s = (tt, r 0 y refl js ds has s.0)
    firsts_say (k ∷ ks) y js ds has r s =
        let z = firsts_say ks y js ds has (λ j a e. r (suc j) a e) s.1 in ((r 0 k refl js ds has s.0, z.0), z.1)

    kind_says : (kd : StmtKind) (r : Pos) (js : List ℕ) (ds : List Declared) → AreDeclared js ds →
        ((j a : ℕ) → slice_get (values kd) j ≡ Some a → a < length p.exprs) → Known (parts kd) →
        ActionScoped js (kind_action (terms_of p) kd r st) → Says ds (stmt_kind_tree p vars tr sts r kd)
    kind_says (stmts.Expr a) r js ds has v k s = expression_names js ds has a (v 0 a refl) s.1.0
    kind_says (stmts.Init y offset a) r js ds has v k s =
        init_says js ds has r y offset (type_of (slice_get p.exprs a)) (tr a) (has y s.0)
        (expression_names js ds has a (v 0 a refl) s.1.0)
    kind_says (stmts.Block xs ks) r js ds has v k s =
        statements_say ks (xs ++ js) (within_block (map dc xs) ds) (block_declared xs js ds has) k s.2
    kind_says (stmts.If c a None) r js ds has v k s =
        (expression_names js ds has c (v 0 c refl) s.1.0, k 0 a refl js ds has s.2.0, tt)
    kind_says (stmts.If c a (Some b)) r js ds has v k s = (
      expression_names js ds has c (v 0 c refl) s.1.0,
      k 0 a refl js ds has s.2.0,
      k 1 b refl js ds has s.2.1.0,
    )
    kind_says (stmts.While c a) r js ds has v k s =
        (expression_names js ds has c (v 0 c refl) s.1.0, k 0 a refl js ds has s.2.0)
    kind_says (stmts.Do a c) r js ds has v k s =
        (k 0 a refl js ds has s.2.0, expression_names js ds has c (v 0 c refl) s.1.0)
    kind_says (stmts.For xs first None None a) r js ds has v k s =
        let z = firsts_say first a (xs ++ js) (within_block (map dc xs) ds) (block_declared xs js ds has) k s.2 in
        (z.0, tt, tt, z.1)
    kind_says (stmts.For xs first None (Some b) a) r js ds has v k s =
        let more = block_declared xs js ds has in
        let z = firsts_say first a (xs ++ js) (within_block (map dc xs) ds) more k s.2 in
        (z.0, tt, expression_names (xs ++ js) (within_block (map dc xs) ds) more b (v 0 b refl) s.1.0, z.1)
    kind_says (stmts.For xs first (Some b) None a) r js ds has v k s =
        let more = block_declared xs js ds has in
        let z = firsts_say first a (xs ++ js) (within_block (map dc xs) ds) more k s.2 in
        (z.0, expression_names (xs ++ js) (within_block (map dc xs) ds) more b (v 0 b refl) s.1.0, tt, z.1)
    kind_says (stmts.For xs first (Some b) (Some u) a) r js ds has v k s =
        let more = block_declared xs js ds has in
        let z = firsts_say first a (xs ++ js) (within_block (map dc xs) ds) more k s.2 in (
          z.0,
          expression_names (xs ++ js) (within_block (map dc xs) ds) more b (v 0 b refl) s.1.0,
          expression_names (xs ++ js) (within_block (map dc xs) ds) more u (v 1 u refl) s.1.1.0,
          z.1,
        )
    kind_says (stmts.Switch on xs labels ks) r js ds has v k s = (
      expression_names js ds has on (v 0 on refl) s.1.0,
      statements_say ks (xs ++ js) (within_block (map dc xs) ds) (block_declared xs js ds has) k s.2,
    )
    kind_says stmts.Break r js ds has v k s = tt
    kind_says stmts.Continue r js ds has v k s = tt
    kind_says (stmts.Return None) r js ds has v k s = tt
    kind_says (stmts.Return (Some a)) r js ds has v k s = expression_names js ds has a (v 0 a refl) s.1.0
    kind_says stmts.Empty r js ds has v k s = tt

    says_below : (n k : ℕ) → k < n → k < length p.stmts → (js : List ℕ) (ds : List Declared) → AreDeclared js ds →
        ActionScoped js (st k) → Says ds (sts k)
    says_below zero k lt there js ds has s = absurd (omega (arith, lt))
    says_below (suc n) k lt there js ds has s =
        let c = get_or p.stmts k empty in
        let e = slice_get-get_or p.stmts k empty there in
        subst (Says ds) (sym (statement_node p vars (ordered_of p o) k c e))
        (kind_says c.kind c.pos js ds has (λ j a z. o.values_there k j a c e z)
        (λ j a z js2 ds2 has2 s2. let l = o.parts_before k j a c e z in
        says_below n a (omega (arith, lt, l)) (omega (arith, there, l)) js2 ds2 has2 s2)
        (subst (ActionScoped js) (statement_is p o k c e) s))
      where
        empty : Stmt
        empty = record { kind = stmts.Empty; pos = record { line = 0; col = 0 } }

pub bodies_name : (p : Typed) → Sound p → BodiesName p
bodies_name p h n d there =
    let o = h.types.types.ordered in
    says_below p d.vars o (suc d.body) d.body (omega arith) (o.funs n d there).1 d.params
    (with_parameters (map (parameter_of p d.vars) d.params) []) (parameters_declared p d.vars d.params [])
    (scoped p h n d there)
