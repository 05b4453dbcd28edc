-- The trees of a sound program have operations at promoted kinds, and copies no larger than an object may be.
use Rattle.std.proofs.Common.{◌≡◌, ℕ, zero, suc, ◌<◌, ◌≤◌, Bool, true, false, List, [], ◌∷◌, length, get_or}
use Rattle.std.proofs.Common.{Option, Some, None, refl, sym, ap, subst, ◌∙◌, arith, inl, inr, ◌⊎◌, ⊎_elim}
use Rattle.std.proofs.Common.{if◌then◌else◌}
use Rattle.std.specs.Prelude.{slice_get}
use Rattle.std.proofs.lemmas.Bool.{false≢true, cases_lt}
use Rattle.std.proofs.lemmas.Option.{slice_get_within, slice_get-get_or}
use Rattle.ck_base.specs.declared.positions.Pos.{Pos}
use Rattle.ck_int.specs.declared.kinds.IntKind.{IntKind}
use Rattle.ck_int.specs.declared.kinds.IntKind.TheVariants as int
use Rattle.ck_int.specs.declared.kinds.IntOp.{IntOp}
use Rattle.c_tree.specs.Layout.{bare, size_limit}
use Rattle.c_tree.specs.Terms as tree
use Rattle.c_tree.specs.Terms.{Shape, Term, Terms, term, no_terms, with_term, type_of}
use Rattle.c_tree.specs.Types as ty
use Rattle.c_tree.specs.Types.{Ty, is_integer, is_pointer, promoted}
use Rattle.c_tree.specs.Typing.{Sound}
use Rattle.c_tree.specs.Views.{types_of, terms_of, term_at, kind_term, operands, type_from, IsOrdered}
use Rattle.c_tree.specs.WellTyped.{Frame, TermFits, ShapeFits, type_in, WellTyped}
use Rattle.c_tree.specs.declared.typed.CType.{CType}
use Rattle.c_tree.specs.declared.typed.CType.TheVariants as types
use Rattle.c_tree.specs.declared.typed.Expr.{Expr}
use Rattle.c_tree.specs.declared.typed.ExprKind.{ExprKind}
use Rattle.c_tree.specs.declared.typed.ExprKind.TheVariants as exprs
use Rattle.c_tree.specs.declared.typed.Typed.{Typed}
use Rattle.c_tree.specs.declared.typed.UnaryOp.{UnaryOp}
use Rattle.c_tree.specs.declared.typed.UnaryOp.TheVariants as unary
use Rattle.c_tree.specs.declared.typed.VarDef.{VarDef}
use Rattle.typing_laws.proofs.Sound.{well_typed}
use Rattle.typing_laws.specs.Valued.{IsValue, IsPlace, IsComputed}
use Rattle.cheri_c_sem.specs.Expressions as meant
use Rattle.cheri_c_sem.specs.Expressions.{kind_tree, expr_tree, arguments, compound_by, step_operation, sign_of}
use Rattle.cheri_c_sem.specs.Kinds.{Kind, Plain, Capability, int_kind}
use Rattle.cheri_c_sem.specs.Tree as cheri
use Rattle.cheri_c_sem.specs.Tree.{Ex, Exs}
use Rattle.cheri_c_sem.specs.Types as meaning
use Rattle.cheri_c_sem.specs.Types.{scalar_of, kind_of, kind_or_int, is_record, is_simple, is_void, size_in}
use Rattle.cheri_c_sem.proofs.Unfold.{expression_node}
use Rattle.placement.proofs.Ordering.{ordered_of}
use Rattle.value_trees.specs.Nodes.{IsUsed, type_at}
use Rattle.value_trees.proofs.Limits.{are_small}
use Rattle.value_trees.proofs.Nodes.{expression_is, expression_type}
use Rattle.value_trees.proofs.Records.{forest_past}
use Rattle.value_trees.proofs.Uses.{are_used}
use Rattle.value_trees.proofs.Values.{of_term}
use Rattle.lower_forms.proofs.Trees.{IsPromoted, IsOperation, IsSigned, Works, AllWork}
use Rattle.lower_forms.proofs.Scalars.{kind_as, kind_is}

-- ---- kinds of promoted types

int_promoted : (k : IntKind) (n : ℕ) → promoted (ty.Int k n) ≡ ty.Int k n → IsPromoted k
int_promoted int.Bool n e = absurd cc
int_promoted int.I8 n e = absurd cc
int_promoted int.U8 n e = absurd cc
int_promoted int.I16 n e = absurd cc
int_promoted int.U16 n e = absurd cc
int_promoted int.I32 n e = omega arith
int_promoted int.U32 n e = omega arith
int_promoted int.I64 n e = omega arith
int_promoted int.U64 n e = omega arith

address_promoted : (s : Bool) → IsPromoted (int_kind (Capability s))
address_promoted true = omega arith
address_promoted false = omega arith

abbrev kind_in : Ty → Kind
kind_in t = kind_or_int (kind_as t)

signed_kind : (t : Ty) → is_integer t ≡ true → promoted t ≡ t → IsSigned (kind_in t)
signed_kind (ty.Int k n) i e = int_promoted k n e
signed_kind (ty.Cap s) i e = tt
signed_kind t i e = absurd (false≢true i)

computed_kind : (t : Ty) → (is_pointer t ≡ true) ⊎ (is_integer t ≡ true) → IsComputed t →
    IsPromoted (int_kind (kind_in t))
computed_kind (ty.Int k n) i e = int_promoted k n (e refl)
computed_kind (ty.Cap s) i e = address_promoted s
computed_kind (ty.Pointer t) i e = address_promoted false
computed_kind t i e = absurd (⊎_elim false≢true false≢true i)

step_promoted : (k : IntKind) → IsPromoted (meaning.promoted k)
step_promoted int.Bool = omega arith
step_promoted int.I8 = omega arith
step_promoted int.U8 = omega arith
step_promoted int.I16 = omega arith
step_promoted int.U16 = omega arith
step_promoted int.I32 = omega arith
step_promoted int.U32 = omega arith
step_promoted int.I64 = omega arith
step_promoted int.U64 = omega arith

-- ---- trees of nodes

sign_works : (pos : Pos) (j : Kind) (e : Ex) (op : UnaryOp) → IsSigned j → Works e → Works (sign_of pos j e op)
sign_works pos j e unary.Plus h w = (h, w)
sign_works pos j e unary.Minus h w = (h, w)
sign_works pos j e unary.Complement h w = (h, w)
sign_works pos j e unary.LogicalNot h w = w

module _ (p : Typed) (vars : List VarDef) where
  constant_works : (n : ℕ) (k : Kind) → Works (meant.constant n k)
  constant_works n (Plain k) = tt
  constant_works n (Capability s) = tt

  variable_works : (pos : Pos) (x z : ℕ) (b : Bool) → Works (if b then cheri.Variable pos x else cheri.Local pos z)
  variable_works pos x z true = tt
  variable_works pos x z false = tt

  load_works : (j : Kind) (e : Ex) (b : Bool) → Works e → Works (if b then cheri.Aggregate e else cheri.Load j e)
  load_works j e true w = w
  load_works j e false w = w

  converted_works : (pos : Pos) (plain : Bool) (e : Ex) (b : Bool) (j k : Option Kind) → Works e →
      Works (if b then cheri.Discard e else meant.conversion_by p vars pos j k plain e)
  converted_works pos plain e true j k w = w
  converted_works pos plain e false None k w = w
  converted_works pos plain e false (Some j) None w = w
  converted_works pos plain e false (Some j) (Some k) w = w

  sum_works : (pos : Pos) (y z : ℕ) (minus : Bool) (j l : Kind) (c d : Ex) (b : Bool) → Works c → Works d →
      Works (if b then cheri.Binary pos (cheri.Moved y minus false j) c d
      else cheri.Binary pos (cheri.Moved z minus true l) c d)
  sum_works pos y z minus j l c d true v w = (tt, v, w)
  sum_works pos y z minus j l c d false v w = (tt, v, w)

  assigned_works : (pos : Pos) (bytes unit : ℕ) (j : Kind) (c d : Ex) (b : Bool) → bytes ≤ size_limit → Works c →
      Works d → Works (if b then cheri.Copy pos bytes unit c d else cheri.Assign j c d)
  assigned_works pos bytes unit j c d true le v w = (le, v, w)
  assigned_works pos bytes unit j c d false le v w = (v, w)

  compound_works : (op : IntOp) (c : Option CType) (a b : ℕ) (y : Ex) → IsPromoted (int_kind (kind_of c)) →
      IsOperation (compound_by p vars op c a b y)
  compound_works op (Some (types.Pointer t)) a b y h = tt
  compound_works op (Some (types.Cap s)) a b y h = tt
  compound_works op c a b y h = h

  step_works : (adds : Bool) (c : Option CType) → IsOperation (step_operation p vars adds c)
  step_works adds (Some (types.Pointer t)) = tt
  step_works adds (Some (types.Cap s)) = tt
  step_works adds c = step_promoted (int_kind (kind_of c))

  arguments_work : (t : ℕ → Ex) (xs : List ℕ) → ((j a : ℕ) → slice_get xs j ≡ Some a → Works (t a)) →
      AllWork (arguments t xs)
  arguments_work t [] h = tt
  arguments_work t (x ∷ xs) h = (h 0 x refl, arguments_work t xs (λ j a e. h (suc j) a e))

-- ---- a sound program

module _ (p : Typed) (h : Sound p) where
  abbrev w : WellTyped p
  w = well_typed p h

  abbrev pub o : IsOrdered p
  o = w.ordered

  abbrev x : ℕ → Term
  x k = term_at (terms_of p) k

  abbrev made : ExprKind → ℕ → Pos → Term
  made kd t r = kind_term (types_of p.types) kd (type_in p t) r x

  -- the size of what an expression gives
  pub size_small : (k : ℕ) (e : Expr) → slice_get p.exprs k ≡ Some e → size_in p.types (type_at p k) ≤ size_limit
  size_small k e there =
      let u = are_used p h k e there in (are_small p h).nodes u.function.vars u.gives k u.fits

  -- an operand is there, with its type
  record IsThere (a : ℕ) : Type 0 where
    node : Expr
    there : slice_get p.exprs a ≡ Some node
    kind : kind_of (bare p.types (type_at p a)) ≡ kind_in (type_of (x a))

  operand_there : (k a : ℕ) (e : Expr) → slice_get p.exprs k ≡ Some e → a < k → IsThere a
  operand_there k a e there lt =
      let l = slice_get_within p.exprs k e there in
      let n = get_or p.exprs a e in
      let i = slice_get-get_or p.exprs a e (omega (arith, lt, l)) in
      record {
        node = n;
        there = i;
        kind = ap (λ (m : Option Expr). kind_of (bare p.types (meant.type_of m))) i
            ∙ ap kind_or_int (kind_is p o n.of (o.typed a n i)) ∙ ap kind_in (sym (expression_type p o a n i));
      }

  abbrev IsScalar : Ty → Type 0
  IsScalar t = (is_pointer t ≡ true) ⊎ (is_integer t ≡ true)

  -- the type in which a compound assignment is computed
  type_kind : (c : ℕ) → IsScalar (type_in p c) → IsComputed (type_in p c) →
      IsPromoted (int_kind (kind_of (bare p.types c)))
  type_kind c s e = ⊎_elim
      (λ lt. subst (λ k. IsPromoted (int_kind k)) (sym (ap kind_or_int (kind_is p o c lt)))
      (computed_kind (type_in p c) s e))
      (λ le. let q : type_in p c ≡ ty.Void = forest_past type_from ty.Void p.types c le in
      absurd (⊎_elim (λ i. false≢true (sym (ap is_pointer q) ∙ i)) (λ i. false≢true (sym (ap is_integer q) ∙ i)) s))
      (cases_lt c (length p.types))

  module _ (vars : List VarDef) where
    abbrev tr : ℕ → Ex
    tr k = expr_tree p vars k

    module _ (k : ℕ) (e : Expr) (there : slice_get p.exprs k ≡ Some e) (before : (a : ℕ) → a < k → Works (tr a)) where
      abbrev used : IsUsed p k
      used = are_used p h k e there

      abbrev F : Frame
      F = record { program = p; vars = used.function.vars; gives = used.gives }

      less : (kd : ExprKind) → e.kind ≡ kd → (j a : ℕ) → slice_get (operands kd) j ≡ Some a → a < k
      less kd i j a m = o.operands_before k j a e there (ap (λ z. slice_get (operands z) j) i ∙ m)

      at : (kd : ExprKind) → e.kind ≡ kd → (j a : ℕ) → slice_get (operands kd) j ≡ Some a → Works (tr a)
      at kd i j a m = before a (less kd i j a m)

      fits : (kd : ExprKind) → e.kind ≡ kd → TermFits F (made kd e.of e.pos)
      fits kd i = subst (TermFits F) (expression_is p o k e there ∙ ap (λ z. made z e.of e.pos) i) used.fits

      one : (n : Shape) (a : ℕ) (r : Pos) → TermFits F (term n (with_term (x a) no_terms) (type_in p e.of) r) →
          ShapeFits F n (with_term (x a) no_terms) (type_in p e.of)
      one n a r f = (of_term F n _ _ r f).1

      two : (n : Shape) (a b : ℕ) (r : Pos) →
          TermFits F (term n (with_term (x a) (with_term (x b) no_terms)) (type_in p e.of) r) →
          ShapeFits F n (with_term (x a) (with_term (x b) no_terms)) (type_in p e.of)
      two n a b r f = (of_term F n _ _ r f).1

      unary_works : (op : UnaryOp) (a : ℕ) → e.kind ≡ exprs.Unary op a →
          Works (kind_tree p vars tr e.of e.pos (exprs.Unary op a))
      unary_works unary.LogicalNot a i = at (exprs.Unary unary.LogicalNot a) i 0 a refl
      unary_works op a i =
          let f = one (tree.Unary op) a e.pos (fits (exprs.Unary op a) i) in
          let u = operand_there k a e there (less (exprs.Unary op a) i 0 a refl) in
          sign_works e.pos _ (tr a) op
          (subst IsSigned (sym u.kind ∙ refl)
          (signed_kind (type_of (x a)) (ap is_integer f.1 ∙ f.0) (ap promoted f.1 ∙ f.2 ∙ sym f.1)))
          (at (exprs.Unary op a) i 0 a refl)

      kind_works : (kd : ExprKind) → e.kind ≡ kd → Works (kind_tree p vars tr e.of e.pos kd)
      kind_works (exprs.Constant n) i = constant_works p vars n _
      kind_works (exprs.Literal n) i = tt
      kind_works (exprs.Var y) i = variable_works p vars e.pos y _ (is_simple (slice_get vars y))
      kind_works (exprs.Global g) i = tt
      kind_works (exprs.Fun f) i = tt
      kind_works (exprs.Load a) i =
          load_works p vars _ (tr a) (is_record (bare p.types e.of)) (at (exprs.Load a) i 0 a refl)
      kind_works (exprs.Decay a) i = at (exprs.Decay a) i 0 a refl
      kind_works (exprs.Deref a) i = at (exprs.Deref a) i 0 a refl
      kind_works (exprs.Member a m) i = at (exprs.Member a m) i 0 a refl
      kind_works (exprs.Address a) i = at (exprs.Address a) i 0 a refl
      kind_works (exprs.Convert a) i =
          converted_works p vars e.pos _ (tr a) (is_void (bare p.types e.of)) _ _ (at (exprs.Convert a) i 0 a refl)
      kind_works (exprs.Unary op a) i = unary_works op a i
      kind_works (exprs.Int op a b) i =
          let f = two (tree.Arithmetic op) a b e.pos (fits (exprs.Int op a b) i) in
          let same = f.1.0 in (
            subst (λ j. IsPromoted (int_kind j)) (sym (ap kind_or_int (kind_is p o e.of (o.typed k e there))))
                (computed_kind (type_in p e.of) (inr (ap is_integer f.0.2))
                (λ n. ap promoted (sym same) ∙ f.2.0 ∙ same)),
            at (exprs.Int op a b) i 0 a refl,
            at (exprs.Int op a b) i 1 b refl,
          )
      kind_works (exprs.Capability op a b r) i =
          (tt, at (exprs.Capability op a b r) i 0 a refl, at (exprs.Capability op a b r) i 1 b refl)
      kind_works (exprs.Plus a b minus) i =
          sum_works p vars e.pos _ _ minus _ _ (tr a) (tr b) (meaning.is_pointer (meant.bare_type p vars a))
          (at (exprs.Plus a b minus) i 0 a refl) (at (exprs.Plus a b minus) i 1 b refl)
      kind_works (exprs.Difference a b) i =
          (tt, at (exprs.Difference a b) i 0 a refl, at (exprs.Difference a b) i 1 b refl)
      kind_works (exprs.Compare op a b) i =
          (at (exprs.Compare op a b) i 0 a refl, at (exprs.Compare op a b) i 1 b refl)
      kind_works (exprs.And a b) i = (at (exprs.And a b) i 0 a refl, at (exprs.And a b) i 1 b refl)
      kind_works (exprs.Or a b) i = (at (exprs.Or a b) i 0 a refl, at (exprs.Or a b) i 1 b refl)
      kind_works (exprs.Conditional c a b) i = (
        at (exprs.Conditional c a b) i 0 c refl,
        at (exprs.Conditional c a b) i 1 a refl,
        at (exprs.Conditional c a b) i 2 b refl,
      )
      kind_works (exprs.Comma a b) i = (at (exprs.Comma a b) i 0 a refl, at (exprs.Comma a b) i 1 b refl)
      kind_works (exprs.Assign a b) i =
          let s = size_small k e there in
          assigned_works p vars e.pos _ _ _ (tr a) (tr b) (is_record (bare p.types e.of))
          (subst (λ (m : Option Expr). size_in p.types (meant.type_of m) ≤ size_limit) there s)
          (at (exprs.Assign a b) i 0 a refl) (at (exprs.Assign a b) i 1 b refl)
      kind_works (exprs.Compound op a b c) i =
          let f = two (tree.Compound op (type_in p c)) a b e.pos (fits (exprs.Compound op a b c) i) in
          let z = expression_is p o k e there ∙ ap (λ z. made z e.of e.pos) i in
          let g : IsComputed (type_in p c) =
          ⊎_elim (λ v. (subst IsValue z v).0) (λ v. absurd (subst IsPlace z v)) used.stands in
          let s : IsScalar (type_in p c) =
          ⊎_elim (λ d. inl (ap is_pointer (d.1 ∙ d.0.1))) (λ d. inr d.2) f.2 in (
            compound_works p vars op (bare p.types c) a b (tr b) (type_kind c s g),
            at (exprs.Compound op a b c) i 0 a refl,
            at (exprs.Compound op a b c) i 1 b refl,
          )
      kind_works (exprs.Step a adds front) i =
          (step_works p vars adds (meant.bare_type p vars a), at (exprs.Step a adds front) i 0 a refl, tt)
      kind_works (exprs.Call f xs) i = (
        at (exprs.Call f xs) i 0 f refl,
        arguments_work p vars tr xs (λ j a m. at (exprs.Call f xs) i (suc j) a m),
      )
      kind_works (exprs.Library n xs) i = arguments_work p vars tr xs (λ j a m. at (exprs.Library n xs) i j a m)

    past_works : (k : ℕ) → slice_get p.exprs k ≡ None → Works (tr k)
    unfolding expr_tree
    past_works k e = subst (λ m. Works (meant.node_tree p vars (meant.levels p vars k) m)) (sym e) tt

    works_below : (n k : ℕ) → k < n → Works (tr k)
    works_below zero k lt = absurd (omega (arith, lt))
    works_below (suc n) k lt = by (slice_get p.exprs k) refl (λ a l. works_below n a (omega (arith, lt, l)))
      where
        by : (m : Option Expr) → slice_get p.exprs k ≡ m → ((a : ℕ) → a < k → Works (tr a)) → Works (tr k)
        by None e f = past_works k e
        by (Some e) i f =
            subst Works (sym (expression_node p vars (ordered_of p o) k e i)) (kind_works k e i f e.kind refl)

    pub works : (k : ℕ) → Works (tr k)
    works k = works_below (suc k) k (omega arith)
