-- The operation that an expression is, by what is known of its type.
use Rattle.std.proofs.Common.{◌≡◌, ℕ, ◌<◌, Bool, true, false, List, Option, Some, None, refl, sym, ap, subst, ◌∙◌}
use Rattle.std.specs.Prelude.{◌&&◌, ◌||◌, is_some, slice_get, if◌then◌else◌}
use Rattle.ck_base.specs.declared.positions.Pos.{Pos}
use Rattle.ck_int.specs.declared.kinds.IntKind.{IntKind}
use Rattle.ck_int.specs.declared.kinds.IntOp.{IntOp}
use Rattle.c_tree.specs.declared.typed.CType.{CType}
use Rattle.c_tree.specs.declared.typed.CType.TheVariants as types
use Rattle.c_tree.specs.declared.typed.Typed.{Typed}
use Rattle.c_tree.specs.declared.typed.VarDef.{VarDef}
use Rattle.c_tree.specs.Layout.{bare}
use Rattle.c_tree.specs.declared.typed.Expr.{Expr}
use Rattle.c_tree.specs.declared.typed.ExprKind.{ExprKind}
use Rattle.c_tree.specs.declared.typed.ExprKind.TheVariants as exprs
use Rattle.c_tree.specs.declared.typed.UnaryOp.{UnaryOp}
use Rattle.c_tree.specs.declared.typed.UnaryOp.TheVariants as unary
use Rattle.cheri_c_sem.specs.Expressions.{compound_by, step_operation, from_plain, conversion, conversion_by}
use Rattle.cheri_c_sem.specs.Expressions.{bare_type, constant, expr_tree, kind_tree, levels, makes_from_plain}
use Rattle.cheri_c_sem.specs.Expressions.{node_tree}
use Rattle.cheri_c_sem.specs.Expressions.{element_size, kind_at, sign_of, type_of}
use Rattle.cheri_c_sem.specs.Kinds.{Kind, Plain, Capability, int_kind}
use Rattle.cheri_c_sem.specs.Order.{IsAfterOperands, Ordered}
use Rattle.cheri_c_sem.specs.Tree.{Ex, Operation, Aggregate, Apart, Assign, Binary, Copy, Derived, Discard, Load, Local}
use Rattle.cheri_c_sem.specs.Tree.{Moved, Variable, Whole}
use Rattle.cheri_c_sem.specs.Types.{scalar_of, kind_of, kind_or_int, is_pointer, is_record, is_simple, pointee_of}
use Rattle.cheri_c_sem.specs.Types.{derived, is_plain, is_signed_capability, is_void, size_in, takes_away}
use Rattle.cheri_c_sem.proofs.Unfold.{expression_node}
use Rattle.mean_run.specs.Choices.{compound_in, converts, operand_of, step_in, is_capability_integer}
use Rattle.mean_run.specs.Sources.{IsFit}
use Rattle.mean_run.specs.Steps.{is_kept}

module _ (p : Typed) (vars : List VarDef) where
  pub compound_is : (op : IntOp) (o : Option CType) (a b : ℕ) (y : Ex) →
      compound_by p vars op o a b y
      ≡ compound_in p vars op (is_pointer o) (pointee_of o) (kind_or_int (scalar_of o)) a b y
  compound_is op None a b y = refl
  compound_is op (Some types.Void) a b y = refl
  compound_is op (Some (types.Int k n)) a b y = refl
  compound_is op (Some (types.Cap signed)) a b y = refl
  compound_is op (Some (types.Pointer t)) a b y = refl
  compound_is op (Some (types.Array t n)) a b y = refl
  compound_is op (Some (types.Struct tag ms)) a b y = refl
  compound_is op (Some (types.Union tag ms)) a b y = refl
  compound_is op (Some (types.Function t ps)) a b y = refl
  compound_is op (Some (types.Const t)) a b y = refl
  compound_is op (Some (types.Incomplete tag)) a b y = refl

  pub step_is : (adds : Bool) (o : Option CType) →
      step_operation p vars adds o ≡ step_in p adds (is_pointer o) (pointee_of o) (kind_or_int (scalar_of o))
  step_is adds None = refl
  step_is adds (Some types.Void) = refl
  step_is adds (Some (types.Int k n)) = refl
  step_is adds (Some (types.Cap signed)) = refl
  step_is adds (Some (types.Pointer t)) = refl
  step_is adds (Some (types.Array t n)) = refl
  step_is adds (Some (types.Struct tag ms)) = refl
  step_is adds (Some (types.Union tag ms)) = refl
  step_is adds (Some (types.Function t ps)) = refl
  step_is adds (Some (types.Const t)) = refl
  step_is adds (Some (types.Incomplete tag)) = refl

  module _ (op : IntOp) (o : Option CType) (a b : ℕ) (y : Ex) where
    pub compound_pointer : (t size : ℕ) (m : Bool) (k : Kind) → is_pointer o ≡ true → t ≡ pointee_of o →
        size ≡ size_in p.types t → m ≡ takes_away op → k ≡ kind_at p vars b →
        Moved size m false k ≡ compound_by p vars op o a b y
    compound_pointer t size m k h t_is size_is m_is k_is =
        rw (size_is, t_is, m_is, k_is, compound_is op o a b y, h) refl

    pub compound_plain : (j : IntKind) (k : Kind) → is_pointer o ≡ false → Plain j ≡ kind_or_int (scalar_of o) →
        k ≡ kind_at p vars b → Whole op j k ≡ compound_by p vars op o a b y
    compound_plain j k h j_is k_is = rw (k_is, compound_is op o a b y, h, ← j_is) refl

    pub compound_capability : (signed : Bool) (d : Operation) → is_pointer o ≡ false →
        Capability signed ≡ kind_or_int (scalar_of o) →
        d ≡ derived op signed (kind_at p vars b) (is_plain (bare_type p vars a))
        (if is_plain (bare_type p vars b) then true else from_plain y) → d ≡ compound_by p vars op o a b y
    compound_capability signed d h signed_is d_is = d_is ∙ rw (compound_is op o a b y, h, ← signed_is) refl

  -- ---- the binary operation that a node is
  module _ (of : ℕ) (pos : Pos) (kind : ExprKind) (a b : ℕ) where
    abbrev tree : ℕ → Ex
    tree = expr_tree p vars

    pub int_is : (op : IntOp) (j : IntKind) (k : Kind) → kind ≡ exprs.Int op a b →
        j ≡ int_kind (kind_of (bare p.types of)) → k ≡ kind_at p vars b →
        kind_tree p vars tree of pos kind ≡ Binary pos (Whole op j k) (tree a) (tree b)
    int_is op j k h j_is k_is = rw (h, j_is, k_is) refl

    pub capability_is : (op : IntOp) (right signed : Bool) (k : Kind) (c : ℕ) (plain : Bool) →
        kind ≡ exprs.Capability op a b right → signed ≡ is_signed_capability (bare p.types of) → k ≡ kind_at p vars b →
        c ≡ (if right then a else b) → plain ≡ from_plain (tree c) →
        kind_tree p vars tree of pos kind ≡ Binary pos (Derived op signed k right plain) (tree a) (tree b)
    capability_is op true signed k c plain h s_is k_is c_is plain_is = rw (h, s_is, k_is, plain_is, c_is) refl
    capability_is op false signed k c plain h s_is k_is c_is plain_is = rw (h, s_is, k_is, plain_is, c_is) refl

    pub difference_is : (size : ℕ) → kind ≡ exprs.Difference a b → size ≡ element_size p vars a →
        kind_tree p vars tree of pos kind ≡ Binary pos (Apart size) (tree a) (tree b)
    difference_is size h size_is = rw (h, size_is) refl

    by_either : (c : Bool) (o l r : Operation) (x y : Ex) → o ≡ (if c then l else r) →
        (if c then Binary pos l x y else Binary pos r x y) ≡ Binary pos o x y
    by_either true o l r x y e = ap (λ o. Binary pos o x y) (sym e)
    by_either false o l r x y e = ap (λ o. Binary pos o x y) (sym e)

    pub plus_is : (minus : Bool) (o : Operation) → kind ≡ exprs.Plus a b minus →
        o ≡ (if is_pointer (bare_type p vars a) then Moved (element_size p vars a) minus false (kind_at p vars b)
        else Moved (element_size p vars b) minus true (kind_at p vars a)) →
        kind_tree p vars tree of pos kind ≡ Binary pos o (tree a) (tree b)
    plus_is minus o h e = rw h (by_either (is_pointer (bare_type p vars a)) o _ _ (tree a) (tree b) e)

  -- ---- conversions from plain integers

  and_false : (b : Bool) → false ≡ (b && false)
  and_false true = refl
  and_false false = refl

  and_true : (b : Bool) → b ≡ (b && true)
  and_true true = refl
  and_true false = refl

  -- what a conversion of a type to a type makes
  abbrev pub made : Option CType → Option CType → Ex → Bool
  made old new e = (is_plain old || (is_capability_integer old && from_plain e)) && is_capability_integer new

  makes_is : (old new : Option CType) (e : Ex) → makes_from_plain p vars old new e ≡ made old new e
  makes_is None new e = refl
  makes_is (Some types.Void) new e = refl
  makes_is (Some (types.Int k n)) None e = refl
  makes_is (Some (types.Int k n)) (Some types.Void) e = refl
  makes_is (Some (types.Int k n)) (Some (types.Int j m)) e = refl
  makes_is (Some (types.Int k n)) (Some (types.Cap signed')) e = refl
  makes_is (Some (types.Int k n)) (Some (types.Pointer u)) e = refl
  makes_is (Some (types.Int k n)) (Some (types.Array u m)) e = refl
  makes_is (Some (types.Int k n)) (Some (types.Struct tag' ms)) e = refl
  makes_is (Some (types.Int k n)) (Some (types.Union tag' ms)) e = refl
  makes_is (Some (types.Int k n)) (Some (types.Function u ps)) e = refl
  makes_is (Some (types.Int k n)) (Some (types.Const u)) e = refl
  makes_is (Some (types.Int k n)) (Some (types.Incomplete tag')) e = refl
  makes_is (Some (types.Cap signed)) None e = and_false (from_plain e)
  makes_is (Some (types.Cap signed)) (Some types.Void) e = and_false (from_plain e)
  makes_is (Some (types.Cap signed)) (Some (types.Int j m)) e = and_false (from_plain e)
  makes_is (Some (types.Cap signed)) (Some (types.Cap signed')) e = and_true (from_plain e)
  makes_is (Some (types.Cap signed)) (Some (types.Pointer u)) e = and_false (from_plain e)
  makes_is (Some (types.Cap signed)) (Some (types.Array u m)) e = and_false (from_plain e)
  makes_is (Some (types.Cap signed)) (Some (types.Struct tag' ms)) e = and_false (from_plain e)
  makes_is (Some (types.Cap signed)) (Some (types.Union tag' ms)) e = and_false (from_plain e)
  makes_is (Some (types.Cap signed)) (Some (types.Function u ps)) e = and_false (from_plain e)
  makes_is (Some (types.Cap signed)) (Some (types.Const u)) e = and_false (from_plain e)
  makes_is (Some (types.Cap signed)) (Some (types.Incomplete tag')) e = and_false (from_plain e)
  makes_is (Some (types.Pointer t)) new e = refl
  makes_is (Some (types.Array t n)) new e = refl
  makes_is (Some (types.Struct tag ms)) new e = refl
  makes_is (Some (types.Union tag ms)) new e = refl
  makes_is (Some (types.Function t ps)) new e = refl
  makes_is (Some (types.Const t)) new e = refl
  makes_is (Some (types.Incomplete tag)) new e = refl

  kept_plain : (j l : Option Kind) (pos : Pos) (plain : Bool) (e : Ex) → (is_some j && is_some l) ≡ true →
      from_plain (conversion_by p vars pos j l plain e) ≡ plain
  kept_plain (Some j) (Some l) pos plain e h = refl
  kept_plain (Some j) None pos plain e h = absurd (let g : false ≡ true = h in cc)
  kept_plain None l pos plain e h = absurd (let g : false ≡ true = h in cc)

  by_void : (v : Bool) (old new : Option CType) (pos : Pos) (e x : Ex) → v ≡ is_void new →
      (v || (is_some (scalar_of old) && is_some (scalar_of new))) ≡ true →
      from_plain (if v then Discard x
      else conversion_by p vars pos (scalar_of old) (scalar_of new) (makes_from_plain p vars old new e) e)
      ≡ (made old new e)
  by_void true old (Some types.Void) pos e x v h = and_false _
  by_void true old None pos e x v h = absurd (let g : true ≡ false = v in cc)
  by_void true old (Some (types.Int k n)) pos e x v h = absurd (let g : true ≡ false = v in cc)
  by_void true old (Some (types.Cap signed)) pos e x v h = absurd (let g : true ≡ false = v in cc)
  by_void true old (Some (types.Pointer t)) pos e x v h = absurd (let g : true ≡ false = v in cc)
  by_void true old (Some (types.Array t n)) pos e x v h = absurd (let g : true ≡ false = v in cc)
  by_void true old (Some (types.Struct tag ms)) pos e x v h = absurd (let g : true ≡ false = v in cc)
  by_void true old (Some (types.Union tag ms)) pos e x v h = absurd (let g : true ≡ false = v in cc)
  by_void true old (Some (types.Function t ps)) pos e x v h = absurd (let g : true ≡ false = v in cc)
  by_void true old (Some (types.Const t)) pos e x v h = absurd (let g : true ≡ false = v in cc)
  by_void true old (Some (types.Incomplete tag)) pos e x v h = absurd (let g : true ≡ false = v in cc)
  by_void false old new pos e x v h = kept_plain (scalar_of old) (scalar_of new) pos _ e h ∙ makes_is old new e

  -- a conversion that is a node of its own
  pub from_plain_conversion : (old new : Option CType) (pos : Pos) (e : Ex) → is_kept old new ≡ true →
      from_plain (conversion p vars pos old new e) ≡ made old new e
  from_plain_conversion old new pos e h = by_void (is_void new) old new pos e e refl h

-- ---- nodes that are conversions

is_convert : (kind : ExprKind) (b : ℕ) → Some b ≡ converts kind → kind ≡ exprs.Convert b
is_convert (exprs.Convert a) b h =
    let e : ◌≡◌ {A = Option ℕ} (Some b) (Some a) = h in
    let i : a ≡ b = cc in
    ap exprs.Convert i
is_convert (exprs.Constant n) b h = absurd (let e : ◌≡◌ {A = Option ℕ} (Some b) None = h in cc)
is_convert (exprs.Literal n) b h = absurd (let e : ◌≡◌ {A = Option ℕ} (Some b) None = h in cc)
is_convert (exprs.Var x) b h = absurd (let e : ◌≡◌ {A = Option ℕ} (Some b) None = h in cc)
is_convert (exprs.Global g) b h = absurd (let e : ◌≡◌ {A = Option ℕ} (Some b) None = h in cc)
is_convert (exprs.Fun g) b h = absurd (let e : ◌≡◌ {A = Option ℕ} (Some b) None = h in cc)
is_convert (exprs.Load a) b h = absurd (let e : ◌≡◌ {A = Option ℕ} (Some b) None = h in cc)
is_convert (exprs.Decay a) b h = absurd (let e : ◌≡◌ {A = Option ℕ} (Some b) None = h in cc)
is_convert (exprs.Deref a) b h = absurd (let e : ◌≡◌ {A = Option ℕ} (Some b) None = h in cc)
is_convert (exprs.Member a n) b h = absurd (let e : ◌≡◌ {A = Option ℕ} (Some b) None = h in cc)
is_convert (exprs.Address a) b h = absurd (let e : ◌≡◌ {A = Option ℕ} (Some b) None = h in cc)
is_convert (exprs.Unary op a) b h = absurd (let e : ◌≡◌ {A = Option ℕ} (Some b) None = h in cc)
is_convert (exprs.Int op x y) b h = absurd (let e : ◌≡◌ {A = Option ℕ} (Some b) None = h in cc)
is_convert (exprs.Capability op x y right) b h = absurd (let e : ◌≡◌ {A = Option ℕ} (Some b) None = h in cc)
is_convert (exprs.Plus x y minus) b h = absurd (let e : ◌≡◌ {A = Option ℕ} (Some b) None = h in cc)
is_convert (exprs.Difference x y) b h = absurd (let e : ◌≡◌ {A = Option ℕ} (Some b) None = h in cc)
is_convert (exprs.Compare op x y) b h = absurd (let e : ◌≡◌ {A = Option ℕ} (Some b) None = h in cc)
is_convert (exprs.And x y) b h = absurd (let e : ◌≡◌ {A = Option ℕ} (Some b) None = h in cc)
is_convert (exprs.Or x y) b h = absurd (let e : ◌≡◌ {A = Option ℕ} (Some b) None = h in cc)
is_convert (exprs.Conditional c x y) b h = absurd (let e : ◌≡◌ {A = Option ℕ} (Some b) None = h in cc)
is_convert (exprs.Comma x y) b h = absurd (let e : ◌≡◌ {A = Option ℕ} (Some b) None = h in cc)
is_convert (exprs.Assign x y) b h = absurd (let e : ◌≡◌ {A = Option ℕ} (Some b) None = h in cc)
is_convert (exprs.Compound op x y computed) b h = absurd (let e : ◌≡◌ {A = Option ℕ} (Some b) None = h in cc)
is_convert (exprs.Step a adds front) b h = absurd (let e : ◌≡◌ {A = Option ℕ} (Some b) None = h in cc)
is_convert (exprs.Call g args) b h = absurd (let e : ◌≡◌ {A = Option ℕ} (Some b) None = h in cc)
is_convert (exprs.Library n args) b h = absurd (let e : ◌≡◌ {A = Option ℕ} (Some b) None = h in cc)

constant_plain : (n : ℕ) (k : Kind) → from_plain (constant n k) ≡ false
constant_plain n (Plain k) = refl
constant_plain n (Capability signed) = refl

variable_plain : (c : Bool) (pos : Pos) (x n : ℕ) → from_plain (if c then Variable pos x else Local pos n) ≡ false
variable_plain true pos x n = refl
variable_plain false pos x n = refl

load_plain : (c : Bool) (k : Kind) (x : Ex) → from_plain (if c then Aggregate x else Load k x) ≡ false
load_plain true k x = refl
load_plain false k x = refl

sign_plain : (pos : Pos) (k : Kind) (x : Ex) (op : UnaryOp) → from_plain (sign_of pos k x op) ≡ false
sign_plain pos k x unary.Plus = refl
sign_plain pos k x unary.Minus = refl
sign_plain pos k x unary.Complement = refl
sign_plain pos k x unary.LogicalNot = refl

sum_plain : (c : Bool) (pos : Pos) (o r : Operation) (x y : Ex) →
    from_plain (if c then Binary pos o x y else Binary pos r x y) ≡ false
sum_plain true pos o r x y = refl
sum_plain false pos o r x y = refl

assign_plain : (c : Bool) (pos : Pos) (k : Kind) (bytes unit : ℕ) (x y : Ex) →
    from_plain (if c then Copy pos bytes unit x y else Assign k x y) ≡ false
assign_plain true pos k bytes unit x y = refl
assign_plain false pos k bytes unit x y = refl

module _ (p : Typed) (vars : List VarDef) where
  plain_kind : (of : ℕ) (pos : Pos) (kind : ExprKind) → None ≡ converts kind →
      from_plain (kind_tree p vars (expr_tree p vars) of pos kind) ≡ false
  plain_kind of pos (exprs.Convert a) h = absurd (let e : ◌≡◌ {A = Option ℕ} None (Some a) = h in cc)
  plain_kind of pos (exprs.Constant n) h = constant_plain n (kind_of (bare p.types of))
  plain_kind of pos (exprs.Literal n) h = refl
  plain_kind of pos (exprs.Var x) h = variable_plain (is_simple (slice_get vars x)) pos x _
  plain_kind of pos (exprs.Global g) h = refl
  plain_kind of pos (exprs.Fun g) h = refl
  plain_kind of pos (exprs.Load a) h = load_plain (is_record (bare p.types of)) _ _
  plain_kind of pos (exprs.Decay a) h = refl
  plain_kind of pos (exprs.Deref a) h = refl
  plain_kind of pos (exprs.Member a n) h = refl
  plain_kind of pos (exprs.Address a) h = refl
  plain_kind of pos (exprs.Unary op a) h = sign_plain pos _ _ op
  plain_kind of pos (exprs.Int op x y) h = refl
  plain_kind of pos (exprs.Capability op x y right) h = refl
  plain_kind of pos (exprs.Plus x y minus) h = sum_plain (is_pointer (bare_type p vars x)) pos _ _ _ _
  plain_kind of pos (exprs.Difference x y) h = refl
  plain_kind of pos (exprs.Compare op x y) h = refl
  plain_kind of pos (exprs.And x y) h = refl
  plain_kind of pos (exprs.Or x y) h = refl
  plain_kind of pos (exprs.Conditional c x y) h = refl
  plain_kind of pos (exprs.Comma x y) h = refl
  plain_kind of pos (exprs.Assign x y) h = assign_plain (is_record (bare p.types of)) pos _ _ _ _ _
  plain_kind of pos (exprs.Compound op x y computed) h = refl
  plain_kind of pos (exprs.Step a adds front) h = refl
  plain_kind of pos (exprs.Call g args) h = refl
  plain_kind of pos (exprs.Library n args) h = refl

  plain_at : Ordered p → (k : ℕ) (o : Option Expr) → slice_get p.exprs k ≡ o → None ≡ operand_of o →
      from_plain (expr_tree p vars k) ≡ false
  unfolding expr_tree
  plain_at order k None at h = ap (λ o. from_plain (node_tree p vars (levels p vars k) o)) at
  plain_at order k (Some e) at h =
      ap from_plain (expression_node p vars order k e at) ∙ plain_kind e.of e.pos e.kind h

  -- what is no conversion
  pub not_converted : Ordered p → (k : ℕ) → None ≡ operand_of (slice_get p.exprs k) →
      false ≡ from_plain (expr_tree p vars k)
  not_converted order k h = sym (plain_at order k (slice_get p.exprs k) refl h)

  -- a conversion of an operand
  record IsMade (k a : ℕ) : Type 0 where
    before : a < k
    value : from_plain (expr_tree p vars k) ≡ made p vars (bare_type p vars a) (bare_type p vars k) (expr_tree p vars a)

  made_at : IsFit p → (k a : ℕ) (o : Option Expr) → slice_get p.exprs k ≡ o → Some a ≡ operand_of o → IsMade k a
  made_at fit k a None at h = absurd (let e : ◌≡◌ {A = Option ℕ} (Some a) None = h in cc)
  made_at fit k a (Some e) at h =
      let is = is_convert e.kind a h in
      let node = expression_node p vars fit.order k e at
      ∙ ap (kind_tree p vars (expr_tree p vars) e.of e.pos) is in
      let of = ap (λ o. bare p.types (type_of o)) at in
      record {
        before = subst (IsAfterOperands k) is (fit.order.exprs k e at);
        value = ap from_plain node
            ∙ (from_plain_conversion p vars (bare_type p vars a) (bare p.types e.of) e.pos (expr_tree p vars a)
            (fit.peeled vars k e at a is)
            ∙ ap (λ t. made p vars (bare_type p vars a) t (expr_tree p vars a)) (sym of));
      }

  module _ (fit : IsFit p) (k a : ℕ) (h : Some a ≡ operand_of (slice_get p.exprs k)) where
    here : IsMade k a
    here = made_at fit k a (slice_get p.exprs k) refl h

    pub operand_before : a < k
    operand_before = here.before

    pub no_capability : false ≡ is_capability_integer (bare_type p vars k) → false ≡ from_plain (expr_tree p vars k)
    no_capability c = sym (here.value ∙ rw (← c) (sym (and_false p vars _)))

    pub of_plain : true ≡ is_capability_integer (bare_type p vars k) → true ≡ is_plain (bare_type p vars a) →
        true ≡ from_plain (expr_tree p vars k)
    of_plain c d = sym (here.value ∙ rw (← c, ← d) refl)

    pub of_other : true ≡ is_capability_integer (bare_type p vars k) → false ≡ is_plain (bare_type p vars a) →
        false ≡ is_capability_integer (bare_type p vars a) → false ≡ from_plain (expr_tree p vars k)
    of_other c d e = sym (here.value ∙ rw (← c, ← d, ← e) refl)

    pub through : true ≡ is_capability_integer (bare_type p vars k) → false ≡ is_plain (bare_type p vars a) →
        true ≡ is_capability_integer (bare_type p vars a) →
        from_plain (expr_tree p vars k) ≡ from_plain (expr_tree p vars a)
    through c d e = here.value ∙ rw (← c, ← d, ← e) (sym (and_true p vars _))
