-- The variables that the tree of an expression names are in scope.
use Rattle.std.proofs.Common.{◌≡◌, ℕ, zero, suc, ◌<◌, Bool, true, false, List, Option, Some, None, refl, sym, subst}
use Rattle.std.proofs.Common.{arith, get_or, if◌then◌else◌}
use Rattle.std.specs.Prelude.{slice_get}
use Rattle.std.proofs.lemmas.Option.{slice_get_within, slice_get-get_or}
use Rattle.ck_base.specs.declared.positions.Pos.{Pos}
use Rattle.c_tree.specs.Layout.{bare}
use Rattle.c_tree.specs.Terms.{Term}
use Rattle.c_tree.specs.Views.{types_of, terms_of, term_at, kind_term, operands, IsOrdered}
use Rattle.c_tree.specs.WellTyped.{type_in}
use Rattle.c_tree.specs.declared.typed.Expr.{Expr}
use Rattle.c_tree.specs.declared.typed.ExprKind.{ExprKind}
use Rattle.c_tree.specs.declared.typed.ExprKind.TheVariants as exprs
use Rattle.c_tree.specs.declared.typed.Typed.{Typed}
use Rattle.c_tree.specs.declared.typed.UnaryOp.{UnaryOp}
use Rattle.c_tree.specs.declared.typed.UnaryOp.TheVariants as unary
use Rattle.c_tree.specs.declared.typed.VarDef.{VarDef}
use Rattle.typing_laws.specs.Scoping.{IsAmong, TermScoped}
use Rattle.cheri_c_sem.specs.Expressions as meant
use Rattle.cheri_c_sem.specs.Expressions.{constant, kind_tree, expr_tree, variable, bare_type}
use Rattle.cheri_c_sem.specs.Kinds.{Kind, Plain, Capability}
use Rattle.cheri_c_sem.specs.Programs.{declared}
use Rattle.cheri_c_sem.specs.Tree as cheri
use Rattle.cheri_c_sem.specs.Tree.{Ex, Load, Aggregate, Pointer_to, Discard, Copy, Assign, Variable, Local, Declared}
use Rattle.cheri_c_sem.specs.Tree.{Simple, Objects}
use Rattle.cheri_c_sem.specs.Types.{is_simple, is_record, is_void, is_pointer, objects_before}
use Rattle.cheri_c_sem.proofs.Unfold.{expression_node}
use Rattle.placement.proofs.Ordering.{ordered_of}
use Rattle.lower_runs.specs.Trees.{held_by}
use Rattle.value_trees.proofs.Blocks.{declares_simple, declares_object}
use Rattle.value_trees.proofs.Nodes.{expression_is}

module _ (p : Typed) (vars : List VarDef) (js : List ℕ) where
  -- a variable that is in scope
  pub record InScope (d : Declared) : Type 0 where
    pub number : ℕ
    pub among : IsAmong js number
    pub is : d ≡ declared p vars number

  abbrev pub Held : Option Declared → Type 0
  Held None = Unit {0}
  Held (Some d) = InScope d

  abbrev Named : Ex → Type 0
  Named (Variable q y) = InScope (Simple y)
  Named (Local q n) = InScope (Objects n)
  Named e = Unit {0}

  abbrev Both : Ex → Type 0
  Both e = Named e × Held (held_by e)

  variable_both : (q : Pos) (y : ℕ) → IsAmong js y → Both (variable p vars q y)
  variable_both q y i = by (is_simple (slice_get vars y)) refl
    where
      by : (b : Bool) → is_simple (slice_get vars y) ≡ b →
          Both (if b then Variable q y else Local q (objects_before vars y))
      by true e = (record { number = y; among = i; is = sym (declares_simple p vars y e) }, tt)
      by false e = (record { number = y; among = i; is = sym (declares_object p vars y e) }, tt)

  load_both : (b : Bool) (k : Kind) (e : Ex) → Both e → Both (if b then Aggregate e else Load k e)
  load_both true k e h = (tt, tt)
  load_both false k (Variable q y) h = (tt, h.0)
  load_both false k e h = (tt, tt)

  pointer_both : (q : Pos) (w : Option cheri.Narrowing) (e : Ex) → Both e → Both (Pointer_to q w e)
  pointer_both q w (Local r n) h = (tt, h.0)
  pointer_both q w e h = (tt, tt)

  constant_both : (n : ℕ) (k : Kind) → Both (constant n k)
  constant_both n (Plain k) = (tt, tt)
  constant_both n (Capability s) = (tt, tt)

  sign_both : (q : Pos) (k : Kind) (e : Ex) (op : UnaryOp) → Both (meant.sign_of q k e op)
  sign_both q k e unary.Plus = (tt, tt)
  sign_both q k e unary.Minus = (tt, tt)
  sign_both q k e unary.Complement = (tt, tt)
  sign_both q k e unary.LogicalNot = (tt, tt)

  convert_both : (q : Pos) (b plain : Bool) (old new : Option Kind) (e : Ex) → Both e →
      Both (if b then Discard e else meant.conversion_by p vars q old new plain e)
  convert_both q true plain old new e h = (tt, tt)
  convert_both q false plain (Some j) (Some k) e h = (tt, h.1)
  convert_both q false plain None new e h = h
  convert_both q false plain (Some j) None e h = h

  sum_both : (q : Pos) (b : Bool) (m n : cheri.Operation) (c d : Ex) →
      Both (if b then cheri.Binary q m c d else cheri.Binary q n c d)
  sum_both q true m n c d = (tt, tt)
  sum_both q false m n c d = (tt, tt)

  assign_both : (q : Pos) (b : Bool) (m u : ℕ) (k : Kind) (c d : Ex) → Both (if b then Copy q m u c d else Assign k c d)
  assign_both q true m u k c d = (tt, tt)
  assign_both q false m u k c d = (tt, tt)

  module _ (o : IsOrdered p) where
    abbrev x : ℕ → Term
    x k = term_at (terms_of p) k

    abbrev tr : ℕ → Ex
    tr k = expr_tree p vars k

    kind_both : (kd : ExprKind) (of : ℕ) (q : Pos) →
        ((j a : ℕ) → slice_get (operands kd) j ≡ Some a → TermScoped js (x a) → Both (tr a)) →
        TermScoped js (kind_term (types_of p.types) kd (type_in p of) q x) → Both (kind_tree p vars tr of q kd)
    kind_both (exprs.Constant n) of q h s = constant_both n _
    kind_both (exprs.Var y) of q h s = variable_both q y s.0
    kind_both (exprs.Load a) of q h s = load_both (is_record (bare p.types of)) _ (tr a) (h 0 a refl s.1.0)
    kind_both (exprs.Decay a) of q h s =
        pointer_both q (meant.narrowing_of p vars (slice_get p.exprs a)) (tr a) (h 0 a refl s.1.0)
    kind_both (exprs.Address a) of q h s =
        pointer_both q (meant.narrowing_of p vars (slice_get p.exprs a)) (tr a) (h 0 a refl s.1.0)
    kind_both (exprs.Convert a) of q h s =
        convert_both q (is_void (bare p.types of)) _ _ _ (tr a) (h 0 a refl s.1.0)
    kind_both (exprs.Unary op a) of q h s = sign_both q _ (tr a) op
    kind_both (exprs.Plus a b minus) of q h s = sum_both q (is_pointer (bare_type p vars a)) _ _ (tr a) (tr b)
    kind_both (exprs.Assign a b) of q h s = assign_both q (is_record (bare p.types of)) _ _ _ (tr a) (tr b)
    kind_both kd of q h s = (tt, tt)

    both_below : (n k : ℕ) → k < n → (e : Expr) → slice_get p.exprs k ≡ Some e → TermScoped js (x k) → Both (tr k)
    both_below zero k lt e h s = absurd (omega (arith, lt))
    both_below (suc n) k lt e h s =
        let l = slice_get_within p.exprs k e h in
        subst Both (sym (expression_node p vars (ordered_of p o) k e h))
        (kind_both e.kind e.of e.pos (λ j a i t. let m = o.operands_before k j a e h i in
        both_below n a (omega (arith, lt, m)) (get_or p.exprs a e)
        (slice_get-get_or p.exprs a e (omega (arith, l, m))) t)
        (subst (TermScoped js) (expression_is p o k e h) s))

    pub held_in_scope : (k : ℕ) (e : Expr) → slice_get p.exprs k ≡ Some e → TermScoped js (x k) → Held (held_by (tr k))
    held_in_scope k e h s = (both_below (suc k) k (omega arith) e h s).1
