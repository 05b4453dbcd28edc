-- What typing gives of each expression of a function.
use Rattle.std.proofs.Common.{◌≡◌, ℕ, zero, suc, ◌+◌, ◌≤◌, Bool, true, false, List, [], ◌∷◌, map, length, get_or, Some}
use Rattle.std.proofs.Common.{None}
use Rattle.std.proofs.Common.{refl}
use Rattle.std.proofs.Common.{sym, ap, ◌∙◌, subst, arith, ⊎_elim, inl, inr, ◌⊎◌}
use Rattle.std.specs.Prelude.{slice_get, sum_by, ◌==◌, ◌||◌, ◌&&◌, not}
use Rattle.std.proofs.lemmas.Option.{slice_get_within}
use Rattle.std.proofs.lemmas.List.Sums.{sum_by-cons}
use Rattle.ck_base.specs.declared.positions.Pos.{Pos}
use Rattle.ck_int.specs.declared.kinds.CmpOp.{CmpOp}
use Rattle.ck_int.specs.declared.kinds.IntKind.{IntKind}
use Rattle.ck_int.specs.declared.kinds.IntKind.TheVariants as int
use Rattle.ck_int.specs.declared.kinds.IntOp.{IntOp}
use Rattle.ck_int.specs.declared.kinds.IntOp.TheVariants as ops
use Rattle.c_tree.specs.declared.typed.Expr.{Expr}
use Rattle.c_tree.specs.declared.typed.ExprKind.{ExprKind}
use Rattle.c_tree.specs.declared.typed.ExprKind.TheVariants as exprs
use Rattle.c_tree.specs.declared.typed.Typed.{Typed}
use Rattle.c_tree.specs.declared.typed.UnaryOp.{UnaryOp}
use Rattle.c_tree.specs.declared.typed.UnaryOp.TheVariants as unary
use Rattle.c_tree.specs.Conversions.{is_place}
use Rattle.c_tree.specs.Expressions as typing
use Rattle.cheri_c_sem.specs.Types.{is_shift}
use Rattle.c_tree.specs.Terms as term
use Rattle.c_tree.specs.Terms.{Term, Terms, Shape, type_of, with_term, no_terms, terms}
use Rattle.c_tree.specs.TreeWeight.{shape_weight, term_weight, terms_weight}
use Rattle.c_tree.specs.Types as ty
use Rattle.c_tree.specs.Types.{Ty}
use Rattle.c_tree.specs.Views.{types_of, kind_term, expr_from, no_term, operands, IsOrdered}
use Rattle.c_tree.specs.WellTyped.{Frame, type_in, TermFits, TermsFit, ShapeFits, OperandsFit, ConstantFits, UnaryFits}
use Rattle.c_tree.specs.WellTyped.{Decays, PointsToComplete, IsComplete, CompoundFits, holds}
use Rattle.c_tree.proofs.Forest.{forest_reads}
use Rattle.tac_ir.specs.declared.code.TacKind.{TacKind}
use Rattle.tac_ir.specs.declared.code.TacKind.TheVariants as kind
use Rattle.tac_lower.specs.Copied.{copies_in}
use Rattle.tac_emit.specs.Emitted.{is_capability}
use Rattle.tac_lower.specs.Operands.{RightFits, AddressFits, ComputedFits}
use Rattle.tac_lower.specs.Nodes.{kept_as, points, or_int, expression, IsTyped, IsScalar, HasOne, HasTwo, HasThree}
use Rattle.tac_lower.specs.Nodes.{ConstantNode, IntNode, CapabilityNode, SameNode, NotNode, AddressNode, DerefNode}
use Rattle.tac_lower.specs.Nodes.{SumNode, CompareNode, TruthNode, DifferenceNode, CommaNode, AssignNode, CompoundNode}
use Rattle.tac_lower.specs.Nodes.{StepNode, ConditionalNode, NameNode, VarNode, FunNode, CallNode, LibraryNode}
use Rattle.tac_lower.specs.Nodes.{NodeFits}
use Rattle.tac_lower.proofs.Constants.{kept_fits}
use Rattle.tac_lower.proofs.Copying.{copied_is, copies_by}
use Rattle.tac_emit.proofs.Wells.{and_both}

-- ---- one node

-- a node is made of its operands
map_same : (f g : ℕ → Term) (xs : List ℕ) → ((j a : ℕ) → slice_get xs j ≡ Some a → f a ≡ g a) → map f xs ≡ map g xs
map_same f g [] h = refl
map_same f g (x ∷ xs) h =
    ap (λ z. z ∷ map f xs) (h 0 x refl) ∙ ap (λ z. g x ∷ z) (map_same f g xs (λ j a e. h (suc j) a e))

kind_same : (ts : List Ty) (k : ExprKind) (t : Ty) (q : Pos) (f g : ℕ → Term) →
    ((j a : ℕ) → slice_get (operands k) j ≡ Some a → f a ≡ g a) → kind_term ts k t q f ≡ kind_term ts k t q g
kind_same ts (exprs.Constant n) t q f g h = refl
kind_same ts (exprs.Literal n) t q f g h = refl
kind_same ts (exprs.Var n) t q f g h = refl
kind_same ts (exprs.Global n) t q f g h = refl
kind_same ts (exprs.Fun n) t q f g h = refl
kind_same ts (exprs.Load a) t q f g h = ap (λ z. term.step term.Load z t q) (h 0 a refl)
kind_same ts (exprs.Decay a) t q f g h = ap (λ z. term.step term.Decay z t q) (h 0 a refl)
kind_same ts (exprs.Deref a) t q f g h = ap (λ z. term.step term.Deref z t q) (h 0 a refl)
kind_same ts (exprs.Member a k) t q f g h = ap (λ z. term.step (term.Member k) z t q) (h 0 a refl)
kind_same ts (exprs.Address a) t q f g h = ap (λ z. term.step term.Address z t q) (h 0 a refl)
kind_same ts (exprs.Convert a) t q f g h = ap (λ z. term.step term.Convert z t q) (h 0 a refl)
kind_same ts (exprs.Unary o a) t q f g h = ap (λ z. term.step (term.Unary o) z t q) (h 0 a refl)
kind_same ts (exprs.Int o a b) t q f g h =
    ap (λ z. term.join (term.Arithmetic o) z (f b) t q) (h 0 a refl)
    ∙ ap (λ z. term.join (term.Arithmetic o) (g a) z t q) (h 1 b refl)
kind_same ts (exprs.Capability o a b r) t q f g h =
    ap (λ z. term.join (term.Capability o r) z (f b) t q) (h 0 a refl)
    ∙ ap (λ z. term.join (term.Capability o r) (g a) z t q) (h 1 b refl)
kind_same ts (exprs.Plus a b m) t q f g h =
    ap (λ z. term.join (term.Plus m) z (f b) t q) (h 0 a refl)
    ∙ ap (λ z. term.join (term.Plus m) (g a) z t q) (h 1 b refl)
kind_same ts (exprs.Difference a b) t q f g h =
    ap (λ z. term.join term.Difference z (f b) t q) (h 0 a refl)
    ∙ ap (λ z. term.join term.Difference (g a) z t q) (h 1 b refl)
kind_same ts (exprs.Compare o a b) t q f g h =
    ap (λ z. term.join (term.Compare o) z (f b) t q) (h 0 a refl)
    ∙ ap (λ z. term.join (term.Compare o) (g a) z t q) (h 1 b refl)
kind_same ts (exprs.And a b) t q f g h =
    ap (λ z. term.join term.And z (f b) t q) (h 0 a refl) ∙ ap (λ z. term.join term.And (g a) z t q) (h 1 b refl)
kind_same ts (exprs.Or a b) t q f g h =
    ap (λ z. term.join term.Or z (f b) t q) (h 0 a refl) ∙ ap (λ z. term.join term.Or (g a) z t q) (h 1 b refl)
kind_same ts (exprs.Comma a b) t q f g h =
    ap (λ z. term.join term.Comma z (f b) t q) (h 0 a refl) ∙ ap (λ z. term.join term.Comma (g a) z t q) (h 1 b refl)
kind_same ts (exprs.Assign a b) t q f g h =
    ap (λ z. term.join term.Assign z (f b) t q) (h 0 a refl) ∙ ap (λ z. term.join term.Assign (g a) z t q) (h 1 b refl)
kind_same ts (exprs.Compound o a b of) t q f g h =
    let s = term.Compound o (Rattle.c_tree.specs.Views.type_at ts of) in
    ap (λ z. term.join s z (f b) t q) (h 0 a refl) ∙ ap (λ z. term.join s (g a) z t q) (h 1 b refl)
kind_same ts (exprs.Step a adds front) t q f g h = ap (λ z. term.step (term.Step adds front) z t q) (h 0 a refl)
kind_same ts (exprs.Conditional a b c) t q f g h =
    ap (λ z. term.join_three term.Conditional z (f b) (f c) t q) (h 0 a refl)
    ∙ ap (λ z. term.join_three term.Conditional (g a) z (f c) t q) (h 1 b refl)
    ∙ ap (λ z. term.join_three term.Conditional (g a) (g b) z t q) (h 2 c refl)
kind_same ts (exprs.Call a xs) t q f g h =
    ap (λ z. term.term term.Call (with_term z (terms (map f xs))) t q) (h 0 a refl)
    ∙ ap (λ z. term.term term.Call (with_term (g a) (terms z)) t q) (map_same f g xs (λ j x e. h (suc j) x e))
kind_same ts (exprs.Library n xs) t q f g h = ap (λ z. term.term (term.Library n) (terms z) t q) (map_same f g xs h)

module _ (p : Typed) (o : IsOrdered p) where
  -- an expression as a term, by its kind
  pub expression_is : (k : ℕ) (e : Expr) → slice_get p.exprs k ≡ Some e →
      expression p k ≡ kind_term (types_of p.types) e.kind (type_in p e.of) e.pos (expression p)
  expression_is k e h =
      let r = forest_reads (expr_from (types_of p.types)) no_term p.exprs k e h in
      r.is ∙ kind_same (types_of p.types) e.kind (type_in p e.of) e.pos (λ j. get_or r.seen j no_term) (expression p)
      (λ j a s. r.before a (o.operands_before k j a e h s))

  pub expression_by : (k : ℕ) (e : Expr) (of : ExprKind) → slice_get p.exprs k ≡ Some e → e.kind ≡ of →
      expression p k ≡ kind_term (types_of p.types) of (type_in p e.of) e.pos (expression p)
  expression_by k e of h is =
      expression_is k e h ∙ ap (λ z. kind_term (types_of p.types) z (type_in p e.of) e.pos (expression p)) is

-- ---- what a type's fitting says of kinds

bare_kept : (t : Ty) → kept_as (ty.bare t) ≡ kept_as t
bare_kept (ty.Const t) = refl
bare_kept t = refl

-- types that agree are kept in one way
int_same : (j k : IntKind) → ty.same_kind j k ≡ true → j ≡ k
int_same int.Bool int.Bool h = refl
int_same int.I8 int.I8 h = refl
int_same int.U8 int.U8 h = refl
int_same int.I16 int.I16 h = refl
int_same int.U16 int.U16 h = refl
int_same int.I32 int.I32 h = refl
int_same int.U32 int.U32 h = refl
int_same int.I64 int.I64 h = refl
int_same int.U64 int.U64 h = refl
int_same j k h = absurd cc

truth_same : (a b : Bool) → ty.same_truth a b ≡ true → a ≡ b
truth_same true b h = sym h
truth_same false false h = refl
truth_same false true h = absurd cc

pub agree_kept : (lengths : ℕ → ℕ → Bool) (s t : Ty) → ty.agree lengths s t ≡ true → kept_as s ≡ kept_as t
agree_kept l ty.Void ty.Void h = refl
agree_kept l (ty.Int j m) (ty.Int k n) h =
    ap (λ z. Some (kind.Int z)) (int_same j k (and_both (ty.same_kind j k) (m == n) h).0)
agree_kept l (ty.Cap a) (ty.Cap b) h = ap (λ z. Some (kind.Cap z)) (truth_same a b h)
agree_kept l (ty.Pointer s) (ty.Pointer t) h = refl
agree_kept l (ty.Array s m) (ty.Array t n) h = refl
agree_kept l (ty.Tagged m) (ty.Tagged n) h = refl
agree_kept l (ty.Function r ps) (ty.Function s qs) h = refl
agree_kept l (ty.Const s) (ty.Const t) h = agree_kept l s t h
agree_kept l s t h = absurd cc

module _ (f : Frame) (o : IsOrdered f.program) where
  abbrev x : ℕ → Term
  x j = expression f.program j

  abbrev t : ℕ → Ty
  t j = type_of (x j)

  typed : (k : ℕ) (e : Expr) (of : ExprKind) → slice_get f.program.exprs k ≡ Some e → e.kind ≡ of → IsTyped f k →
      TermFits f (kind_term (types_of f.program.types) of (type_in f.program e.of) e.pos x)
  typed k e of h is w = subst (λ z. TermFits f z) (expression_by f.program o k e of h is) w.fits

  of_one : (n : Shape) (a : Term) (s : Ty) (q : Pos) → TermFits f (term.step n a s q) →
      TermFits f a × ShapeFits f n (with_term a no_terms) s
  unfolding TermFits
  of_one n a s q h = (h.0.0, h.1)

  of_two : (n : Shape) (a b : Term) (s : Ty) (q : Pos) → TermFits f (term.join n a b s q) →
      TermFits f a × TermFits f b × ShapeFits f n (with_term a (with_term b no_terms)) s
  unfolding TermFits
  of_two n a b s q h = (h.0.0, h.0.1.0, h.1)

  of_three : (n : Shape) (a b c : Term) (s : Ty) (q : Pos) → TermFits f (term.join_three n a b c s q) →
      TermFits f a × TermFits f b × TermFits f c × ShapeFits f n (with_term a (with_term b (with_term c no_terms))) s
  unfolding TermFits
  of_three n a b c s q h = (h.0.0, h.0.1.0, h.0.1.1.0, h.1)

  of_none : (n : Shape) (s : Ty) (q : Pos) → TermFits f (term.leaf n s q) → ShapeFits f n no_terms s
  unfolding TermFits
  of_none n s q h = h.1

  module _ (k : ℕ) (e : Expr) (there : slice_get f.program.exprs k ≡ Some e) (w : IsTyped f k) where
    abbrev of : Ty
    of = type_in f.program e.of

    -- copies of operands
    abbrev copied_among : List ℕ → Type 0
    copied_among js = sum_by (copies_in f.program) js ≤ copies_in f.program k

    one : (n : Shape) (a : ℕ) → shape_weight n ≡ 1 → x k ≡ term.step n (x a) of e.pos → copied_among (a ∷ []) →
        HasOne f k a
    one n a light is few =
        let h = of_one n (x a) of e.pos (subst (λ z. TermFits f z) is w.fits) in
        let q : term_weight (x k) ≡ shape_weight n + (term_weight (x a) + 0) = ap term_weight is in
        record { operand = record { fits = h.0 }; weight = omega (arith, q, light); copies = omega (arith, few) }

    two : (n : Shape) (a b : ℕ) → shape_weight n ≡ 1 → x k ≡ term.join n (x a) (x b) of e.pos →
        copied_among (a ∷ b ∷ []) → HasTwo f k a b
    two n a b light is few =
        let h = of_two n (x a) (x b) of e.pos (subst (λ z. TermFits f z) is w.fits) in
        let q : term_weight (x k) ≡ shape_weight n + (term_weight (x a) + (term_weight (x b) + 0)) =
        ap term_weight is in
        record {
          left = record { fits = h.0 };
          right = record { fits = h.1 };
          weight = omega (arith, q, light);
          copies = omega (arith, few);
        }

    three : (n : Shape) (a b c : ℕ) → shape_weight n ≡ 1 → x k ≡ term.join_three n (x a) (x b) (x c) of e.pos →
        copied_among (a ∷ b ∷ c ∷ []) → HasThree f k a b c
    three n a b c light is few =
        let h = of_three n (x a) (x b) (x c) of e.pos (subst (λ z. TermFits f z) is w.fits) in
        let q : term_weight (x k) ≡ shape_weight n
        + (term_weight (x a) + (term_weight (x b) + (term_weight (x c) + 0))) = ap term_weight is in
        record {
          first = record { fits = h.0 };
          second = record { fits = h.1 };
          third = record { fits = h.2 };
          weight = omega (arith, q, light);
          copies = omega (arith, few);
        }

    abbrev Is : ExprKind → Type 0
    Is kd = e.kind ≡ kd

    -- the type of the node
    of_is : t k ≡ of
    of_is = ap type_of (expression_is f.program o k e there) ∙ type_of_kind e.kind
      where
        type_of_kind : (kd : ExprKind) → type_of (kind_term (types_of f.program.types) kd of e.pos x) ≡ of
        type_of_kind (exprs.Constant n) = refl
        type_of_kind kd = refl

    abbrev same : (kd : ExprKind) → Is kd → x k ≡ kind_term (types_of f.program.types) kd of e.pos x
    same kd is = expression_by f.program o k e kd there is

    abbrev fits : (kd : ExprKind) → Is kd → TermFits f (kind_term (types_of f.program.types) kd of e.pos x)
    fits kd is = typed k e kd there is w

    -- the copies of its operands are among its own
    few : (kd : ExprKind) → Is kd → copied_among (operands kd)
    few kd is = omega (arith, copies_by f.program o k e kd there is)

    scalar : (s : Ty) (j : TacKind) → t k ≡ s → kept_as s ≡ Some j → IsScalar f.program k j
    scalar s j q r = record { is = ap kept_as q ∙ r }

    as_scalar : (a : ℕ) (s : Ty) (j : TacKind) → t a ≡ s → kept_as s ≡ Some j → IsScalar f.program a j
    as_scalar a s j q r = record { is = ap kept_as q ∙ r }

    integer_kept : (s : Ty) → ty.is_integer s ≡ true → (j : TacKind) × (kept_as s ≡ Some j)
    integer_kept (ty.Int j n) h = (kind.Int j, refl)
    integer_kept (ty.Cap s) h = (kind.Cap s, refl)
    integer_kept s h = absurd cc

    scalar_kept : (s : Ty) → ty.is_scalar s ≡ true → (j : TacKind) × (kept_as s ≡ Some j)
    scalar_kept (ty.Int j n) h = (kind.Int j, refl)
    scalar_kept (ty.Cap s) h = (kind.Cap s, refl)
    scalar_kept (ty.Pointer t) h = (kind.Cap false, refl)
    scalar_kept s h = absurd cc

    pub constant_node : (n : ℕ) → Is (exprs.Constant n) → ConstantNode f k n
    constant_node n is = by of (of_none (term.Constant n) of e.pos (fits (exprs.Constant n) is)) of_is
      where
        by : (s : Ty) → ConstantFits (ty.bare s) n × holds (ty.is_scalar s) → t k ≡ s → ConstantNode f k n
        by (ty.Int j m) h q = record { kind = kind.Int j; is = record { is = ap kept_as q }; fits = kept_fits j n h.0 }
        by (ty.Cap s) h q = record { kind = kind.Cap s; is = record { is = ap kept_as q }; fits = refl }
        by (ty.Pointer s) h q = record { kind = kind.Cap false; is = record { is = ap kept_as q }; fits = refl }
        by s h q = absurd (let z = h.1 in cc)

    pub load_node : (a : ℕ) → Is (exprs.Load a) → SameNode f k a
    load_node a is =
        let h = of_one term.Load (x a) of e.pos (fits (exprs.Load a) is) in
        record {
          operands = one term.Load a refl (same (exprs.Load a) is) (few (exprs.Load a) is);
          same = sym (bare_kept (t a))
              ∙ sym (ap kept_as h.1.1) ∙ sym (ap kept_as of_is);
        }

    pub decay_node : (a : ℕ) → Is (exprs.Decay a) → AddressNode f k a
    decay_node a is =
        let h = of_one term.Decay (x a) of e.pos (fits (exprs.Decay a) is) in
        record {
          operands = one term.Decay a refl (same (exprs.Decay a) is) (few (exprs.Decay a) is);
          is = ⊎_elim (λ (d : (u : Ty) × (n : ℕ) × (t a ≡ ty.Array u n) × (of ≡ ty.Pointer u)).
              scalar (ty.Pointer d.0) (kind.Cap false) (of_is ∙ d.3) refl)
              (λ (d : holds (ty.is_function (t a)) × (of ≡ ty.Pointer (t a))).
              scalar (ty.Pointer (t a)) (kind.Cap false) (of_is ∙ d.1) refl) h.1;
        }

    pub loads : (a : ℕ) → Is (exprs.Load a) → t k ≡ ty.bare (t a)
    loads a is = of_is ∙ (of_one term.Load (x a) of e.pos (fits (exprs.Load a) is)).1.1

    pub commas : (a b : ℕ) → Is (exprs.Comma a b) → t k ≡ t b
    commas a b is = of_is ∙ (of_two term.Comma (x a) (x b) of e.pos (fits (exprs.Comma a b) is)).2

    void_is : (s : Ty) → ty.is_void s ≡ true → s ≡ ty.Void
    void_is ty.Void h = refl
    void_is s h = absurd cc

    -- what is converted is dropped, or a scalar, and so is what it becomes
    pub conversions : (a : ℕ) → Is (exprs.Convert a) →
        (of ≡ ty.Void) ⊎ (((j : TacKind) × IsScalar f.program k j) × ((j : TacKind) × IsScalar f.program a j))
    conversions a is =
        ⊎_elim (λ (d : holds (ty.is_void of)). inl (void_is of d))
        (λ (d : holds (ty.is_scalar of) × holds (ty.is_scalar (t a))).
        let j = scalar_kept of d.0 in
        let i = scalar_kept (t a) d.1 in
        inr ((j.0, record { is = ap kept_as of_is ∙ j.1 }), (i.0, record { is = i.1 })))
        (of_one term.Convert (x a) of e.pos (fits (exprs.Convert a) is)).1

    pub decays : (a : ℕ) → Is (exprs.Decay a) → Decays (t a) (t k)
    decays a is = subst (λ z. Decays (t a) z) (sym of_is) (of_one term.Decay (x a) of e.pos (fits (exprs.Decay a) is)).1

    pub address_node : (a : ℕ) → Is (exprs.Address a) → AddressNode f k a
    address_node a is =
        let h = of_one term.Address (x a) of e.pos (fits (exprs.Address a) is) in
        record {
          operands = one term.Address a refl (same (exprs.Address a) is) (few (exprs.Address a) is);
          is = scalar (ty.Pointer (t a)) (kind.Cap false) (of_is ∙ h.1.1) refl;
        }

    pub deref_node : (a : ℕ) → Is (exprs.Deref a) → DerefNode f k a
    deref_node a is =
        let h = of_one term.Deref (x a) of e.pos (fits (exprs.Deref a) is) in
        record {
          operands = one term.Deref a refl (same (exprs.Deref a) is) (few (exprs.Deref a) is);
          operand = as_scalar a (ty.Pointer of) (kind.Cap false) h.1.0 refl;
        }

    pub member_node : (a m : ℕ) → Is (exprs.Member a m) → HasOne f k a
    member_node a m is = one (term.Member m) a refl (same (exprs.Member a m) is) (few (exprs.Member a m) is)

    pub convert_node : (a : ℕ) → Is (exprs.Convert a) → HasOne f k a
    convert_node a is = one term.Convert a refl (same (exprs.Convert a) is) (few (exprs.Convert a) is)

    void_kept : (s : Ty) → ty.is_void s ≡ true → kept_as s ≡ None
    void_kept ty.Void h = refl
    void_kept s h = absurd cc

    -- what is converted to a scalar is one
    pub converted : (a : ℕ) (j : TacKind) → Is (exprs.Convert a) → IsScalar f.program k j →
        (i : TacKind) × IsScalar f.program a i
    converted a j is h =
        ⊎_elim (λ (d : holds (ty.is_void of)).
        absurd (let q : None ≡ Some j = sym (void_kept of d) ∙ sym (ap kept_as of_is) ∙ h.is in cc))
        (λ (d : holds (ty.is_scalar of) × holds (ty.is_scalar (t a))).
        let i = scalar_kept (t a) d.1 in (i.0, record { is = i.1 }))
        (of_one term.Convert (x a) of e.pos (fits (exprs.Convert a) is)).1

    -- a scalar, or a struct or union that is complete
    abbrev pub IsWhole : Type 0
    IsWhole = ((j : TacKind) × IsScalar f.program k j) ⊎ (holds (ty.is_tagged (t k)) × IsComplete f.program (t k))

    whole : holds (ty.is_scalar of) ⊎ holds (ty.is_tagged of) → IsComplete f.program of → IsWhole
    whole h c =
        ⊎_elim (λ (d : holds (ty.is_scalar of)).
        let j = scalar_kept of d in inl (j.0, record { is = ap kept_as of_is ∙ j.1 }))
        (λ (d : holds (ty.is_tagged of)).
        inr (ap ty.is_tagged of_is ∙ d, subst (λ z. IsComplete f.program z) (sym of_is) c)) h

    pub load_whole : (a : ℕ) → Is (exprs.Load a) → IsWhole
    load_whole a is = let h = of_one term.Load (x a) of e.pos (fits (exprs.Load a) is) in whole h.1.2 h.1.3

    pub assign_whole : (a b : ℕ) → Is (exprs.Assign a b) → IsWhole
    assign_whole a b is =
        let h = (of_two term.Assign (x a) (x b) of e.pos (fits (exprs.Assign a b) is)).2 in whole h.3 h.4

    pub unary_scalar : (u : UnaryOp) (a : ℕ) → Is (exprs.Unary u a) → (j : TacKind) × IsScalar f.program k j
    unary_scalar u a is = by u (of_one (term.Unary u) (x a) of e.pos (fits (exprs.Unary u a) is)).1
      where
        integer : holds (ty.is_integer of) → (j : TacKind) × IsScalar f.program k j
        integer h = let j = integer_kept of h in (j.0, record { is = ap kept_as of_is ∙ j.1 })

        by : (u : UnaryOp) → UnaryFits u (t a) of → (j : TacKind) × IsScalar f.program k j
        by unary.LogicalNot h = (kind.Int int.I32, scalar ty.int (kind.Int int.I32) (of_is ∙ h.1) refl)
        by unary.Plus h = integer h.0
        by unary.Minus h = integer h.0
        by unary.Complement h = integer h.0

    pub compound_scalar : (q : IntOp) (a b s : ℕ) → Is (exprs.Compound q a b s) →
        (j : TacKind) × IsScalar f.program k j
    compound_scalar q a b s is =
        ⊎_elim (λ (d : PointsToComplete f.program of × (type_in f.program s ≡ of) × holds (ty.is_integer (t b))).
        (kind.Cap false, scalar (ty.Pointer d.0.0) (kind.Cap false) (of_is ∙ d.0.1) refl))
        (λ (d : holds (ty.is_integer of) × OperandsFit q (type_in f.program s) (t b) (type_in f.program s) ×
        holds (ty.is_integer (type_in f.program s))).
        let j = integer_kept of d.0 in (j.0, record { is = ap kept_as of_is ∙ j.1 }))
        (of_two (term.Compound q (type_in f.program s)) (x a) (x b) of e.pos (fits (exprs.Compound q a b s) is)).2.2

    pub not_node : (a : ℕ) → Is (exprs.Unary unary.LogicalNot a) → NotNode f k a
    not_node a is =
        let h = of_one (term.Unary unary.LogicalNot) (x a) of e.pos (fits (exprs.Unary unary.LogicalNot a) is) in
        let j = scalar_kept (t a) h.1.0 in
        record {
          operands = one (term.Unary unary.LogicalNot) a refl (same (exprs.Unary unary.LogicalNot a) is)
              (few (exprs.Unary unary.LogicalNot a) is);
          kind = j.0;
          value = record { is = j.1 };
          is = scalar ty.int (kind.Int int.I32) (of_is ∙ h.1.1) refl;
        }

    pub unary_node : (u : UnaryOp) (a : ℕ) → (u ≡ unary.LogicalNot → ⊥) → Is (exprs.Unary u a) → SameNode f k a
    unary_node u a other is =
        let h = of_one (term.Unary u) (x a) of e.pos (fits (exprs.Unary u a) is) in
        record {
          operands = one (term.Unary u) a refl (same (exprs.Unary u a) is) (few (exprs.Unary u a) is);
          same = ap kept_as (by u other h.1 ∙ sym of_is);
        }
      where
        by : (u : UnaryOp) → (u ≡ unary.LogicalNot → ⊥) → UnaryFits u (t a) of → t a ≡ of
        by unary.LogicalNot n g = absurd (n refl)
        by unary.Plus n g = g.1
        by unary.Minus n g = g.1
        by unary.Complement n g = g.1

    shift_same : (q : IntOp) → typing.is_shift q ≡ is_shift q
    shift_same ops.Shl = refl
    shift_same ops.Shr = refl
    shift_same q = refl

    right_by : (q : IntOp) (j : IntKind) (n : ℕ) (s u : Ty) (c : TacKind) → s ≡ ty.Int j n → kept_as u ≡ Some c →
        (u ≡ s) ⊎ holds (typing.is_shift q) → RightFits (is_shift q) j c
    right_by q j n s u c e g h =
        ⊎_elim (λ (d : u ≡ s). not_shift (is_shift q) (some_same (sym g ∙ ap kept_as (d ∙ e))))
        (λ (d : holds (typing.is_shift q)). shifts (is_shift q) (sym (shift_same q) ∙ d)) h
      where
        some_same : Some c ≡ Some (kind.Int j) → c ≡ kind.Int j
        some_same z = cc

        not_shift : (b : Bool) → c ≡ kind.Int j → RightFits b j c
        not_shift true z = tt
        not_shift false z = z

        shifts : (b : Bool) → b ≡ true → RightFits b j c
        shifts true z = tt
        shifts false z = absurd cc

    pub int_node : (q : IntOp) (a b : ℕ) → Is (exprs.Int q a b) → IntNode f k q a b
    int_node q a b is =
        let h = (of_two (term.Arithmetic q) (x a) (x b) of e.pos (fits (exprs.Int q a b) is)).2 in
        let j = h.0.0 in
        let n = h.0.1 in
        let c = integer_kept (t b) h.1.1 in
        record {
          operands = two (term.Arithmetic q) a b refl (same (exprs.Int q a b) is) (few (exprs.Int q a b) is);
          kind = j;
          is = scalar (ty.Int j n) (kind.Int j) (of_is ∙ h.0.2) refl;
          left = as_scalar a (ty.Int j n) (kind.Int j) (h.1.0 ∙ h.0.2) refl;
          count = c.0;
          right = record { is = c.1 };
          right_fits = right_by q j n of (t b) c.0 h.0.2 c.1 h.1.2;
        }

    pub capability_node : (q : IntOp) (a b : ℕ) (r : Bool) → Is (exprs.Capability q a b r) → CapabilityNode f k q a b
    capability_node q a b r is =
        let h = (of_two (term.Capability q r) (x a) (x b) of e.pos (fits (exprs.Capability q a b r) is)).2 in
        let c = integer_kept (t b) h.1.1 in
        record {
          operands = two (term.Capability q r) a b refl (same (exprs.Capability q a b r) is)
              (few (exprs.Capability q a b r) is);
          signed = h.0.0;
          is = scalar (ty.Cap h.0.0) (kind.Cap h.0.0) (of_is ∙ h.0.1) refl;
          left = as_scalar a (ty.Cap h.0.0) (kind.Cap h.0.0) (h.1.0 ∙ h.0.1) refl;
          count = c.0;
          right = record { is = c.1 };
        }

    not_pointer : (s : Ty) → ty.is_integer s ≡ true → points s ≡ false
    not_pointer (ty.Int j n) h = refl
    not_pointer (ty.Cap s) h = refl
    not_pointer s h = absurd cc

    pub sum_node : (a b : ℕ) (m : Bool) → Is (exprs.Plus a b m) → SumNode f k a b
    sum_node a b m is =
        let h = (of_two (term.Plus m) (x a) (x b) of e.pos (fits (exprs.Plus a b m) is)).2 in
        let p = h.0.1 in
        record {
          operands = two (term.Plus m) a b refl (same (exprs.Plus a b m) is) (few (exprs.Plus a b m) is);
          is = scalar (ty.Pointer h.0.0) (kind.Cap false) (of_is ∙ p) refl;
          indexed = λ e. ⊎_elim (λ (d : (t a ≡ of) × holds (ty.is_integer (t b))).
              let c = integer_kept (t b) d.1 in
              (subst (λ z. PointsToComplete f.program z) (sym d.0) h.0, (c.0, record { is = c.1 })))
              (λ (d : (m ≡ false) × holds (ty.is_integer (t a)) × (t b ≡ of)).
              absurd (let q : true ≡ false = sym e ∙ not_pointer (t a) d.1 in cc)) h.1;
          indexes = λ e. ⊎_elim (λ (d : (t a ≡ of) × holds (ty.is_integer (t b))).
              absurd (let q : true ≡ false = sym (ap points (d.0 ∙ p)) ∙ e in cc))
              (λ (d : (m ≡ false) × holds (ty.is_integer (t a)) × (t b ≡ of)).
              let c = integer_kept (t a) d.1 in
              (subst (λ z. PointsToComplete f.program z) (sym d.2) h.0, (c.0, record { is = c.1 }))) h.1;
          pointer =
              ⊎_elim (λ (d : (t a ≡ of) × holds (ty.is_integer (t b))).
              inl (ap points (d.0 ∙ p), as_scalar a (ty.Pointer h.0.0) (kind.Cap false) (d.0 ∙ p) refl))
              (λ (d : (m ≡ false) × holds (ty.is_integer (t a)) × (t b ≡ of)).
              inr (not_pointer (t a) d.1, as_scalar b (ty.Pointer h.0.0) (kind.Cap false) (d.2 ∙ p) refl)) h.1;
        }

    pub difference_node : (a b : ℕ) → Is (exprs.Difference a b) → DifferenceNode f k a b
    difference_node a b is =
        let h = (of_two term.Difference (x a) (x b) of e.pos (fits (exprs.Difference a b) is)).2 in
        record {
          operands = two term.Difference a b refl (same (exprs.Difference a b) is) (few (exprs.Difference a b) is);
          is = scalar ty.long (kind.Int int.I64) (of_is ∙ h.2) refl;
          pointed = h.0;
          left = as_scalar a (ty.Pointer h.0.0) (kind.Cap false) h.0.1 refl;
          right = as_scalar b (ty.Pointer h.1.0) (kind.Cap false) h.1.1 refl;
        }

    pointer_kept : (s : Ty) → ty.is_pointer s ≡ true → kept_as s ≡ Some (kind.Cap false)
    pointer_kept (ty.Pointer s) h = refl
    pointer_kept s h = absurd cc

    pub compare_node : (q : CmpOp) (a b : ℕ) → Is (exprs.Compare q a b) → CompareNode f k a b
    compare_node q a b is =
        let h = (of_two (term.Compare q) (x a) (x b) of e.pos (fits (exprs.Compare q a b) is)).2 in
        let j : (z : TacKind) × (kept_as (t a) ≡ Some z) =
        ⊎_elim (λ (d : holds (ty.is_integer (t a)) × (t a ≡ t b)). integer_kept (t a) d.0)
        (λ (d : holds (ty.is_pointer (t a)) × holds (ty.is_pointer (t b))).
        (kind.Cap false, pointer_kept (t a) d.0)) h.1 in
        record {
          operands = two (term.Compare q) a b refl (same (exprs.Compare q a b) is) (few (exprs.Compare q a b) is);
          kind = j.0;
          left = record { is = j.1 };
          is = scalar ty.int (kind.Int int.I32) (of_is ∙ h.0) refl;
          same =
              ⊎_elim (λ (d : holds (ty.is_integer (t a)) × (t a ≡ t b)). ap kept_as d.1)
              (λ (d : holds (ty.is_pointer (t a)) × holds (ty.is_pointer (t b))). pointer_kept (t a) d.0
              ∙ sym (pointer_kept (t b) d.1)) h.1;
        }

    pub and_node : (a b : ℕ) → Is (exprs.And a b) → TruthNode f k a b
    and_node a b is =
        let h = (of_two term.And (x a) (x b) of e.pos (fits (exprs.And a b) is)).2 in
        let i = scalar_kept (t a) h.1 in
        let j = scalar_kept (t b) h.2 in
        record {
          operands = two term.And a b refl (same (exprs.And a b) is) (few (exprs.And a b) is);
          is = scalar ty.int (kind.Int int.I32) (of_is ∙ h.0) refl;
          left_kind = i.0;
          left = record { is = i.1 };
          right_kind = j.0;
          right = record { is = j.1 };
        }

    pub or_node : (a b : ℕ) → Is (exprs.Or a b) → TruthNode f k a b
    or_node a b is =
        let h = (of_two term.Or (x a) (x b) of e.pos (fits (exprs.Or a b) is)).2 in
        let i = scalar_kept (t a) h.1 in
        let j = scalar_kept (t b) h.2 in
        record {
          operands = two term.Or a b refl (same (exprs.Or a b) is) (few (exprs.Or a b) is);
          is = scalar ty.int (kind.Int int.I32) (of_is ∙ h.0) refl;
          left_kind = i.0;
          left = record { is = i.1 };
          right_kind = j.0;
          right = record { is = j.1 };
        }

    pub comma_node : (a b : ℕ) → Is (exprs.Comma a b) → CommaNode f k a b
    comma_node a b is =
        let h = (of_two term.Comma (x a) (x b) of e.pos (fits (exprs.Comma a b) is)).2 in
        record {
          operands = two term.Comma a b refl (same (exprs.Comma a b) is) (few (exprs.Comma a b) is);
          right = ap kept_as (sym h ∙ sym of_is);
        }

    placed : (a b c d : Bool) → (a && b && c && d) ≡ true → a ≡ true
    placed true b c d h = refl
    placed false b c d h = h

    pub assign_node : (a b : ℕ) → Is (exprs.Assign a b) → AssignNode f k a b
    assign_node a b is =
        let h = (of_two term.Assign (x a) (x b) of e.pos (fits (exprs.Assign a b) is)).2 in
        record {
          operands = two term.Assign a b refl (same (exprs.Assign a b) is) (few (exprs.Assign a b) is);
          copies = omega (arith, copied_is f.program k e there, copies_by f.program o k e (exprs.Assign a b) there is);
          left = sym (bare_kept (t a)) ∙ sym (ap kept_as h.1) ∙ sym (ap kept_as of_is);
          right = ap kept_as (h.2 ∙ sym of_is);
          named = placed _ _ _ _ h.0;
          place = of_is ∙ h.1;
          value = h.2 ∙ sym of_is;
          complete = subst (λ z. Rattle.c_tree.specs.WellTyped.IsComplete f.program z) (sym of_is) h.4;
        }

    pub conditional_node : (a b c : ℕ) → Is (exprs.Conditional a b c) → ConditionalNode f k a b c
    conditional_node a b c is =
        let h = (of_three term.Conditional (x a) (x b) (x c) of e.pos (fits (exprs.Conditional a b c) is)).3 in
        let j = scalar_kept (t a) h.0 in
        record {
          operands = three term.Conditional a b c refl (same (exprs.Conditional a b c) is)
              (few (exprs.Conditional a b c) is);
          copies = omega (
            arith,
            copied_is f.program k e there,
            copies_by f.program o k e (exprs.Conditional a b c) there is,
          );
          kind = j.0;
          test = record { is = j.1 };
          left = ap kept_as (h.1 ∙ sym of_is);
          right = ap kept_as (h.2 ∙ sym of_is);
          one_way = h.1 ∙ sym of_is;
          other_way = h.2 ∙ sym of_is;
        }

    not_const : (s : Ty) → ty.is_const s ≡ false → ty.bare s ≡ s
    not_const (ty.Const s) h = absurd cc
    not_const s h = refl

    modified_bare : (a : Term) → holds (typing.is_modifiable a) → ty.bare (type_of a) ≡ type_of a
    modified_bare a h = not_const (type_of a) (by (is_place a) (ty.is_const (type_of a))
        (ty.is_array (type_of a)) (ty.is_function (type_of a)) h)
      where
        by : (p c r f : Bool) → (p && not c && not r && not f) ≡ true → c ≡ false
        by p false r f h = refl
        by true true r f h = absurd cc
        by false true r f h = absurd cc

    pub step_node : (a : ℕ) (adds front : Bool) → Is (exprs.Step a adds front) → StepNode f k a
    step_node a adds front is =
        let h = (of_one (term.Step adds front) (x a) of e.pos (fits (exprs.Step a adds front) is)).1 in
        let j = ⊎_elim (λ (d : holds (ty.is_integer of)). integer_kept of d)
        (λ (d : (u : Ty) × (of ≡ ty.Pointer u) × IsComplete f.program u).
        (kind.Cap false, ap kept_as d.1)) h.2 in
        record {
          operands = one (term.Step adds front) a refl (same (exprs.Step a adds front) is)
              (few (exprs.Step a adds front) is);
          kind = j.0;
          is = record { is = ap kept_as of_is ∙ j.1 };
          left = sym (bare_kept (t a)) ∙ sym (ap kept_as h.1) ∙ sym (ap kept_as of_is);
          pointed = λ e.
              let is : of ≡ t a = h.1 ∙ modified_bare (x a) h.0 in
              ⊎_elim (λ (d : holds (ty.is_integer of)).
              absurd (let z : true ≡ false = sym e ∙ (sym (ap points is) ∙ not_pointer of d) in cc))
              (λ (d : PointsToComplete f.program of). subst (λ z. PointsToComplete f.program z) is d) h.2;
        }

    address_by : (q : IntOp) (s : Bool) (u : Ty) → (u ≡ ty.Cap s) ⊎ holds (typing.is_shift q) →
        AddressFits (is_shift q) (or_int (kept_as u))
    address_by q s u h =
        ⊎_elim (λ (d : u ≡ ty.Cap s). not_shift (is_shift q) (ap (λ z. is_capability (or_int (kept_as z))) d))
        (λ (d : holds (typing.is_shift q)). shifts (is_shift q) (sym (shift_same q) ∙ d)) h
      where
        not_shift : (b : Bool) → is_capability (or_int (kept_as u)) ≡ true → AddressFits b (or_int (kept_as u))
        not_shift true z = tt
        not_shift false z = z

        shifts : (b : Bool) → b ≡ true → AddressFits b (or_int (kept_as u))
        shifts true z = tt
        shifts false z = absurd cc

    computed_by : (q : IntOp) (s u : Ty) → holds (ty.is_integer s) → (u ≡ s) ⊎ holds (typing.is_shift q) →
        holds (ty.is_integer u) → ComputedFits q (or_int (kept_as s)) (or_int (kept_as u))
    computed_by q (ty.Int j n) u i h g =
        let c = integer_kept u g in
        subst (λ z. RightFits (is_shift q) j (or_int z)) (sym c.1) (right_by q j n (ty.Int j n) u c.0 refl c.1 h)
    computed_by q (ty.Cap s) u i h g = address_by q s u h
    computed_by q s u i h g = absurd cc

    right_integer : (q : IntOp) (s u : Ty) → CompoundFits f.program q s u of → holds (ty.is_integer u)
    right_integer q s u h = ⊎_elim (λ (d : PointsToComplete f.program of × (s ≡ of) × holds (ty.is_integer u)). d.2)
        (λ (d : holds (ty.is_integer of) × OperandsFit q s u s × holds (ty.is_integer s)). d.1.1) h

    pointed_by : (q : IntOp) (s u : Ty) → CompoundFits f.program q s u of → points s ≡ true →
        PointsToComplete f.program s
    pointed_by q s u h e = ⊎_elim (λ (d : PointsToComplete f.program of × (s ≡ of) × holds (ty.is_integer u)).
        subst (λ z. PointsToComplete f.program z) (sym d.1) d.0)
        (λ (d : holds (ty.is_integer of) × OperandsFit q s u s × holds (ty.is_integer s)).
        absurd (let z : true ≡ false = sym e ∙ not_pointer s d.2 in cc)) h

    -- but in a shift, integers are computed in the right operand's type
    alike_by : (q : IntOp) (s u : Ty) → CompoundFits f.program q s u of → is_shift q ≡ false → points s ≡ false →
        kept_as s ≡ kept_as u
    alike_by q s u h other number = ⊎_elim (λ (d : PointsToComplete f.program of × (s ≡ of) × holds (ty.is_integer u)).
        absurd (let z : true ≡ false = sym (ap points (d.1 ∙ d.0.1)) ∙ number in cc))
        (λ (d : holds (ty.is_integer of) × OperandsFit q s u s × holds (ty.is_integer s)).
        ⊎_elim (λ (g : u ≡ s). ap kept_as (sym g))
        (λ (g : holds (typing.is_shift q)). absurd (let z : true ≡ false = sym g ∙ (shift_same q ∙ other) in cc))
        d.1.2) h

    pub compound_node : (q : IntOp) (a b s : ℕ) → Is (exprs.Compound q a b s) → CompoundNode f k q a b s
    compound_node q a b s is =
        let h = (of_two (term.Compound q (type_in f.program s)) (x a) (x b) of e.pos
        (fits (exprs.Compound q a b s) is)).2 in
        let left = sym (bare_kept (t a)) ∙ sym (ap kept_as h.1) ∙ sym (ap kept_as of_is) in
        let c = integer_kept (t b) (right_integer q (type_in f.program s) (t b) h.2) in
        record {
          operands = two (term.Compound q (type_in f.program s)) a b refl (same (exprs.Compound q a b s) is)
              (few (exprs.Compound q a b s) is);
          left = left;
          count = c.0;
          right = record { is = c.1 };
          pointed = λ e. pointed_by q (type_in f.program s) (t b) h.2 e;
          alike = λ other number. alike_by q (type_in f.program s) (t b) h.2 other number ∙ c.1;
          fits =
              ⊎_elim (λ (d : PointsToComplete f.program of × (type_in f.program s ≡ of) × holds (ty.is_integer (t b))).
              inl (
                ap points (d.1 ∙ d.0.1),
                record { is = sym (bare_kept (t a)) ∙ sym (ap kept_as h.1) ∙ ap kept_as d.0.1 },
              ))
              (λ (d : holds (ty.is_integer of) × OperandsFit q (type_in f.program s) (t b) (type_in f.program s) ×
              holds (ty.is_integer (type_in f.program s))).
              inr (not_pointer (type_in f.program s) d.2, computed_by q (type_in f.program s) (t b) d.2 d.1.2 d.1.1))
              h.2;
        }

    pub global_node : (n : ℕ) → Is (exprs.Global n) → NameNode f k n (length f.program.globals)
    global_node n is =
        let h = of_none (term.Global n) of e.pos (fits (exprs.Global n) is) in
        record {
          there = slice_get_within f.program.globals n h.0 h.1;
          weight = ap term_weight (same (exprs.Global n) is);
        }

    pub literal_node : (n : ℕ) → Is (exprs.Literal n) → NameNode f k n (length f.program.literals)
    literal_node n is =
        let h = of_none (term.Literal n) of e.pos (fits (exprs.Literal n) is) in
        record {
          there = slice_get_within f.program.literals n h.0 h.1;
          weight = ap term_weight (same (exprs.Literal n) is);
        }

    pub fun_node : (n : ℕ) → Is (exprs.Fun n) → FunNode f k n
    fun_node n is =
        let h = of_none (term.Fun n) of e.pos (fits (exprs.Fun n) is) in
        record {
          fun = h.0;
          there = h.1;
          agrees = ap (λ z. ty.compatible z (type_in f.program h.0.of)) of_is ∙ h.2;
          weight = ap term_weight (same (exprs.Fun n) is);
        }

    pub var_node : (n : ℕ) → Is (exprs.Var n) → VarNode f k n
    var_node n is =
        let h = of_none (term.Var n) of e.pos (fits (exprs.Var n) is) in
        record {
          var = h.0;
          there = h.1;
          kept = ap kept_as of_is ∙ agree_kept (λ m n. m == n || m == 0 || n == 0) of (type_in f.program h.0.of) h.2;
          weight = ap term_weight (same (exprs.Var n) is);
        }

    each_typed : (xs : List ℕ) → TermsFit f (terms (map x xs)) → (j a : ℕ) → slice_get xs j ≡ Some a → IsTyped f a
    unfolding TermsFit
    each_typed [] h j a g = absurd cc
    each_typed (y ∷ ys) h zero a g = let q : y ≡ a = cc in subst (λ z. IsTyped f z) q (record { fits = h.0 })
    each_typed (y ∷ ys) h (suc j) a g = each_typed ys h.1 j a g

    weights : (xs : List ℕ) → terms_weight (terms (map x xs)) ≡ sum_by (λ j. term_weight (x j)) xs
    weights [] = refl
    weights (y ∷ ys) = omega (arith, sum_by-cons (λ j. term_weight (x j)) y ys, weights ys)

    of_call : (g : Term) (ys : Terms) → TermFits f (term.term term.Call (with_term g ys) of e.pos) →
        TermFits f g × TermsFit f ys × ShapeFits f term.Call (with_term g ys) of
    unfolding TermFits
    of_call g ys h = (h.0.0, h.0.1, h.1)

    of_library : (n : ℕ) (ys : Terms) → TermFits f (term.term (term.Library n) ys of e.pos) →
        TermsFit f ys × ShapeFits f (term.Library n) ys of
    unfolding TermFits
    of_library n ys h = (h.0, h.1)

    pub call_node : (g : ℕ) (xs : List ℕ) → Is (exprs.Call g xs) → CallNode f k g xs
    call_node g xs is =
        let h = of_call (x g) (terms (map x xs)) (fits (exprs.Call g xs) is) in
        let q : term_weight (x k) ≡ 4 + (term_weight (x g) + terms_weight (terms (map x xs))) =
        ap term_weight (same (exprs.Call g xs) is) in
        record {
          called = record { fits = h.0 };
          arguments = record { each = each_typed xs h.1 };
          weight = omega (arith, q, weights xs);
          copies = omega (arith, few (exprs.Call g xs) is, sum_by-cons (copies_in f.program) g xs);
          result = h.2.0;
          takes = h.2.1;
          of = h.2.2;
          fit = h.2.3;
          gives = ap kept_as (of_is ∙ h.2.4) ∙ bare_kept h.2.0;
        }

    pub library_node : (n : ℕ) (xs : List ℕ) → Is (exprs.Library n xs) → LibraryNode f k n xs
    library_node n xs is =
        let h = of_library n (terms (map x xs)) (fits (exprs.Library n xs) is) in
        let q : term_weight (x k) ≡ 4 + terms_weight (terms (map x xs)) =
        ap term_weight (same (exprs.Library n xs) is) in
        record {
          arguments = record { each = each_typed xs h.0 };
          weight = omega (arith, q, weights xs);
          copies = few (exprs.Library n xs) is;
          service = h.1.0;
          there = h.1.1;
          fit = h.1.2;
          gives = of_is ∙ h.1.3;
        }

    by_kind : (kd : ExprKind) → Is kd → NodeFits f k kd
    by_kind (exprs.Constant n) is = constant_node n is
    by_kind (exprs.Literal n) is = literal_node n is
    by_kind (exprs.Var n) is = var_node n is
    by_kind (exprs.Global n) is = global_node n is
    by_kind (exprs.Fun n) is = fun_node n is
    by_kind (exprs.Load a) is = load_node a is
    by_kind (exprs.Decay a) is = decay_node a is
    by_kind (exprs.Deref a) is = deref_node a is
    by_kind (exprs.Member a m) is = member_node a m is
    by_kind (exprs.Address a) is = address_node a is
    by_kind (exprs.Convert a) is = convert_node a is
    by_kind (exprs.Unary unary.LogicalNot a) is = not_node a is
    by_kind (exprs.Unary unary.Plus a) is = unary_node unary.Plus a (λ z. absurd cc) is
    by_kind (exprs.Unary unary.Minus a) is = unary_node unary.Minus a (λ z. absurd cc) is
    by_kind (exprs.Unary unary.Complement a) is = unary_node unary.Complement a (λ z. absurd cc) is
    by_kind (exprs.Int q a b) is = int_node q a b is
    by_kind (exprs.Capability q a b r) is = capability_node q a b r is
    by_kind (exprs.Plus a b m) is = sum_node a b m is
    by_kind (exprs.Difference a b) is = difference_node a b is
    by_kind (exprs.Compare q a b) is = compare_node q a b is
    by_kind (exprs.And a b) is = and_node a b is
    by_kind (exprs.Or a b) is = or_node a b is
    by_kind (exprs.Comma a b) is = comma_node a b is
    by_kind (exprs.Assign a b) is = assign_node a b is
    by_kind (exprs.Compound q a b s) is = compound_node q a b s is
    by_kind (exprs.Step a adds front) is = step_node a adds front is
    by_kind (exprs.Conditional a b c) is = conditional_node a b c is
    by_kind (exprs.Call g xs) is = call_node g xs is
    by_kind (exprs.Library n xs) is = library_node n xs is

    pub node_fits : NodeFits f k e.kind
    node_fits = by_kind e.kind refl
