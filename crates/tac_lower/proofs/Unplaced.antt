-- Nodes that are no places.
use Rattle.std.proofs.Common.{◌≡◌, ℕ, zero, suc, ◌<◌, Bool, true, false, List, Some, None, get_or, length}
use Rattle.std.proofs.Common.{refl, sym, ap, ◌∙◌, subst, arith, ⊎_elim}
use Rattle.std.specs.Prelude.{slice_get, if◌then◌else◌}
use Rattle.std.proofs.lemmas.Option.{slice_get-get_or}
use Rattle.ck_base.specs.declared.positions.Pos.{Pos}
use Rattle.c_tree.specs.Layout.{bare, bare_of, bare_within}
use Rattle.c_tree.specs.Types as ty
use Rattle.c_tree.specs.Types.{Ty}
use Rattle.c_tree.specs.Views.{IsOrdered, type_from}
use Rattle.c_tree.specs.WellTyped.{type_in}
use Rattle.c_tree.specs.declared.typed.CType.{CType}
use Rattle.c_tree.specs.declared.typed.CType.TheVariants as types
use Rattle.c_tree.specs.declared.typed.ExprKind.{ExprKind}
use Rattle.c_tree.specs.declared.typed.ExprKind.TheVariants as exprs
use Rattle.c_tree.specs.declared.typed.Typed.{Typed}
use Rattle.c_tree.specs.declared.typed.UnaryOp.{UnaryOp}
use Rattle.c_tree.specs.declared.typed.UnaryOp.TheVariants as unary
use Rattle.c_tree.proofs.Forest.{forest_reads}
use Rattle.cheri_c_sem.specs.Expressions as sem
use Rattle.cheri_c_sem.specs.Expressions.{expr_tree}
use Rattle.cheri_c_sem.specs.Kinds.{Kind, Plain, Capability}
use Rattle.cheri_c_sem.specs.Order.{Ordered}
use Rattle.cheri_c_sem.specs.Tree.{Ex, Number}
use Rattle.cheri_c_sem.specs.Types.{is_pointer}
use Rattle.tac_ir.specs.declared.code.TacKind.{TacKind}
use Rattle.lower_runs.specs.States.{Scene}
use Rattle.lower_runs.specs.Trees.{Places}
use Rattle.tac_lower.specs.Nodes.{IsTyped, IsScalar}
use Rattle.tac_lower.specs.Trees.{Setting, tree, frame_in, IsNode}
use Rattle.tac_lower.proofs.Deriving.{node_tree}
use Rattle.tac_lower.proofs.Nodes.{conversions}
use Rattle.tac_lower.proofs.Standing.{converts}

-- ---- void

void_from : (c : CType) (go : ℕ → Ty) → type_from c go ≡ ty.Void → c ≡ types.Void
void_from types.Void go h = refl
void_from c go h = absurd cc

void_within : (d : ℕ) (all : List CType) (u : ℕ) → u < d → slice_get all u ≡ Some types.Void →
    bare_within d all u ≡ Some types.Void
unfolding bare_within
void_within zero all u less h = absurd (omega (arith, less))
void_within (suc d) all u less h = ap (λ z. bare_of z (bare_within d all)) h

void_bare : (p : Typed) (u : ℕ) → u < length p.types → type_in p u ≡ ty.Void → bare p.types u ≡ Some types.Void
void_bare p u less h =
    let c = get_or p.types u types.Void in
    let there : slice_get p.types u ≡ Some c = slice_get-get_or p.types u types.Void less in
    let r = forest_reads type_from ty.Void p.types u c there in
    let is : c ≡ types.Void = void_from c _ (sym r.is ∙ h) in
    void_within (length p.types) p.types u less (there ∙ ap Some is)

-- ---- by their kinds

-- some node of the kind may be a place
abbrev pub may_be_place : ExprKind → Bool
may_be_place (exprs.Literal n) = true
may_be_place (exprs.Var x) = true
may_be_place (exprs.Global n) = true
may_be_place (exprs.Fun f) = true
may_be_place (exprs.Load a) = true
may_be_place (exprs.Deref a) = true
may_be_place (exprs.Member a m) = true
may_be_place (exprs.Conditional c a b) = true
may_be_place (exprs.Comma a b) = true
may_be_place (exprs.Assign a b) = true
may_be_place of = false

constant_never : (g : Scene) (n : ℕ) (k : Kind) → Places g (sem.constant n k) → ⊥
constant_never g n (Plain k) h = h
constant_never g n (Capability s) h = h

sign_never : (g : Scene) (q : Pos) (k : Kind) (e : Ex) (op : UnaryOp) → Places g (sem.sign_of q k e op) → ⊥
sign_never g q k e unary.Plus h = h
sign_never g q k e unary.Minus h = h
sign_never g q k e unary.Complement h = h
sign_never g q k e unary.LogicalNot h = h

sum_never : (g : Scene) (z : Bool) (a b : Ex) → Places g a ≡ ⊥ → Places g b ≡ ⊥ → Places g (if z then a else b) → ⊥
sum_never g true a b e f h = subst (λ z. z) e h
sum_never g false a b e f h = subst (λ z. z) f h

module _ (s : Setting) (o : Ordered s.program) (t : IsOrdered s.program) where
  conversion_never : (u : Ty) {k a : ℕ} → IsTyped (frame_in s u) k → IsNode s.program k (exprs.Convert a) →
      (g : Scene) → Places g (tree s k) → ⊥
  conversion_never u {k = k} {a = a} typed n g means =
      ⊎_elim (λ (v : type_in s.program n.node.of ≡ ty.Void). dropped v) (λ (v : Both). kept v)
      (conversions (frame_in s u) t k n.node n.there typed a n.is)
    where
      Both : Type 0
      Both = ((j : TacKind) × IsScalar s.program k j) × ((j : TacKind) × IsScalar s.program a j)

      dropped : type_in s.program n.node.of ≡ ty.Void → ⊥
      dropped v =
          let old = sem.bare_type s.program s.vars a in
          let is = void_bare s.program n.node.of (t.typed k n.node n.there) v in
          subst (λ z. Places g z) (node_tree s o t n
          ∙ ap (λ z. sem.conversion s.program s.vars n.node.pos old z (tree s a)) is) means

      kept : Both → ⊥
      kept v = subst (λ z. Places g z) (converts s o t n v.0.1 v.1.1).1 means

  pub never_place : (u : Ty) (of : ExprKind) {k : ℕ} → IsTyped (frame_in s u) k → IsNode s.program k of →
      may_be_place of ≡ false → (g : Scene) → Places g (tree s k) → ⊥
  never_place u (exprs.Constant n) typed is h g means =
      constant_never g n _ (subst (λ z. Places g z) (node_tree s o t is) means)
  never_place u (exprs.Unary op a) typed is h g means =
      sign_never g _ _ _ op (subst (λ z. Places g z) (node_tree s o t is) means)
  never_place u (exprs.Plus a b minus) typed is h g means =
      sum_never g (is_pointer (sem.bare_type s.program s.vars a)) _ _ refl refl
      (subst (λ z. Places g z) (node_tree s o t is) means)
  never_place u (exprs.Convert a) typed is h g means = conversion_never u typed is g means
  never_place u (exprs.Literal n) typed is h g means = absurd cc
  never_place u (exprs.Var x) typed is h g means = absurd cc
  never_place u (exprs.Global n) typed is h g means = absurd cc
  never_place u (exprs.Fun f) typed is h g means = absurd cc
  never_place u (exprs.Load a) typed is h g means = absurd cc
  never_place u (exprs.Deref a) typed is h g means = absurd cc
  never_place u (exprs.Member a m) typed is h g means = absurd cc
  never_place u (exprs.Conditional c a b) typed is h g means = absurd cc
  never_place u (exprs.Comma a b) typed is h g means = absurd cc
  never_place u (exprs.Assign a b) typed is h g means = absurd cc
  never_place u of typed is h g means = subst (λ z. Places g z) (node_tree s o t is) means

  none_tree : (k : ℕ) → slice_get s.program.exprs k ≡ None → tree s k ≡ Number 0
  unfolding expr_tree
  none_tree k h = ap (sem.node_tree s.program s.vars (sem.levels s.program s.vars k)) h

  pub none_place : (k : ℕ) → slice_get s.program.exprs k ≡ None → (g : Scene) → Places g (tree s k) → ⊥
  none_place k h g means = subst (λ z. Places g z) (none_tree k h) means

  -- a kind that is none of these
  pub another : (of : ExprKind) → ((n : ℕ) → of ≡ exprs.Literal n → ⊥) → ((n : ℕ) → of ≡ exprs.Var n → ⊥) →
      ((n : ℕ) → of ≡ exprs.Global n → ⊥) → ((n : ℕ) → of ≡ exprs.Fun n → ⊥) → ((a : ℕ) → of ≡ exprs.Load a → ⊥) →
      ((a : ℕ) → of ≡ exprs.Deref a → ⊥) → ((a m : ℕ) → of ≡ exprs.Member a m → ⊥) →
      ((c a b : ℕ) → of ≡ exprs.Conditional c a b → ⊥) → ((a b : ℕ) → of ≡ exprs.Comma a b → ⊥) →
      ((a b : ℕ) → of ≡ exprs.Assign a b → ⊥) → may_be_place of ≡ false
  another (exprs.Literal n) l v b f r d m c e a = absurd (l n refl)
  another (exprs.Var x) l v b f r d m c e a = absurd (v x refl)
  another (exprs.Global n) l v b f r d m c e a = absurd (b n refl)
  another (exprs.Fun n) l v b f r d m c e a = absurd (f n refl)
  another (exprs.Load x) l v b f r d m c e a = absurd (r x refl)
  another (exprs.Deref x) l v b f r d m c e a = absurd (d x refl)
  another (exprs.Member x n) l v b f r d m c e a = absurd (m x n refl)
  another (exprs.Conditional x y z) l v b f r d m c e a = absurd (c x y z refl)
  another (exprs.Comma x y) l v b f r d m c e a = absurd (e x y refl)
  another (exprs.Assign x y) l v b f r d m c e a = absurd (a x y refl)
  another of l v b f r d m c e a = refl
