-- Which nodes of a function are scalars, by their kinds.
use Rattle.std.proofs.Common.{◌≡◌, ℕ, true, false, List, Some, ◌⊎◌, ⊎_elim, inl, inr}
use Rattle.std.proofs.Common.{Result, Ok, Err, IfOk}
use Rattle.std.specs.Prelude.{slice_get}
use Rattle.ck_int.specs.declared.kinds.IntOp.{IntOp}
use Rattle.c_tree.specs.Terms.{type_of}
use Rattle.c_tree.specs.Types.{is_tagged}
use Rattle.c_tree.specs.WellTyped.{IsComplete}
use Rattle.c_tree.specs.declared.typed.Expr.{Expr}
use Rattle.c_tree.specs.declared.typed.ExprKind.{ExprKind}
use Rattle.c_tree.specs.declared.typed.ExprKind.TheVariants as exprs
use Rattle.c_tree.specs.declared.typed.FunDef.{FunDef}
use Rattle.c_tree.specs.declared.typed.Typed.{Typed}
use Rattle.c_tree.specs.declared.typed.UnaryOp.{UnaryOp}
use Rattle.tac_ir.specs.declared.code.TacKind.{TacKind}
use Rattle.tac_ir.specs.declared.code.TacKind.TheVariants as kind
use Rattle.ck_int.specs.declared.kinds.IntKind.TheVariants as int
use Rattle.tac_lower.proofs.Effects.{is_worked}
use Rattle.tac_lower.proofs.Keeping.{node_at}
use Rattle.tac_lower.specs.declared.types.TypeFacts.{TypeFacts}
use Rattle.tac_lower.specs.Nodes.{expression, IsTyped, IsScalar}
use Rattle.tac_lower.specs.Scenes.{Ready, frame_of}
use Rattle.tac_lower.specs.Trees.{IsNode, HasScalar, IsWhole}
use Rattle.tac_lower.proofs.Nodes.{converted, load_whole, assign_whole, unary_scalar, compound_scalar}

pub is_node : {p : Typed} {k : ℕ} {e : Expr} {of : ExprKind} → slice_get p.exprs k ≡ Some e → e.kind ≡ of →
    IsNode p k of
is_node {e = e} there is = record { node = e; there = there; is = is }

-- what one value is, by two facts of it
pub both_weaker : {X Y : Type 0} (r : Result X Y) (P Q R : X → Type 0) → ((x : X) → P x → Q x → R x) → IfOk r P →
    IfOk r Q → IfOk r R
both_weaker (Ok x) P Q R f g h = f x g h
both_weaker (Err e) P Q R f g h = tt

module _ {p : Typed} (d : FunDef) {types : List TypeFacts} {k : ℕ} {e : Expr} (ready : Ready p types)
    (w : IsTyped (frame_of p d) k) (there : slice_get p.exprs k ≡ Some e) where
  some_scalar : {a : ℕ} → (j : TacKind) × IsScalar p a j → HasScalar p a
  some_scalar h = record { kind = h.0; is = h.1 }

  some_whole : ((j : TacKind) × IsScalar p k j)
      ⊎ ((is_tagged (type_of (expression p k)) ≡ true) × IsComplete p (type_of (expression p k))) → IsWhole p k
  some_whole h =
      ⊎_elim (λ (x : (j : TacKind) × IsScalar p k j). inl (some_scalar x))
      (λ (x : (is_tagged (type_of (expression p k)) ≡ true) × IsComplete p (type_of (expression p k))).
      inr (record { tagged = x.0; complete = x.1 })) h

  pub has_converted : (a : ℕ) → e.kind ≡ exprs.Convert a → (j : TacKind) → IsScalar p k j → HasScalar p a
  has_converted a is j h = some_scalar (converted (frame_of p d) ready.ordered k e there w a j is h)

  pub has_unary : (op : UnaryOp) (a : ℕ) → e.kind ≡ exprs.Unary op a → HasScalar p k
  has_unary op a is = some_scalar (unary_scalar (frame_of p d) ready.ordered k e there w op a is)

  pub has_compound : (op : IntOp) (a b c : ℕ) → e.kind ≡ exprs.Compound op a b c → HasScalar p k
  has_compound op a b c is = some_scalar (compound_scalar (frame_of p d) ready.ordered k e there w op a b c is)

  pub whole_load : (a : ℕ) → e.kind ≡ exprs.Load a → IsWhole p k
  whole_load a is = some_whole (load_whole (frame_of p d) ready.ordered k e there w a is)

  pub whole_assign : (a b : ℕ) → e.kind ≡ exprs.Assign a b → IsWhole p k
  whole_assign a b is = some_whole (assign_whole (frame_of p d) ready.ordered k e there w a b is)

  -- an operation gives a scalar
  pub has_worked : (of : ExprKind) → is_worked of ≡ true → e.kind ≡ of → HasScalar p k
  has_worked (exprs.Decay a) h is = let n = node_at d ready w there is in record { kind = kind.Cap false; is = n.is }
  has_worked (exprs.Address a) h is = let n = node_at d ready w there is in record { kind = kind.Cap false; is = n.is }
  has_worked (exprs.Unary op a) h is = has_unary op a is
  has_worked (exprs.Int op a b) h is =
      let n = node_at d ready w there is in record { kind = kind.Int n.kind; is = n.is }
  has_worked (exprs.Capability op a b r) h is =
      let n = node_at d ready w there is in record { kind = kind.Cap n.signed; is = n.is }
  has_worked (exprs.Plus a b m) h is = let n = node_at d ready w there is in record { kind = kind.Cap false; is = n.is }
  has_worked (exprs.Difference a b) h is =
      let n = node_at d ready w there is in record { kind = kind.Int int.I64; is = n.is }
  has_worked (exprs.Compare op a b) h is =
      let n = node_at d ready w there is in record { kind = kind.Int int.I32; is = n.is }
  has_worked of h is = absurd cc
