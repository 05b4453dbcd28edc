-- The tree of a place that is taken has the place's own position.
use Rattle.std.proofs.Common.{◌≡◌, ℕ, Bool, true, false, List, [], ◌∷◌, Some, refl, ap, subst, ◌∙◌, ◌⊎◌, ⊎_elim, arith}
use Rattle.std.proofs.Common.{get_or, if◌then◌else◌}
use Rattle.std.specs.Prelude.{slice_get}
use Rattle.std.proofs.lemmas.Option.{same_Some, slice_get_within, slice_get-get_or}
use Rattle.ck_base.specs.declared.positions.Pos.{Pos}
use Rattle.c_tree.specs.Terms.{Term}
use Rattle.c_tree.specs.Types.{Ty}
use Rattle.c_tree.specs.Typing.{Sound}
use Rattle.c_tree.specs.Views.{types_of, terms_of, term_at, kind_term, operands, IsOrdered}
use Rattle.c_tree.specs.WellTyped.{type_in}
use Rattle.c_tree.specs.declared.typed.Expr.{Expr}
use Rattle.c_tree.specs.declared.typed.ExprKind.{ExprKind}
use Rattle.c_tree.specs.declared.typed.ExprKind.TheVariants as exprs
use Rattle.c_tree.specs.declared.typed.Typed.{Typed}
use Rattle.c_tree.specs.declared.typed.VarDef.{VarDef}
use Rattle.typing_laws.proofs.Sound.{well_typed}
use Rattle.typing_laws.specs.Valued.{IsValue, IsPlace}
use Rattle.cheri_c_sem.specs.Expressions.{kind_tree, expr_tree}
use Rattle.cheri_c_sem.specs.Tree.{Variable, Local}
use Rattle.cheri_c_sem.specs.Types.{is_simple, objects_before}
use Rattle.cheri_c_sem.proofs.Unfold.{expression_node}
use Rattle.placement.proofs.Ordering.{ordered_of}
use Rattle.lower_runs.specs.Expressions.{position_in}
use Rattle.value_trees.specs.Nodes.{IsUsed, taken, IsPlaced, ArePlaced}
use Rattle.value_trees.proofs.Nodes.{expression_is}
use Rattle.value_trees.proofs.Uses.{are_used}

module _ (p : Typed) (o : IsOrdered p) (vars : List VarDef) where
  abbrev x : ℕ → Term
  x k = term_at (terms_of p) k

  abbrev term_of : ExprKind → Ty → Pos → Term
  term_of kd t q = kind_term (types_of p.types) kd t q x

  named : (b : Bool) (q : Pos) (y z : ℕ) → position_in (if b then Variable q y else Local q z) ≡ Some q
  named true q y z = refl
  named false q y z = refl

  position : (kd : ExprKind) (of : ℕ) (t : Ty) (q : Pos) → IsPlace (term_of kd t q) →
      position_in (kind_tree p vars (expr_tree p vars) of q kd) ≡ Some q
  position (exprs.Literal k) of t q h = refl
  position (exprs.Var y) of t q h = named (is_simple (slice_get vars y)) q y (objects_before vars y)
  position (exprs.Global k) of t q h = refl
  position (exprs.Fun k) of t q h = refl
  position (exprs.Deref a) of t q h = refl
  position (exprs.Member a m) of t q h = refl
  position kd of t q h = absurd h

  placed : (a : ℕ) (e : Expr) → slice_get p.exprs a ≡ Some e → IsPlace (x a) → IsPlaced p vars a
  placed a e h i = record {
    node = e;
    there = h;
    is = ap position_in (expression_node p vars (ordered_of p o) a e h)
        ∙ position e.kind e.of (type_in p e.of) e.pos (subst IsPlace (expression_is p o a e h) i);
  }

  abbrev Takes : ExprKind → ℕ → Type 0
  Takes kd a = (slice_get (operands kd) 0 ≡ Some a) × IsPlace (x a)

  first_taken : (a b : ℕ) (ks : List ℕ) → Some b ≡ Some a → {N : Type 0} → (N → IsPlace (x b)) → N ⊎ ⊥ →
      (slice_get (b ∷ ks) 0 ≡ Some a) × IsPlace (x a)
  first_taken a b ks e f h = (e, subst (λ k. IsPlace (x k)) (same_Some b a e) (⊎_elim f (λ v. absurd v) h))

  -- what a value takes is a place
  taken_place : (kd : ExprKind) (t : Ty) (q : Pos) (a : ℕ) → taken kd ≡ Some a →
      IsValue (term_of kd t q) ⊎ IsPlace (term_of kd t q) → Takes kd a
  taken_place (exprs.Load b) t q a e h = first_taken a b [] e (λ v. v.1.0) h
  taken_place (exprs.Assign b c) t q a e h = first_taken a b (c ∷ []) e (λ v. v.1.0) h
  taken_place (exprs.Compound op b c d) t q a e h = first_taken a b (c ∷ []) e (λ v. v.1.0) h
  taken_place (exprs.Step b adds front) t q a e h = first_taken a b [] e (λ v. v.1.0) h
  taken_place kd t q a e h = absurd cc

  taken_placed : (k a : ℕ) (e : Expr) → slice_get p.exprs k ≡ Some e → taken e.kind ≡ Some a → IsUsed p k →
      IsPlaced p vars a
  taken_placed k a e h t u =
      let i = expression_is p o k e h in
      let z = taken_place e.kind (type_in p e.of) e.pos a t
      (subst (λ y. IsValue y ⊎ IsPlace y) i u.stands) in
      let lt = o.operands_before k 0 a e h z.0 in
      placed a (get_or p.exprs a e)
      (slice_get-get_or p.exprs a e (let n = slice_get_within p.exprs k e h in omega (arith, lt, n))) z.1

pub are_placed : (p : Typed) → Sound p → ArePlaced p
are_placed p h vars k a e there t =
    taken_placed p (well_typed p h).ordered vars k a e there t (are_used p h k e there)
