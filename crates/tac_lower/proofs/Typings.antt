-- The types of a program by their numbers and as trees.
use Rattle.std.proofs.Common.{◌≡◌, ℕ, zero, suc, ◌+◌, ◌<◌, ◌≤◌, false, List, [], ◌∷◌, ◌++◌, length, get_or, Option}
use Rattle.std.proofs.Common.{Some, None, refl, sym, ap, ◌∙◌, subst, arith, length-append}
use Rattle.std.specs.Prelude.{slice_get, slice_index_or}
use Rattle.std.proofs.lemmas.Option.{slice_get_within, slice_get_past, slice_get-get_or}
use Rattle.c_tree.specs.Layout.{bare, bare_of, bare_within}
use Rattle.c_tree.specs.Terms.{type_of}
use Rattle.c_tree.specs.Types as ty
use Rattle.c_tree.specs.Types.{Ty}
use Rattle.c_tree.specs.Views.{grow, expr_from, types_of, type_from, kind_term, no_term, terms_of, IsOrdered}
use Rattle.c_tree.specs.WellTyped.{type_in}
use Rattle.c_tree.specs.declared.typed.CType.{CType}
use Rattle.c_tree.specs.declared.typed.CType.TheVariants as types
use Rattle.c_tree.specs.declared.typed.Expr.{Expr}
use Rattle.c_tree.specs.declared.typed.ExprKind.{ExprKind}
use Rattle.c_tree.specs.declared.typed.ExprKind.TheVariants as exprs
use Rattle.c_tree.specs.declared.typed.Typed.{Typed}
use Rattle.c_tree.proofs.Forest.{forest_reads}
use Rattle.tac_ir.specs.declared.code.TacKind.{TacKind}
use Rattle.tac_lower.specs.Nodes.{kept_as, points, expression, scalar_in}
use Rattle.tac_lower.specs.Tables.{kept_by, target_by, is_some}
use Rattle.tac_lower.proofs.Nodes.{expression_is}

-- ---- past the lists

none_by : (all : List CType) (d t : ℕ) → slice_get all t ≡ None → bare_within d all t ≡ None
unfolding bare_within
none_by all zero t h = refl
none_by all (suc d) t h = ap (λ z. bare_of z (bare_within d all)) h

pub bare_past : (all : List CType) (t : ℕ) → length all ≤ t → bare all t ≡ None
bare_past all t h = none_by all (length all) t (slice_get_past all t h)

grow_length : {N T : Type 0} (make : N → (ℕ → T) → T) (bad : T) (ns : List N) (ts : List T) →
    length (grow make bad ns ts) ≡ length ts + length ns
unfolding grow
grow_length make bad [] ts = omega arith
grow_length make bad (n ∷ ns) ts =
    let v = make n (λ k. slice_index_or ts k bad) in
    omega (arith, grow_length make bad ns (ts ++ v ∷ []), length-append ts (v ∷ []))

past_default : {T : Type 0} (ts : List T) (d : T) (k : ℕ) → length ts ≤ k → get_or ts k d ≡ d
past_default [] d k h = refl
past_default (x ∷ ts) d zero h = absurd (omega arith)
past_default (x ∷ ts) d (suc k) h = past_default ts d k (omega arith)

-- ---- a type

record Same (c : Option CType) (t : Ty) : Type 0 where
  kept : kept_by c ≡ kept_as t
  target : is_some (target_by c) ≡ points t

module _ (p : Typed) (o : IsOrdered p) where
  start : (d t : ℕ) (c : CType) → slice_get p.types t ≡ Some c →
      Same (bare_of (Some c) (bare_within d p.types)) (type_in p t) → Same (bare_within (suc d) p.types t) (type_in p t)
  unfolding bare_within
  start d t c h s = subst (λ z. Same (bare_of z (bare_within d p.types)) (type_in p t)) (sym h) s

  module _ (d t : ℕ) (deep : (u : ℕ) (w : CType) → u < t → slice_get p.types u ≡ Some w →
      Same (bare_within d p.types u) (type_in p u)) where
    there : (u : ℕ) → u < length p.types → (w : CType) × (slice_get p.types u ≡ Some w)
    there u less = (get_or p.types u types.Void, slice_get-get_or p.types u types.Void less)

    by_node : (w : CType) → slice_get p.types t ≡ Some w → (go : ℕ → Ty) → type_in p t ≡ type_from w go →
        ((j : ℕ) → j < t → go j ≡ type_in p j) → Same (bare_of (Some w) (bare_within d p.types)) (type_in p t)
    by_node types.Void g go is before = record { kept = sym (ap kept_as is); target = sym (ap points is) }
    by_node (types.Int k n) g go is before = record { kept = sym (ap kept_as is); target = sym (ap points is) }
    by_node (types.Cap s) g go is before = record { kept = sym (ap kept_as is); target = sym (ap points is) }
    by_node (types.Pointer u) g go is before = record { kept = sym (ap kept_as is); target = sym (ap points is) }
    by_node (types.Array u n) g go is before = record { kept = sym (ap kept_as is); target = sym (ap points is) }
    by_node (types.Struct tag ms) g go is before = record { kept = sym (ap kept_as is); target = sym (ap points is) }
    by_node (types.Union tag ms) g go is before = record { kept = sym (ap kept_as is); target = sym (ap points is) }
    by_node (types.Function u ps) g go is before = record { kept = sym (ap kept_as is); target = sym (ap points is) }
    by_node (types.Incomplete tag) g go is before = record { kept = sym (ap kept_as is); target = sym (ap points is) }
    by_node (types.Const u) g go is before =
        let less : u < t = o.types t (types.Const u) g in
        let q : type_in p t ≡ ty.Const (type_in p u) = is ∙ ap ty.Const (before u less) in
        let more : t < length p.types = slice_get_within p.types t (types.Const u) g in
        let w = there u (omega arith) in
        let s = deep u w.0 less w.1 in
        record { kept = s.kept ∙ sym (ap kept_as q); target = s.target ∙ sym (ap points q) }

  within : (d t : ℕ) → t < d → (c : CType) → slice_get p.types t ≡ Some c → Same (bare_within d p.types t) (type_in p t)
  within zero t lt c h = absurd (omega arith)
  within (suc d) t lt c h =
      let r = forest_reads type_from ty.Void p.types t c h in
      start d t c h (by_node d t (λ u w less g. within d u (omega arith) w g) c h
      (λ j. get_or r.seen j ty.Void) r.is r.before)

  past_from : (cs : List CType) (t : ℕ) → slice_get cs t ≡ None → length cs ≤ t
  past_from [] t h = omega arith
  past_from (c ∷ cs) zero h = absurd cc
  past_from (c ∷ cs) (suc t) h = let q = past_from cs t h in omega arith

  pub type_past : (t : ℕ) → slice_get p.types t ≡ None → type_in p t ≡ ty.Void
  type_past t h =
      let le : length p.types ≤ t = past_from p.types t h in
      past_default (types_of p.types) ty.Void t (omega (arith, grow_length type_from ty.Void p.types []))

  same_type : (t : ℕ) → Same (bare p.types t) (type_in p t)
  same_type t = by (slice_get p.types t) refl
    where
      by : (c : Option CType) → slice_get p.types t ≡ c → Same (bare p.types t) (type_in p t)
      by (Some c) h = within (length p.types) t (slice_get_within p.types t c h) c h
      by None h =
          let e : bare p.types t ≡ None = none_by p.types (length p.types) t h in
          let v = type_past t h in
          record {
            kept = ap kept_by e ∙ sym (ap kept_as v);
            target = ap (λ z. is_some (target_by z)) e
                ∙ sym (ap points v);
          }

  pub kept_is : (t : ℕ) → kept_by (bare p.types t) ≡ kept_as (type_in p t)
  kept_is t = (same_type t).kept

  pub points_is : (t : ℕ) → is_some (target_by (bare p.types t)) ≡ points (type_in p t)
  points_is t = (same_type t).target

  -- ---- expressions

  past_exprs : (es : List Expr) (k : ℕ) → slice_get es k ≡ None → length es ≤ k
  past_exprs [] k h = omega arith
  past_exprs (e ∷ es) zero h = absurd cc
  past_exprs (e ∷ es) (suc k) h = let q = past_exprs es k h in omega arith

  pub expression_past : (k : ℕ) → slice_get p.exprs k ≡ None → expression p k ≡ no_term
  expression_past k h =
      let le : length p.exprs ≤ k = past_exprs p.exprs k h in
      past_default (terms_of p) no_term k (omega (arith, grow_length (expr_from (types_of p.types)) no_term p.exprs []))

  pub expression_type : (k : ℕ) (e : Expr) → slice_get p.exprs k ≡ Some e → type_of (expression p k) ≡ type_in p e.of
  expression_type k e h = ap type_of (expression_is p o k e h) ∙ by e.kind
    where
      by : (kd : ExprKind) → type_of (kind_term (types_of p.types) kd (type_in p e.of) e.pos (expression p))
          ≡ type_in p e.of
      by (exprs.Constant n) = refl
      by kd = refl

  -- ---- an expression's facts

  pub facts_kept : (k : ℕ) (e : Expr) (kd : Option TacKind) → slice_get p.exprs k ≡ Some e →
      kd ≡ kept_by (bare p.types e.of) → kd ≡ scalar_in p k
  facts_kept k e kd h q = q ∙ kept_is e.of ∙ sym (ap kept_as (expression_type k e h))

  pub facts_point : (k : ℕ) (e : Expr) (target : Option ℕ) → slice_get p.exprs k ≡ Some e →
      target ≡ target_by (bare p.types e.of) → is_some target ≡ points (type_of (expression p k))
  facts_point k e target h q = ap is_some q ∙ points_is e.of ∙ sym (ap points (expression_type k e h))

  pub none_kept : (k : ℕ) → slice_get p.exprs k ≡ None → scalar_in p k ≡ None
  none_kept k h = ap (λ z. kept_as (type_of z)) (expression_past k h)

  pub none_points : (k : ℕ) → slice_get p.exprs k ≡ None → points (type_of (expression p k)) ≡ false
  none_points k h = ap (λ z. points (type_of z)) (expression_past k h)
