-- Types of nodes that are alike, and struct and union values.
use Rattle.std.proofs.Common.{◌≡◌, ℕ, ◌<◌, Bool, true, false, Some, get_or, refl, sym, ap, ◌∙◌, subst}
use Rattle.std.proofs.Common.{arith, ⊎_elim, inl, inr}
use Rattle.std.specs.Prelude.{slice_get, if◌then◌else◌}
use Rattle.std.proofs.lemmas.Option.{slice_get_within, slice_get-get_or}
use Rattle.c_tree.specs.Layout.{bare}
use Rattle.c_tree.specs.Terms.{type_of}
use Rattle.c_tree.specs.Types as ty
use Rattle.c_tree.specs.Views.{IsOrdered}
use Rattle.c_tree.specs.WellTyped.{type_in}
use Rattle.c_tree.specs.declared.typed.Expr.{Expr}
use Rattle.c_tree.specs.declared.typed.ExprKind.TheVariants as exprs
use Rattle.cheri_c_sem.specs.Expressions.{type_of as number_of}
use Rattle.cheri_c_sem.specs.Order.{Ordered}
use Rattle.cheri_c_sem.specs.Tree.{Aggregate, Load}
use Rattle.cheri_c_sem.specs.Types.{is_record}
use Rattle.cheri_c_sem.specs.Types as sem_types
use Rattle.lower_runs.specs.States.{Scene}
use Rattle.lower_runs.specs.Expressions.{IsBase, aggregate}
use Rattle.lower_runs.specs.Trees.{Places}
use Rattle.tac_lower.specs.Nodes.{expression}
use Rattle.tac_lower.specs.Trees.{Setting, tree, IsNode, IsBare, TypesFit, IsCopied, HasRecord, ShowsBase}
use Rattle.tac_lower.proofs.Deriving.{node_tree}
use Rattle.tac_lower.proofs.Typings.{expression_type}

module _ (s : Setting) (o : Ordered s.program) (t : IsOrdered s.program) where
  abbrev x : ℕ → ty.Ty
  x k = type_of (expression s.program k)

  -- a node of a lower number is there
  pub lower : {k a : ℕ} {e : Expr} → slice_get s.program.exprs k ≡ Some e → a < k →
      (f : Expr) × (slice_get s.program.exprs a ≡ Some f)
  lower {k = k} {a = a} {e = e} h l =
      let more = slice_get_within s.program.exprs k e h in
      (get_or s.program.exprs a e, slice_get-get_or s.program.exprs a e (omega (arith, more)))

  numbered : (k : ℕ) {e : Expr} → slice_get s.program.exprs k ≡ Some e →
      x k ≡ type_in s.program (number_of (slice_get s.program.exprs k))
  numbered k {e = e} h =
      expression_type s.program t k e h ∙ ap (λ z. type_in s.program (number_of z)) (sym h)

  pub alike : (k a : ℕ) {e f : Expr} → slice_get s.program.exprs k ≡ Some e → slice_get s.program.exprs a ≡ Some f →
      IsBare (x k) (x a) → IsBare (type_in s.program (number_of (slice_get s.program.exprs k)))
      (type_in s.program (number_of (slice_get s.program.exprs a)))
  alike k a h g = ⊎_elim (λ (q : x k ≡ x a). inl (sym (numbered k h) ∙ q ∙ numbered a g))
      (λ (q : x k ≡ ty.bare (x a)). inr (sym (numbered k h) ∙ q ∙ ap ty.bare (numbered a g)))

  -- nodes whose types are alike are both structs or unions
  pub both_records : TypesFit s.program → (k a : ℕ) {e f : Expr} → slice_get s.program.exprs k ≡ Some e →
      slice_get s.program.exprs a ≡ Some f → IsBare (x k) (x a) → HasRecord s.program k → HasRecord s.program a
  both_records fit k a h g same r = sym (fit.records _ _ (alike k a h g same)) ∙ r

  pub both_copied : TypesFit s.program → (k a : ℕ) {n : ℕ} {e f : Expr} → slice_get s.program.exprs k ≡ Some e →
      slice_get s.program.exprs a ≡ Some f → IsBare (x k) (x a) → IsCopied s.program k n → IsCopied s.program a n
  both_copied fit k a h g same r = record {
    is = both_records fit k a h g same r.is;
    size = sym (fit.sizes _ _ (alike k a h g same)) ∙ r.size;
    within = r.within;
  }

  -- what is read, where it is a place
  pub read_place : (g : Scene) {k a : ℕ} (n : IsNode s.program k (exprs.Load a)) → Places g (tree s k) →
      HasRecord s.program k × (tree s k ≡ Aggregate (tree s a))
  read_place g {k = k} {a = a} n means = by (is_record (bare s.program.types n.node.of)) refl
    where
      is : tree s k ≡ (if is_record (bare s.program.types n.node.of) then Aggregate (tree s a)
          else Load (sem_types.kind_of (bare s.program.types n.node.of)) (tree s a))
      is = node_tree s o t n

      by : (z : Bool) → is_record (bare s.program.types n.node.of) ≡ z →
          HasRecord s.program k × (tree s k ≡ Aggregate (tree s a))
      by true e = (
        ap (λ z. is_record (bare s.program.types (number_of z))) n.there ∙ e,
        is ∙ ap (λ z. if z then Aggregate (tree s a)
            else Load (sem_types.kind_of (bare s.program.types n.node.of)) (tree s a)) e,
      )
      by false e = absurd (subst (λ z. Places g z) (is ∙ ap (λ z. if z then Aggregate (tree s a)
          else Load (sem_types.kind_of (bare s.program.types n.node.of)) (tree s a)) e) means)

  pub base_read : {k l v : ℕ} → IsNode s.program k (exprs.Load l) → ShowsBase s l v → ShowsBase s k v
  base_read {k = k} {l = l} {v = v} n h = record {
    is = λ g suits means.
        let r = read_place g n means in
        let place : Places g (tree s l) = subst (λ z. Places g z) r.1 means in
        subst (λ z. IsBase g z v) (sym r.1) (aggregate (h.is g suits place));
  }
