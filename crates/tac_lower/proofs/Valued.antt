-- Code is shown to be that of a value: of an assignment and of a call; a place has none.
use Rattle.std.proofs.Common.{◌≡◌, ℕ, Bool, true, false, Option, Some, ap, subst, ◌⊎◌, inl, inr}
use Rattle.std.specs.Prelude.{slice_get, if◌then◌else◌}
use Rattle.ck_base.specs.declared.positions.Pos.{Pos}
use Rattle.c_tree.specs.declared.typed.ExprKind.{ExprKind}
use Rattle.c_tree.specs.declared.typed.ExprKind.TheVariants as exprs
use Rattle.cheri_c_sem.specs.Expressions.{kind_tree}
use Rattle.cheri_c_sem.specs.Tree.{Variable, Local}
use Rattle.cheri_c_sem.specs.Types.{is_simple, objects_before}
use Rattle.tac_ir.specs.declared.code.TacKind.{TacKind}
use Rattle.tac_emit.specs.declared.emitter.Emitter.{Emitter}
use Rattle.lower_runs.specs.States.{Scene}
use Rattle.lower_runs.specs.Expressions.{IsCall, value_assignment, value_call}
use Rattle.lower_runs.specs.Trees.{Values}
use Rattle.tac_lower.specs.Nodes.{IsScalar}
use Rattle.tac_emit.specs.Adding.{mark}
use Rattle.tac_lower.specs.Trees.{Setting, tree, signatures, ShowsValue, ShowsAssignment, ShowsCall}

-- a place of its own
abbrev pub is_place : ExprKind → Bool
is_place (exprs.Literal n) = true
is_place (exprs.Var n) = true
is_place (exprs.Global n) = true
is_place (exprs.Fun n) = true
is_place (exprs.Deref a) = true
is_place (exprs.Member a m) = true
is_place of = false

module _ (of : ExprKind) where
  abbrev Names : Type 0
  Names = ((n : ℕ) × (of ≡ exprs.Global n)) ⊎ (((n : ℕ) × (of ≡ exprs.Fun n)) ⊎ (((a : ℕ) × (of ≡ exprs.Deref a))
      ⊎ ((a : ℕ) × (m : ℕ) × (of ≡ exprs.Member a m))))

  pub place_of : ((n : ℕ) × (of ≡ exprs.Literal n)) ⊎ (((n : ℕ) × (of ≡ exprs.Var n)) ⊎ Names) → is_place of ≡ true
  place_of (inl w) = ap is_place w.1
  place_of (inr (inl w)) = ap is_place w.1
  place_of (inr (inr (inl w))) = ap is_place w.1
  place_of (inr (inr (inr (inl w)))) = ap is_place w.1
  place_of (inr (inr (inr (inr (inl w))))) = ap is_place w.1
  place_of (inr (inr (inr (inr (inr w))))) = ap is_place w.2

module _ (s : Setting) where
  variable_no_value : (g : Scene) (z : Bool) (q : Pos) (x n : ℕ) →
      Values g (if z then Variable q x else Local q n) → ⊥
  variable_no_value g true q x n v = v
  variable_no_value g false q x n v = v

  pub never_value : (of : ExprKind) → is_place of ≡ true → (g : Scene) (q : Pos) (u : ℕ) →
      Values g (kind_tree s.program s.vars (tree s) u q of) → ⊥
  never_value (exprs.Literal n) h g q u v = v
  never_value (exprs.Var x) h g q u v =
      variable_no_value g (is_simple (slice_get s.vars x)) q x (objects_before s.vars x) v
  never_value (exprs.Global n) h g q u v = v
  never_value (exprs.Fun n) h g q u v = v
  never_value (exprs.Deref a) h g q u v = v
  never_value (exprs.Member a m) h g q u v = v
  never_value of h g q u v = absurd cc

  pub value_changed : {k to : ℕ} {a b : Emitter} → ShowsAssignment s k (Some to) a b → ShowsValue s k to a b
  value_changed h = record {
    code = h.code;
    added = h.added;
    keeps = h.keeps;
    is = λ g kinds suits keeps j own means. value_assignment (h.is g kinds suits keeps j own means);
  }

  pub value_called : {k to : ℕ} {asked : Option ℕ} {a b : Emitter} →
      ((j : TacKind) → IsScalar s.program k j → asked ≡ Some to) → ShowsCall s k asked a b → ShowsValue s k to a b
  value_called {k = k} {to = to} {asked = asked} {a = a} {b = b} given h = record {
    code = h.code;
    added = h.added;
    keeps = h.keeps;
    is = λ g kinds suits keeps j own means.
        let p = s.program in
        let is = h.is g kinds suits keeps means in
        let kind = subst (λ z. IsCall p (signatures p) kinds g z (tree s k) asked (mark a) (mark b) h.code) own.is is in
        value_call (subst (λ z. IsCall p (signatures p) kinds g (Some j) (tree s k) z (mark a) (mark b) h.code)
        (given j own) kind);
  }
