-- Code is shown to be that of a conversion: its value, and what it does.
use Rattle.std.proofs.Common.{◌≡◌, ℕ, Bool, true, false, ◌∷◌, Option, Some, None, refl, sym, ap, ◌∙◌, subst, ⊎_elim}
use Rattle.std.proofs.Common.{◌⊎◌, inl, List}
use Rattle.std.specs.Option.{is_some}
use Rattle.std.specs.Prelude.{if◌then◌else◌}
use Rattle.ck_base.specs.declared.positions.Pos.{Pos}
use Rattle.c_tree.specs.Layout.{bare}
use Rattle.c_tree.specs.Views.{IsOrdered}
use Rattle.c_tree.specs.declared.typed.ExprKind.TheVariants as exprs
use Rattle.cheri_c_sem.specs.Expressions as sem
use Rattle.cheri_c_sem.specs.Kinds.{Kind}
use Rattle.cheri_c_sem.specs.Order.{Ordered}
use Rattle.cheri_c_sem.specs.Tree.{Ex, Convert, Discard}
use Rattle.cheri_c_sem.specs.Types.{is_void, scalar_of}
use Rattle.tac_ir.specs.declared.code.TacInstr.TheVariants as instr
use Rattle.tac_ir.specs.declared.code.TacKind.{TacKind}
use Rattle.tac_emit.specs.declared.emitter.Emitter.{Emitter}
use Rattle.tac_lower.specs.declared.writes.Written.TheVariants as write
use Rattle.lower_runs.specs.States.{Scene}
use Rattle.lower_runs.specs.Operating.{Code}
use Rattle.lower_runs.specs.Expressions.{Mark, IsEffect, IsPlaceEffect, value_kept as value_kept_rule}
use Rattle.lower_runs.specs.Expressions.{value_converted as value_converted_rule, effect_convert, effect_discard}
use Rattle.lower_runs.specs.Trees.{Places, Values}
use Rattle.tac_lower.specs.Nodes.{IsScalar, kind_in, scalar_in}
use Rattle.tac_emit.specs.Adding.{mark, Emits, one}
use Rattle.tac_lower.specs.Trees.{Setting, tree, signatures, IsNode, HasScalar}
use Rattle.tac_lower.specs.Trees.{ShowsOperand, ShowsValue, ShowsEffect, ShowsPlaceEffect}
use Rattle.tac_lower.proofs.Deriving.{node_tree, cover_none, value_as, mark_same}
use Rattle.tac_emit.proofs.Emitting.{added_then}
use Rattle.tac_lower.proofs.Keeping.{scalar_kind}
use Rattle.tac_lower.proofs.Standing.{converts}
use Rattle.tac_emit.proofs.Wells.{keeps_then}

pub none_is : (j : Option TacKind) → is_some j ≡ false → j ≡ None
none_is None h = refl
none_is (Some j) h = absurd cc

module _ (s : Setting) (o : Ordered s.program) (t : IsOrdered s.program) where
  -- ---- its value

  module _ (k x : ℕ) (n : IsNode s.program k (exprs.Convert x))
      (operand : (j : TacKind) → IsScalar s.program k j → HasScalar s.program x) where
    -- a conversion to no scalar has no value
    pub value_dropped : {to u : ℕ} {d : Code} {a b c : Emitter} → scalar_in s.program k ≡ None →
        ShowsEffect s x a b → Emits b c u d → ShowsValue s k to a c
    value_dropped {d = d} {a = a} {b = b} {c = c} none h f = record {
      code = λ r. h.code (d r);
      added = added_then h.added f.added;
      keeps = keeps_then a.kinds.items b.kinds.items c.kinds.items h.keeps f.keeps;
      is = λ g kinds suits keeps z own means. absurd (let q : None ≡ Some z = sym none ∙ own.is in cc);
    }

    pub value_kept : {to : ℕ} {a b : Emitter} → kind_in s.program x ≡ kind_in s.program k → ShowsValue s x to a b →
        ShowsValue s k to a b
    value_kept {to = to} {a = a} {b = b} alike h = record {
      code = h.code;
      added = h.added;
      keeps = h.keeps;
      is = λ g kinds suits keeps z own means.
          let w = operand z own in
          let same : w.kind ≡ z = sym (scalar_kind w.is) ∙ alike ∙ scalar_kind own in
          let inner : IsScalar s.program x z = record { is = w.is.is ∙ ap Some same } in
          let c = converts s o t n own inner in
          let value = subst (λ e. Values g e) c.1 means in
          value_as s o t g kinds refl c.1 refl
          (value_kept_rule {q = n.node.pos} {plain = c.0} (h.is g kinds suits keeps z inner value));
    }

    pub value_converted : {to u : ℕ} {i j : TacKind} {a b c : Emitter} → i ≡ kind_in s.program x →
        j ≡ kind_in s.program k → ShowsOperand s write.Nothing x u a b → Emits b c 0 (one (instr.Convert to u i j)) →
        ShowsValue s k to a c
    value_converted {to = to} {u = u} {i = i} {j = j} {a = a} {b = b} {c = c} old new h f = record {
      code = λ r. h.code (instr.Convert to u i j ∷ r);
      added = added_then h.added f.added;
      keeps = keeps_then a.kinds.items b.kinds.items c.kinds.items h.keeps f.keeps;
      is = λ g kinds suits keeps z own means.
          let w = operand z own in
          let from : i ≡ w.kind = old ∙ scalar_kind w.is in
          let inner : IsScalar s.program x i = record { is = w.is.is ∙ ap Some (sym from) } in
          let to_kind : j ≡ z = new ∙ scalar_kind own in
          let outer : IsScalar s.program k j = record { is = own.is ∙ ap Some (sym to_kind) } in
          let w = converts s o t n outer inner in
          let value = subst (λ e. Values g e) w.1 means in
          let kept = keeps_then b.kinds.items c.kinds.items kinds f.keeps keeps in
          let whole = h.is g kinds suits kept _ i (cover_none write.Nothing) inner value in
          value_as s o t g kinds to_kind w.1 (mark_same f)
          (value_converted_rule {j = i} {k = j} {q = n.node.pos} {plain = w.0} whole);
    }

  -- ---- what it does

  module _ (g : Scene) (kinds : List TacKind) {m n : Mark} {c : Code} where
    does : (drops : Bool) (i j : Option Kind) (plain : Bool) (q : Pos) (e : Ex) →
        (Values g e ⊎ Places g e → IsEffect s.program (signatures s.program) kinds g e m n c)
        → Values g (if drops then Discard e else sem.conversion_by s.program s.vars q i j plain e)
        ⊎ Places g (if drops then Discard e else sem.conversion_by s.program s.vars q i j plain e)
        → IsEffect s.program (signatures s.program) kinds g
        (if drops then Discard e else sem.conversion_by s.program s.vars q i j plain e) m n c
    does true i j plain q e h v =
        effect_discard (h (⊎_elim (λ (w : Values g (Discard e)). w) (λ (w : Places g (Discard e)). absurd w) v))
    does false (Some i) (Some j) plain q e h v =
        effect_convert (h (⊎_elim (λ (w : Values g (Convert q i j plain e)). inl w)
        (λ (w : Places g (Convert q i j plain e)). absurd w) v))
    does false None j plain q e h v = h v
    does false (Some i) None plain q e h v = h v

    does_as_place : (drops : Bool) (i j : Option Kind) (plain : Bool) (q : Pos) (e : Ex) →
        (Places g e → IsPlaceEffect s.program (signatures s.program) kinds g e m n c)
        → Places g (if drops then Discard e else sem.conversion_by s.program s.vars q i j plain e)
        → IsPlaceEffect s.program (signatures s.program) kinds g
        (if drops then Discard e else sem.conversion_by s.program s.vars q i j plain e) m n c
    does_as_place true i j plain q e h v = absurd v
    does_as_place false (Some i) (Some j) plain q e h v = absurd v
    does_as_place false None j plain q e h v = h v
    does_as_place false (Some i) None plain q e h v = h v

  module _ {k x : ℕ} (n : IsNode s.program k (exprs.Convert x)) where
    abbrev old_type : Option Kind
    old_type = scalar_of (sem.bare_type s.program s.vars x)

    abbrev new_type : Option Kind
    new_type = scalar_of (bare s.program.types n.node.of)

    abbrev drops : Bool
    drops = is_void (bare s.program.types n.node.of)

    abbrev plain : Bool
    plain = sem.makes_from_plain s.program s.vars (sem.bare_type s.program s.vars x) (bare s.program.types n.node.of)
        (tree s x)

    pub effect_converted : {a b : Emitter} → ShowsEffect s x a b → ShowsEffect s k a b
    effect_converted {a = a} {b = b} h = record {
      code = h.code;
      added = h.added;
      keeps = h.keeps;
      is = λ g kinds suits keeps means.
          let is = node_tree s o t n in
          let p = s.program in
          subst (λ e. IsEffect p (signatures p) kinds g e (mark a) (mark b) h.code) (sym is)
          (does g kinds drops old_type new_type plain n.node.pos (tree s x) (h.is g kinds suits keeps)
          (subst (λ e. Values g e ⊎ Places g e) is means));
    }

    pub place_effect_converted : {a b : Emitter} → ShowsPlaceEffect s x a b → ShowsPlaceEffect s k a b
    place_effect_converted {a = a} {b = b} h = record {
      code = h.code;
      added = h.added;
      keeps = h.keeps;
      is = λ g kinds suits keeps means.
          let is = node_tree s o t n in
          let p = s.program in
          subst (λ e. IsPlaceEffect p (signatures p) kinds g e (mark a) (mark b) h.code) (sym is)
          (does_as_place g kinds drops old_type new_type plain n.node.pos (tree s x) (h.is g kinds suits keeps)
          (subst (λ e. Places g e) is means));
    }
