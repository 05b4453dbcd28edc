-- Code is shown to be that of what expressions do, where a condition chooses it.
use Rattle.std.proofs.Common.{◌≡◌, ℕ, ◌+◌, Bool, true, false, List, ◌∷◌, ◌++◌, length, refl, sym, ap, ◌∙◌, subst}
use Rattle.std.proofs.Common.{◌⊎◌, ⊎_elim, inl, inr, not}
use Rattle.c_tree.specs.Views.{IsOrdered}
use Rattle.cheri_c_sem.specs.Expressions.{kind_at}
use Rattle.c_tree.specs.declared.typed.ExprKind.TheVariants as exprs
use Rattle.cheri_c_sem.specs.Order.{Ordered}
use Rattle.cheri_c_sem.specs.Kinds.{Kind}
use Rattle.cheri_c_sem.specs.Tree.{Ex, Conditional, Comma, And, Or}
use Rattle.ck_base.specs.declared.positions.Pos.{Pos}
use Rattle.tac_ir.specs.Effects.{kind_of}
use Rattle.tac_ir.specs.declared.code.TacInstr.TheVariants as instr
use Rattle.tac_ir.specs.declared.code.TacKind.{TacKind}
use Rattle.tac_emit.specs.declared.emitter.Emitter.{Emitter}
use Rattle.lower_runs.specs.States.{Scene}
use Rattle.lower_runs.specs.Operating.{Code}
use Rattle.lower_runs.specs.Expressions.{Mark, IsEffect, IsPlaceEffect, IsCondition, effect_both, effect_either}
use Rattle.lower_runs.specs.Expressions.{labelled, choice_code, guarded_code, effect_choice as effect_choice_rule}
use Rattle.lower_runs.specs.Expressions.{place_effect_choice as place_choice_rule, effect_comma as comma_rule}
use Rattle.lower_runs.specs.Expressions.{place_effect_comma as place_comma_rule}
use Rattle.lower_runs.specs.Trees.{Places, Values}
use Rattle.tac_emit.specs.Emitted.{Keeps, Forked, Labelled}
use Rattle.tac_emit.specs.Adding.{mark, Added, Emits, one}
use Rattle.tac_lower.specs.Trees.{Setting, tree, signatures, IsNode, HasScalar, joined}
use Rattle.tac_lower.specs.Trees.{Shows, ShowsCondition, ShowsEffect, ShowsPlaceEffect}
use Rattle.tac_lower.proofs.Deriving.{node_tree, kind_is, mark_same, forked_mark, forked_next}
use Rattle.tac_emit.proofs.Emitting.{added_then}
use Rattle.tac_emit.proofs.Wells.{keeps_then}

module _ (s : Setting) (o : Ordered s.program) (t : IsOrdered s.program) where
  -- of a tree and a mark that are equal
  pub effect_as : (g : Scene) (kinds : List TacKind) {e f : Ex} {m n o : Mark} {c : Code} → f ≡ e → o ≡ n →
      IsEffect s.program (signatures s.program) kinds g e m n c →
      IsEffect s.program (signatures s.program) kinds g f m o c
  effect_as g kinds {f = f} {m = m} {n = n} {c = c} is l h =
      let kept = subst (λ e. IsEffect s.program (signatures s.program) kinds g e m n c) (sym is) h in
      subst (λ n. IsEffect s.program (signatures s.program) kinds g f m n c) (sym l) kept

  -- Two ways, of which a condition chooses: what is asked of the choice is asked of both
  module _ (Asks : Scene → Ex → Type 0) (Is : Scene → List TacKind → Ex → Mark → Mark → Code → Type 0) where
    abbrev ShowsAs : ℕ → Emitter → Emitter → Type 0
    ShowsAs k a b = Shows s a b (λ g kinds c. Asks g (tree s k) → Is g kinds (tree s k) (mark a) (mark b) c)

    abbrev Parts : Type 0
    Parts = (g : Scene) (q : Pos) (j : Kind) (e a b : Ex) → Asks g (Conditional q j e a b) →
        Values g e × Asks g a × Asks g b

    abbrev Rule : Type 0
    Rule = (g : Scene) (kinds : List TacKind) (j : TacKind) (e a b : Ex) (q : Pos) (l m n o : Mark) (c d f : Code) →
        IsCondition s.program (signatures s.program) kinds g j e false l.labels (labelled 2 l) m c →
        Is g kinds a m n d → Is g kinds b n o f →
        Is g kinds (Conditional q (kind_of j) e a b) l o (choice_code l.labels c d f)

    pub choice_shown : Parts → Rule → {w x y k l m : ℕ} {a b c e f h i : Emitter} →
        IsNode s.program k (exprs.Conditional w x y) → HasScalar s.program w → Forked a b l m →
        ShowsCondition s w false l b c → ShowsAs x c e → Emits e f 0 (λ r. instr.Jump m ∷ instr.Label l ∷ r) →
        ShowsAs y f h → Emits h i 0 (one (instr.Label m)) → ShowsAs k a i
    choice_shown parts rule {w = w} {x = x} {y = y} {k = k} {l = l} {m = m} {a = a} {b = b} {c = c} {e = e} {f = f}
        {h = h} {i = i} n scalar fork test first turn second join =
        let forked : Added a b (λ r. r) =
        record { is = λ r. ap (λ z. z ++ r) (fork.second.code ∙ fork.first.code) } in
        let code : (v w : ℕ) → Code = λ v w r. test.code (first.code (instr.Jump w ∷ instr.Label v
        ∷ second.code (instr.Label w ∷ r))) in
        let added : Added a i (code l m) =
        added_then forked (added_then test.added (added_then first.added (added_then turn.added
        (added_then second.added join.added)))) in
        let there : Added a i (code a.labels m) = subst (λ v. Added a i (code v m)) fork.first.label added in
        let q = n.node.pos in
        let is = node_tree s o t n
        ∙ ap (λ v. Conditional q v (tree s w) (tree s x) (tree s y)) (kind_is s o t scalar.is) in
        record {
          code = code a.labels (a.labels + 1);
          added = subst (λ w. Added a i (code a.labels w)) (forked_next fork) there;
          keeps = subst (λ z. Keeps z i.kinds.items) (fork.second.kinds ∙ fork.first.kinds)
              (keeps_then b.kinds.items c.kinds.items i.kinds.items test.keeps
              (keeps_then c.kinds.items e.kinds.items i.kinds.items first.keeps
              (keeps_then e.kinds.items f.kinds.items i.kinds.items turn.keeps
              (keeps_then f.kinds.items h.kinds.items i.kinds.items second.keeps join.keeps))));
          is = λ g kinds suits keeps means.
              let asked = parts g q (kind_of scalar.kind) (tree s w) (tree s x) (tree s y)
              (subst (λ z. Asks g z) is means) in
              let in_h = keeps_then h.kinds.items i.kinds.items kinds join.keeps keeps in
              let in_f = keeps_then f.kinds.items h.kinds.items kinds second.keeps in_h in
              let in_e = keeps_then e.kinds.items f.kinds.items kinds turn.keeps in_f in
              let in_c = keeps_then c.kinds.items e.kinds.items kinds first.keeps in_e in
              let p = s.program in
              let j = scalar.kind in
              let jumps = test.is g kinds suits in_c j scalar.is asked.0 in
              let at = subst (λ z. IsCondition p (signatures p) kinds g j (tree s w) false z (mark b) (mark c)
              test.code) fork.first.label jumps in
              let from = subst (λ z. IsCondition p (signatures p) kinds g j (tree s w) false a.labels z
              (mark c) test.code) (forked_mark fork) at in
              let one_way = first.is g kinds suits in_e asked.1 in
              let way = subst (λ z. Is g kinds (tree s y) z (mark h) second.code) (mark_same turn)
              (second.is g kinds suits in_h asked.2) in
              let chosen = rule g kinds j (tree s w) (tree s x) (tree s y) q (mark a) (mark c) (mark e) (mark h)
              test.code first.code second.code from one_way way in
              let there = subst (λ z. Is g kinds z (mark a) (mark h) (code a.labels (a.labels + 1))) (sym is) chosen in
              subst (λ z. Is g kinds (tree s k) (mark a) z (code a.labels (a.labels + 1))) (sym (mark_same join)) there;
        }

    abbrev CommaParts : Type 0
    CommaParts = (g : Scene) (a b : Ex) → Asks g (Comma a b) → (Values g a ⊎ Places g a) × Asks g b

    abbrev CommaRule : Type 0
    CommaRule = (g : Scene) (kinds : List TacKind) (a b : Ex) (l m n : Mark) (c d : Code) →
        IsEffect s.program (signatures s.program) kinds g a l m c → Is g kinds b m n d →
        Is g kinds (Comma a b) l n (λ r. c (d r))

    -- one behind the effect of another
    pub comma_shown : CommaParts → CommaRule → {x y k : ℕ} {a b c : Emitter} →
        IsNode s.program k (exprs.Comma x y) → ShowsEffect s x a b → ShowsAs y b c → ShowsAs k a c
    comma_shown parts rule {x = x} {y = y} {k = k} {a = a} {b = b} {c = c} n first second = record {
      code = λ r. first.code (second.code r);
      added = added_then first.added second.added;
      keeps = keeps_then a.kinds.items b.kinds.items c.kinds.items first.keeps second.keeps;
      is = λ g kinds suits keeps means.
          let is = node_tree s o t n in
          let asked = parts g (tree s x) (tree s y) (subst (λ z. Asks g z) is means) in
          let kept = keeps_then b.kinds.items c.kinds.items kinds second.keeps keeps in
          subst (λ z. Is g kinds z (mark a) (mark c) (λ r. first.code (second.code r))) (sym is)
          (rule g kinds (tree s x) (tree s y) (mark a) (mark b) (mark c) first.code second.code
          (first.is g kinds suits kept asked.0) (second.is g kinds suits keeps asked.1));
    }

  abbrev IsDone : Scene → Ex → Type 0
  IsDone g e = Values g e ⊎ Places g e

  abbrev Does : Scene → List TacKind → Ex → Mark → Mark → Code → Type 0
  Does g kinds e m n c = IsEffect s.program (signatures s.program) kinds g e m n c

  abbrev DoesAsPlace : Scene → List TacKind → Ex → Mark → Mark → Code → Type 0
  DoesAsPlace g kinds e m n c = IsPlaceEffect s.program (signatures s.program) kinds g e m n c

  choice_done : (g : Scene) (q : Pos) (j : Kind) (e a b : Ex) → IsDone g (Conditional q j e a b) →
      Values g e × IsDone g a × IsDone g b
  choice_done g q j e a b v =
      ⊎_elim (λ (w : Values g (Conditional q j e a b)). (w.0, inl w.1, inl w.2))
      (λ (w : Places g (Conditional q j e a b)). (w.0, inr w.1, inr w.2)) v

  comma_done : (g : Scene) (a b : Ex) → IsDone g (Comma a b) → IsDone g a × IsDone g b
  comma_done g a b v =
      ⊎_elim (λ (w : Values g (Comma a b)). (w.0, inl w.1)) (λ (w : Places g (Comma a b)). (w.0, inr w.1)) v

  pub effect_choice : {w x y k l m : ℕ} {a b c e f h i : Emitter} → IsNode s.program k (exprs.Conditional w x y) →
      HasScalar s.program w → Forked a b l m → ShowsCondition s w false l b c → ShowsEffect s x c e →
      Emits e f 0 (λ r. instr.Jump m ∷ instr.Label l ∷ r) → ShowsEffect s y f h →
      Emits h i 0 (one (instr.Label m)) → ShowsEffect s k a i
  effect_choice = choice_shown IsDone Does choice_done
      (λ g kinds j e a b q l m n o c d f test one other. effect_choice_rule {l = l} test one other)

  pub place_effect_choice : {w x y k l m : ℕ} {a b c e f h i : Emitter} →
      IsNode s.program k (exprs.Conditional w x y) → HasScalar s.program w → Forked a b l m →
      ShowsCondition s w false l b c → ShowsPlaceEffect s x c e →
      Emits e f 0 (λ r. instr.Jump m ∷ instr.Label l ∷ r) → ShowsPlaceEffect s y f h →
      Emits h i 0 (one (instr.Label m)) → ShowsPlaceEffect s k a i
  place_effect_choice = choice_shown Places DoesAsPlace (λ g q j e a b v. v)
      (λ g kinds j e a b q l m n o c d f test one other. place_choice_rule {l = l} test one other)

  pub effect_comma : {x y k : ℕ} {a b c : Emitter} → IsNode s.program k (exprs.Comma x y) → ShowsEffect s x a b →
      ShowsEffect s y b c → ShowsEffect s k a c
  effect_comma = comma_shown IsDone Does comma_done (λ g kinds a b l m n c d first second. comma_rule first second)

  pub place_effect_comma : {x y k : ℕ} {a b c : Emitter} → IsNode s.program k (exprs.Comma x y) → ShowsEffect s x a b →
      ShowsPlaceEffect s y b c → ShowsPlaceEffect s k a c
  place_effect_comma = comma_shown Places DoesAsPlace (λ g a b v. v)
      (λ g kinds a b l m n c d first second. place_comma_rule first second)

  -- ---- one operand guards the other

  pub labelled_mark : {a b : Emitter} {l : ℕ} → Labelled a b l → mark b ≡ labelled 1 (mark a)
  labelled_mark {a = a} {b = b} h =
      let k : length b.kinds.items ≡ length a.kinds.items = ap length h.kinds in
      let l : b.labels ≡ a.labels + 1 = h.labels in
      λ i. record { temps = k i; labels = l i }

  module _ (x y k : ℕ) where
    both_tree : (n : IsNode s.program k (exprs.And x y)) (h : HasScalar s.program x) →
        tree s k ≡ And n.node.pos (kind_of h.kind) (kind_at s.program s.vars y) (tree s x) (tree s y)
    both_tree n h = node_tree s o t n
        ∙ ap (λ v. And n.node.pos v (kind_at s.program s.vars y) (tree s x) (tree s y)) (kind_is s o t h.is)

    either_tree : (n : IsNode s.program k (exprs.Or x y)) (h : HasScalar s.program x) →
        tree s k ≡ Or n.node.pos (kind_of h.kind) (kind_at s.program s.vars y) (tree s x) (tree s y)
    either_tree n h = node_tree s o t n
        ∙ ap (λ v. Or n.node.pos v (kind_at s.program s.vars y) (tree s x) (tree s y)) (kind_is s o t h.is)

    operands_of : (when : Bool) → IsNode s.program k (joined (not when) x y) → HasScalar s.program x → (g : Scene) →
        Values g (tree s k) ⊎ Places g (tree s k) → Values g (tree s x) × Values g (tree s y)
    operands_of false n h g v = ⊎_elim (λ (u : Values g (tree s k)). subst (λ e. Values g e) (both_tree n h) u)
        (λ (u : Places g (tree s k)). absurd (subst (λ e. Places g e) (both_tree n h) u)) v
    operands_of true n h g v = ⊎_elim (λ (u : Values g (tree s k)). subst (λ e. Values g e) (either_tree n h) u)
        (λ (u : Places g (tree s k)). absurd (subst (λ e. Places g e) (either_tree n h) u)) v

    guards : (when : Bool) → IsNode s.program k (joined (not when) x y) → (h : HasScalar s.program x) (g : Scene)
        (kinds : List TacKind) {l m n : Mark} {c d : Code} →
        IsCondition s.program (signatures s.program) kinds g h.kind (tree s x) when l.labels (labelled 1 l) m c →
        IsEffect s.program (signatures s.program) kinds g (tree s y) m n d →
        IsEffect s.program (signatures s.program) kinds g (tree s k) l n (guarded_code l.labels c d)
    guards false n h g kinds test done = effect_as g kinds (both_tree n h) refl (effect_both test done)
    guards true n h g kinds test done = effect_as g kinds (either_tree n h) refl (effect_either test done)

    pub effect_guarded : (when : Bool) {l : ℕ} {a b c e f : Emitter} → IsNode s.program k (joined (not when) x y) →
        HasScalar s.program x → Labelled a b l → ShowsCondition s x when l b c → ShowsEffect s y c e →
        Emits e f 0 (one (instr.Label l)) → ShowsEffect s k a f
    effect_guarded when {l = l} {a = a} {b = b} {c = c} {e = e} {f = f} n scalar made test done stand =
        let first : Added a b (λ r. r) = record { is = λ r. ap (λ z. z ++ r) made.code } in
        let code : ℕ → Code = λ v r. test.code (done.code (instr.Label v ∷ r)) in
        let added : Added a f (code l) =
        added_then first (added_then test.added (added_then done.added stand.added)) in
        record {
          code = code a.labels;
          added = subst (λ v. Added a f (code v)) made.label added;
          keeps = subst (λ z. Keeps z f.kinds.items) made.kinds
              (keeps_then b.kinds.items c.kinds.items f.kinds.items test.keeps
              (keeps_then c.kinds.items e.kinds.items f.kinds.items done.keeps stand.keeps));
          is = λ g kinds suits keeps means.
              let parts = operands_of when n scalar g means in
              let in_e = keeps_then e.kinds.items f.kinds.items kinds stand.keeps keeps in
              let in_c = keeps_then c.kinds.items e.kinds.items kinds done.keeps in_e in
              let p = s.program in
              let j = scalar.kind in
              let jumps = test.is g kinds suits in_c j scalar.is parts.0 in
              let at = subst (λ z. IsCondition p (signatures p) kinds g j (tree s x) when z (mark b) (mark c)
              test.code) made.label jumps in
              let from = subst (λ z. IsCondition p (signatures p) kinds g j (tree s x) when a.labels z (mark c)
              test.code) (labelled_mark made) at in
              effect_as g kinds refl (mark_same stand)
              (guards when n scalar g kinds {l = mark a} from (done.is g kinds suits in_e (inl parts.1)));
        }
