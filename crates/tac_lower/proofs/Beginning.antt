-- Code is shown to be that of what variables begin with: a value of one that is no object, and parts of objects.
use Rattle.std.proofs.Common.{◌≡◌, ℕ, Bool, true, false, ◌∷◌, Option, Some, None, refl, sym, ap}
use Rattle.std.proofs.Common.{◌∙◌, subst, arith, inl, inr, if◌then◌else◌}
use Rattle.std.specs.Prelude.{slice_get}
use Rattle.ck_base.specs.declared.positions.Pos.{Pos}
use Rattle.c_tree.specs.Layout.{bare}
use Rattle.c_tree.specs.Types.{Ty}
use Rattle.c_tree.specs.Views.{IsOrdered, no_term}
use Rattle.c_tree.specs.WellTyped.{Frame, TermFits}
use Rattle.c_tree.specs.declared.typed.CType.{CType}
use Rattle.c_tree.specs.declared.typed.CType.TheVariants as types
use Rattle.c_tree.specs.declared.typed.Expr.{Expr}
use Rattle.c_tree.specs.declared.typed.StmtKind.TheVariants as stmts
use Rattle.c_tree.specs.declared.typed.Typed.{Typed}
use Rattle.cheri_c_sem.specs.Expressions.{type_of}
use Rattle.cheri_c_sem.specs.Kinds.{Kind}
use Rattle.cheri_c_sem.specs.Order.{Ordered}
use Rattle.cheri_c_sem.specs.Programs.{initialisation}
use Rattle.cheri_c_sem.specs.Tree.{St, Nil, Give, Init, Fill}
use Rattle.cheri_c_sem.specs.Types as sem_types
use Rattle.cheri_c_sem.specs.Types.{is_record, is_simple, size_in, align_in, unit_of, kind_or_int, objects_before}
use Rattle.tac_ir.specs.Effects.{kind_of}
use Rattle.tac_ir.specs.declared.code.TacInstr.TheVariants as instr
use Rattle.tac_ir.specs.declared.code.TacKind.{TacKind}
use Rattle.tac_lower.specs.declared.context.Home.TheVariants as home
use Rattle.tac_emit.specs.declared.emitter.Emitter.{Emitter}
use Rattle.tac_lower.specs.declared.types.TypeFacts.{TypeFacts}
use Rattle.tac_lower.specs.declared.writes.Written.TheVariants as write
use Rattle.lower_runs.specs.Expressions.{Within, within, within_mark}
use Rattle.lower_runs.specs.Statements.{Exits, variable, object, struct}
use Rattle.lower_runs.specs.Trees.{HasSpot, Places, Values}
use Rattle.tac_lower.specs.Nodes.{IsScalar, IsTyped, kind_in, or_int}
use Rattle.tac_emit.specs.Adding.{mark, Emits, one}
use Rattle.tac_lower.specs.Tables.{FactsFit, IsSmall, type_at}
use Rattle.tac_lower.specs.Trees.{Setting, tree, HasScalar, HasRecord, IsCopied}
use Rattle.tac_lower.specs.Trees.{frame_in}
use Rattle.tac_lower.specs.Trees.{Reached, ShowsValue, ShowsOperand, ShowsCopy}
use Rattle.tac_lower.specs.Stating.{Routine, Points, IsStmt, IsWhole, Does, ShowsInit, ShowsStatement}
use Rattle.tac_lower.proofs.Deriving.{mark_same, cover_none}
use Rattle.tac_emit.proofs.Emitting.{added_then}
use Rattle.tac_lower.proofs.Standing.{scalar_type}
use Rattle.tac_lower.proofs.Stated.{Is, stmt_is, is_as}
use Rattle.tac_lower.proofs.Tabled.{node_there, size_by}
use Rattle.tac_lower.proofs.Typings.{expression_past}
use Rattle.tac_emit.proofs.Wells.{keeps_then}

-- a node that is well typed is there
no_typed : (f : Frame) → TermFits f no_term → ⊥
unfolding TermFits
no_typed f h = let q : false ≡ true = h.1.1 in cc

pub typed_there : (f : Frame) (k : ℕ) → IsOrdered f.program → IsTyped f k →
    (e : Expr) × (slice_get f.program.exprs k ≡ Some e)
typed_there f k o h = node_there (slice_get f.program.exprs k)
    (λ none. no_typed f (subst (λ z. TermFits f z) (expression_past f.program o k none) h.fits))

spot_is : (z : Option ℕ) (at : ℕ) → HasSpot z → ((u : ℕ) → z ≡ Some u → u ≡ at) → z ≡ Some at
spot_is None at h f = absurd h
spot_is (Some u) at h f = ap Some (f u refl)

scalar_no_record : (c : Option CType) (k : Kind) → sem_types.scalar_of c ≡ Some k → is_record c ≡ false
scalar_no_record (Some (types.Struct tag ms)) k h = absurd cc
scalar_no_record (Some (types.Union tag ms)) k h = absurd cc
scalar_no_record c k h = refl

module _ (r : Routine) (o : Ordered r.setting.program) (t : IsOrdered r.setting.program) where
  abbrev s : Setting
  s = r.setting

  abbrev p : Typed
  p = r.setting.program

  abbrev type : ℕ → ℕ
  type a = type_at p a

  pub init_value : (x offset a : ℕ) (q : Pos) {v : ℕ} {k : TacKind} {e f : Emitter} →
      slice_get s.homes x ≡ Some (home.Temp v k) → IsScalar p a k → ShowsValue s a v e f → ShowsInit r x offset a q e f
  init_value x offset a q {v = v} {k = k} at scalar h = record {
    code = h.code;
    added = h.added;
    keeps = h.keeps;
    is = λ g kinds sited keeps y whole small i leads does.
        let value = sited.suits.value x v k at in
        let is : initialisation p s.vars q x offset (type a) (tree s a) ≡ Give x (tree s a) =
        ap (λ b. if b then Give x (tree s a) else object_tree x offset a q) value.0 in
        let means : Values g (tree s a) = subst (λ z. Does r i g z) is does in
        is_as r g kinds is refl (variable value.1 (h.is g kinds sited.suits keeps k scalar means));
  }
    where
      object_tree : (x offset a : ℕ) (q : Pos) → St
      object_tree x offset a q = if is_record (bare p.types (type a))
          then Fill q (objects_before s.vars x) offset (size_in p.types (type a)) (unit_of (align_in p.types (type a)))
          (tree s a)
          else Init q (objects_before s.vars x) offset (sem_types.kind_of (bare p.types (type a))) (tree s a)

  -- the tree of a part of an object
  module _ (x offset a n : ℕ) (q : Pos) (simple : is_simple (slice_get s.vars x) ≡ false)
      (number : objects_before s.vars x ≡ n) where
    abbrev begun : St
    begun = initialisation p s.vars q x offset (type a) (tree s a)

    abbrev part : Bool → St
    part b = if b
        then Fill q (objects_before s.vars x) offset (size_in p.types (type a)) (unit_of (align_in p.types (type a)))
        (tree s a)
        else Init q (objects_before s.vars x) offset (sem_types.kind_of (bare p.types (type a))) (tree s a)

    of_object : begun ≡ part (is_record (bare p.types (type a)))
    of_object = ap (λ b. if b then Give x (tree s a) else part (is_record (bare p.types (type a)))) simple

    record_tree : {bytes unit : ℕ} → HasRecord p a → bytes ≡ size_in p.types (type a) →
        unit ≡ unit_of (align_in p.types (type a)) →
        begun ≡ Fill q n offset bytes unit (tree s a)
    record_tree is size unit = of_object ∙ ap part is
        ∙ (λ i. Fill q (number i) offset (sym size i) (sym unit i) (tree s a))

    scalar_tree : {k : TacKind} → IsScalar p a k → begun ≡ Init q n offset (kind_of k) (tree s a)
    scalar_tree {k = k} is = of_object ∙ ap part (not_record is)
        ∙ (λ i. Init q (number i) offset (kind_or_int (scalar_type s o t is i)) (tree s a))
      where
        not_record : IsScalar p a k → is_record (bare p.types (type a)) ≡ false
        not_record is = scalar_no_record (bare p.types (type a)) (kind_of k) (scalar_type s o t is)

  pub init_copy : (x offset a : ℕ) {n base bytes unit : ℕ} {q : Pos} {e f : Emitter} → Points s x n base →
      HasRecord p a →
      (IsSmall p.types (type a) → (bytes ≡ size_in p.types (type a)) × (unit ≡ unit_of (align_in p.types (type a)))) →
      ShowsCopy s (Within base offset) q bytes unit a e f → ShowsInit r x offset a q e f
  init_copy x offset a {n = n} {base = base} {q = q} at struct_is sized h = record {
    code = h.code;
    added = h.added;
    keeps = h.keeps;
    is = λ g kinds sited keeps y whole small i leads does.
        let stands = sited.suits.object x n base at in
        let size = sized small in
        let is = record_tree x offset a n q stands.0 stands.1 struct_is size.0 size.1 in
        let means : HasSpot (g.spot n) × Places g (tree s a) = subst (λ z. Does r i g z) is does in
        let copied : IsCopied p a _ =
        record { is = struct_is; size = sym size.0; within = omega (arith, size.0, small) } in
        is_as r g kinds is refl (struct (spot_is (g.spot n) base means.0 stands.2)
        (h.is g kinds sited.suits keeps copied means.1));
  }

  pub init_part : (x offset a : ℕ) {n base v at : ℕ} {j : TacKind} {q : Pos} {e f h u : Emitter} → Points s x n base →
      (HasRecord p a → ⊥) → ShowsOperand s write.Nothing a v e f → Reached (Within base offset) at f h →
      j ≡ kind_in p a → Emits h u 0 (one (instr.Store at v j q)) → ShowsInit r x offset a q e u
  init_part x offset a {n = n} {base = base} {v = v} {at = at} {j = j} {q = q} {e = e} {f = f} {h = h} {u = u} points
      no_struct operand reached kinded stored = record {
        code = λ z. operand.code (within base offset (mark f) (instr.Store at v j q ∷ z));
        added = added_then operand.added (added_then reached.added stored.added);
        keeps = keeps_then e.kinds.items f.kinds.items u.kinds.items operand.keeps
            (keeps_then f.kinds.items h.kinds.items u.kinds.items reached.keeps stored.keeps);
        is = λ g kinds sited keeps y whole small i leads does.
            let scalar = scalar_of_whole whole in
            let k = scalar.kind in
            let stands = sited.suits.object x n base points in
            let is = scalar_tree x offset a n q stands.0 stands.1 scalar.is in
            let means : HasSpot (g.spot n) × Values g (tree s a) = subst (λ z. Does r i g z) is does in
            let in_f = keeps_then f.kinds.items h.kinds.items kinds reached.keeps
            (keeps_then h.kinds.items u.kinds.items kinds stored.keeps keeps) in
            let value = operand.is g kinds sited.suits in_f Nil k (cover_none write.Nothing) scalar.is means.1 in
            let rule = object {offset = offset} {q = q} (spot_is (g.spot n) base means.0 stands.2) value in
            let kind : j ≡ k = kinded ∙ ap or_int scalar.is.is in
            is_as r g kinds is (mark_same stored ∙ reached.marks)
            (subst (λ c. Is r g kinds y (Init q n offset (kind_of k) (tree s a)) (mark e)
            (within_mark offset (mark f)) c)
            (λ i z. operand.code (within base offset (mark f)
            (instr.Store (sym reached.temp i) v (sym kind i) q ∷ z))) rule);
      }
    where
      scalar_of_whole : IsWhole p a → HasScalar p a
      scalar_of_whole (inl scalar) = scalar
      scalar_of_whole (inr struct_is) = absurd (no_struct struct_is)

  -- the facts of a struct or union
  pub init_sized : (a : ℕ) {f : TypeFacts} {e : Expr} → slice_get p.exprs a ≡ Some e → FactsFit p.types e.of f →
      IsSmall p.types (type a) →
      (f.size ≡ size_in p.types (type a)) × (unit_of f.align ≡ unit_of (align_in p.types (type a)))
  init_sized a {f = f} {e = e} there fits small =
      let number : type a ≡ e.of = ap type_of there in
      let both = size_by f.complete _ f fits.laid (subst (IsSmall p.types) number small) in
      (both.0 ∙ ap (size_in p.types) (sym number), ap unit_of (both.1 ∙ ap (align_in p.types) (sym number)))

  -- ---- the statement

  pub states_init : {k x offset a : ℕ} {y : Exits} {e u : Emitter}
      (n : IsStmt p k (stmts.Init x offset a)) → (g : Ty) → IsTyped (frame_in s g) a →
      ShowsInit r x offset a n.node.pos e u → ShowsStatement r k y e u
  states_init {k = k} {x = x} {offset = offset} {a = a} {y = y} n f typed h = record {
    code = h.code;
    added = h.added;
    keeps = h.keeps;
    is = λ g kinds sited keeps i leads does.
        let rule = h.is g kinds sited keeps y (sited.initial k x offset a n) (sited.suits.small f a typed) i leads
        (subst (λ z. Does r i g z) (stmt_is r o t n) does) in
        is_as r g kinds (stmt_is r o t n) refl rule;
  }
