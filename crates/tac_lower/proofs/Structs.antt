-- Code is shown to be that of copies of structs and unions, and of their assignments.
use Rattle.std.proofs.Common.{◌≡◌, ℕ, ◌<◌, ◌≤◌, Bool, true, false, ◌∷◌, Some, None, refl, sym}
use Rattle.std.proofs.Common.{ap, ◌∙◌, subst, arith, ◌⊎◌, inl, inr}
use Rattle.std.specs.Prelude.{slice_get, if◌then◌else◌}
use Rattle.ck_base.specs.declared.positions.Pos.{Pos}
use Rattle.c_tree.specs.Conversions.{is_place}
use Rattle.c_tree.specs.Layout.{bare, size_limit}
use Rattle.c_tree.specs.Terms.{type_of}
use Rattle.c_tree.specs.Types as ty
use Rattle.c_tree.specs.Types.{Ty}
use Rattle.c_tree.specs.Views.{IsOrdered, kind_term, types_of, operands}
use Rattle.c_tree.specs.WellTyped.{type_in}
use Rattle.c_tree.specs.declared.typed.Expr.{Expr}
use Rattle.c_tree.specs.declared.typed.ExprKind.{ExprKind}
use Rattle.c_tree.specs.declared.typed.ExprKind.TheVariants as exprs
use Rattle.c_tree.specs.declared.typed.FunDef.{FunDef}
use Rattle.cheri_c_sem.specs.Expressions.{kind_tree, kind_at, type_of as number_of}
use Rattle.cheri_c_sem.specs.Order.{Ordered}
use Rattle.cheri_c_sem.specs.Tree.{Ex, Nil, Cons, Comma, Conditional, Copy, Assign, Variable, Local}
use Rattle.cheri_c_sem.specs.Types.{is_record, is_simple, objects_before, size_in, align_in, unit_of}
use Rattle.tac_ir.specs.Effects.{kind_of}
use Rattle.tac_ir.specs.declared.code.TacInstr.TheVariants as instr
use Rattle.tac_emit.specs.declared.emitter.Emitter.{Emitter}
use Rattle.tac_lower.specs.declared.places.Destination.{Destination}
use Rattle.tac_lower.specs.declared.types.TypeFacts.{TypeFacts}
use Rattle.tac_lower.specs.declared.writes.Written.{Written}
use Rattle.tac_lower.specs.declared.writes.Written.TheVariants as write
use Rattle.lower_runs.specs.States.{Scene}
use Rattle.lower_runs.specs.Expressions.{Target, Reaches, IsStructAssignment, IsCopy, position_in, choice_code}
use Rattle.lower_runs.specs.Expressions.{target_code}
use Rattle.lower_runs.specs.Expressions.{target_temp, copy_choice, copy_comma as copy_comma_rule}
use Rattle.lower_runs.specs.Expressions.{copy_aggregate, copy_plain as copy_plain_rule, struct_copy}
use Rattle.lower_runs.specs.Trees.{Places, Values}
use Rattle.tac_emit.specs.Emitted.{Forked}
use Rattle.tac_lower.specs.Nodes.{expression, IsTyped, AssignNode, ConditionalNode}
use Rattle.tac_lower.specs.Scenes.{frame_of}
use Rattle.tac_emit.specs.Adding.{mark, Added, Emits, one}
use Rattle.tac_lower.specs.Tables.{FactsFit, record_size, type_at}
use Rattle.tac_lower.specs.Trees.{Setting, tree, frame_in, IsNode, IsCopied, HasRecord, IsPlain}
use Rattle.tac_lower.specs.Trees.{CoversAll, StandsAt, Reached, chooses, target_as, signatures, written_in}
use Rattle.tac_lower.specs.Trees.{ShowsEffect, ShowsCondition, ShowsPointer, ShowsCopy, ShowsStruct}
use Rattle.tac_lower.proofs.Choosing.{chosen}
use Rattle.tac_lower.proofs.Deriving.{node_tree, kind_is, mark_same, cover_none, cover_one}
use Rattle.tac_emit.proofs.Emitting.{added_then}
use Rattle.tac_lower.proofs.Locating.{alike, both_copied, both_records, lower, read_place}
use Rattle.tac_lower.proofs.Nodes.{expression_by, assign_node}
use Rattle.tac_lower.proofs.Tabled.{size_is, align_is}
use Rattle.tac_lower.proofs.Unplaced.{never_place, none_place}
use Rattle.tac_emit.proofs.Wells.{keeps_then}

-- the bytes of a struct or union, by its facts
record_bytes : (f : TypeFacts) → f.«record» ≡ true → record_size f ≡ f.size
record_bytes f h = ap (λ z. if z then f.size else 0) h

untrue : false ≡ true → ⊥
untrue h = cc

module _ (s : Setting) (o : Ordered s.program) (t : IsOrdered s.program) where
  -- ---- positions

  pub at_read : {k l : ℕ} {q : Pos} → IsNode s.program k (exprs.Load l) → StandsAt s l q → StandsAt s k q
  at_read {k = k} {l = l} {q = q} n h = record {
    is = λ g means one_way.
        let r = read_place s o t g n means in
        let place : Places g (tree s l) = subst (λ z. Places g z) r.1 means in
        ap position_in r.1 ∙ h.is g place (subst (λ z. chooses z ≡ false) r.1 one_way);
  }

  pub at_behind : {k l r : ℕ} {q : Pos} → IsNode s.program k (exprs.Comma l r) → StandsAt s r q → StandsAt s k q
  at_behind {k = k} {l = l} {r = r} n h = record {
    is = λ g means one_way.
        let is : tree s k ≡ Comma (tree s l) (tree s r) = node_tree s o t n in
        let place : (Values g (tree s l) ⊎ Places g (tree s l)) × Places g (tree s r) =
        subst (λ z. Places g z) is means in
        ap position_in is ∙ h.is g place.1 (subst (λ z. chooses z ≡ false) is one_way);
  }

  -- an assignment that is a place is a copy
  pub stored_place : (g : Scene) {k l r : ℕ} (n : IsNode s.program k (exprs.Assign l r)) → Places g (tree s k) →
      HasRecord s.program k × (tree s k ≡ Copy n.node.pos (size_in s.program.types n.node.of)
      (unit_of (align_in s.program.types n.node.of)) (tree s l) (tree s r))
  stored_place g {k = k} {l = l} {r = r} n means = by (is_record (bare s.program.types n.node.of)) refl
    where
      assigned : Bool → Ex
      assigned z = if z then Copy n.node.pos (size_in s.program.types n.node.of)
          (unit_of (align_in s.program.types n.node.of)) (tree s l) (tree s r)
          else Assign (kind_at s.program s.vars l) (tree s l) (tree s r)

      is : tree s k ≡ assigned (is_record (bare s.program.types n.node.of))
      is = node_tree s o t n

      by : (z : Bool) → is_record (bare s.program.types n.node.of) ≡ z →
          HasRecord s.program k × (tree s k ≡ assigned true)
      by true e = (ap (λ z. is_record (bare s.program.types (number_of z))) n.there ∙ e, is ∙ ap assigned e)
      by false e = absurd (subst (λ z. Places g z) (is ∙ ap assigned e) means)

  pub at_stored : {k l r : ℕ} {q : Pos} → IsNode s.program k (exprs.Assign l r) → StandsAt s l q → StandsAt s k q
  at_stored {k = k} {l = l} {r = r} n h = record {
    is = λ g means one_way.
        let z = stored_place g n means in
        let place : Places g (tree s l) × Places g (tree s r) = subst (λ z. Places g z) z.1 means in
        ap position_in z.1 ∙ h.is g place.0 (subst (λ z. chooses z ≡ false) z.1 one_way);
  }

  named_at : (z : Bool) (q : Pos) (x n : ℕ) → position_in (if z then Variable q x else Local q n) ≡ Some q
  named_at true q x n = refl
  named_at false q x n = refl

  named_plain : (z : Bool) (q : Pos) (x n : ℕ) → chooses (if z then Variable q x else Local q n) ≡ false
  named_plain true q x n = refl
  named_plain false q x n = refl

  -- what is named or pointed to stands where it is named
  pub at_own : (u : Ty) (of : ExprKind) {k : ℕ} → IsTyped (frame_in s u) k → (n : IsNode s.program k of) →
      ((a : ℕ) → of ≡ exprs.Load a → ⊥) → ((a b : ℕ) → of ≡ exprs.Comma a b → ⊥) →
      ((a b : ℕ) → of ≡ exprs.Assign a b → ⊥) → StandsAt s k n.node.pos
  at_own u (exprs.Load a) typed n l m w = absurd (l a refl)
  at_own u (exprs.Comma a b) typed n l m w = absurd (m a b refl)
  at_own u (exprs.Assign a b) typed n l m w = absurd (w a b refl)
  at_own u (exprs.Literal x) typed n l m w = record { is = λ g means one_way. ap position_in (node_tree s o t n) }
  at_own u (exprs.Global x) typed n l m w = record { is = λ g means one_way. ap position_in (node_tree s o t n) }
  at_own u (exprs.Fun x) typed n l m w = record { is = λ g means one_way. ap position_in (node_tree s o t n) }
  at_own u (exprs.Deref a) typed n l m w = record { is = λ g means one_way. ap position_in (node_tree s o t n) }
  at_own u (exprs.Member a x) typed n l m w = record { is = λ g means one_way. ap position_in (node_tree s o t n) }
  at_own u (exprs.Var x) typed n l m w = record {
    is = λ g means one_way. ap position_in (node_tree s o t n)
        ∙ named_at (is_simple (slice_get s.vars x)) n.node.pos x (objects_before s.vars x);
  }
  at_own u (exprs.Conditional a b c) {k = k} typed n l m w = record {
    is = λ g means one_way.
        absurd (let q : true ≡ false = ap chooses (sym (node_tree s o t n)) ∙ one_way in cc);
  }
  at_own u of typed n l m w = record {
    is = λ g means one_way. absurd (never_place s o t u of typed n refl g means);
  }

  -- a place that may be written is no choice
  pub plain_place : (l : ℕ) (e : Expr) → slice_get s.program.exprs l ≡ Some e →
      is_place (expression s.program l) ≡ true → chooses (tree s l) ≡ false
  plain_place l e there h = by e.kind refl
    where
      is : (of : ExprKind) → e.kind ≡ of →
          is_place (kind_term (types_of s.program.types) of (type_in s.program e.of) e.pos (expression s.program))
          ≡ true
      is of q = subst (λ z. is_place z ≡ true) (expression_by s.program t l e of there q) h

      at : (of : ExprKind) → e.kind ≡ of → tree s l ≡ kind_tree s.program s.vars (tree s) e.of e.pos of
      at of q = node_tree s o t (record { node = e; there = there; is = q })

      by : (of : ExprKind) → e.kind ≡ of → chooses (tree s l) ≡ false
      by (exprs.Literal n) q = ap chooses (at (exprs.Literal n) q)
      by (exprs.Global n) q = ap chooses (at (exprs.Global n) q)
      by (exprs.Deref a) q = ap chooses (at (exprs.Deref a) q)
      by (exprs.Member a m) q = ap chooses (at (exprs.Member a m) q)
      by (exprs.Var x) q = ap chooses (at (exprs.Var x) q)
          ∙ named_plain (is_simple (slice_get s.vars x)) e.pos x (objects_before s.vars x)
      by of q = absurd (untrue (is of q))

  -- a node that is copied as one is no choice
  pub plain_own : (u : Ty) (of : ExprKind) {k : ℕ} → IsTyped (frame_in s u) k → IsNode s.program k of →
      ((c a b : ℕ) → of ≡ exprs.Conditional c a b → ⊥) → ((a b : ℕ) → of ≡ exprs.Comma a b → ⊥) →
      ((a : ℕ) → of ≡ exprs.Load a → ⊥) → IsPlain s k
  plain_own u (exprs.Conditional c a b) typed n v m l = absurd (v c a b refl)
  plain_own u (exprs.Comma a b) typed n v m l = absurd (m a b refl)
  plain_own u (exprs.Load a) typed n v m l = absurd (l a refl)
  plain_own u (exprs.Literal x) typed n v m l = record { is = λ g means. ap chooses (node_tree s o t n) }
  plain_own u (exprs.Global x) typed n v m l = record { is = λ g means. ap chooses (node_tree s o t n) }
  plain_own u (exprs.Fun x) typed n v m l = record { is = λ g means. ap chooses (node_tree s o t n) }
  plain_own u (exprs.Deref a) typed n v m l = record { is = λ g means. ap chooses (node_tree s o t n) }
  plain_own u (exprs.Member a x) typed n v m l = record { is = λ g means. ap chooses (node_tree s o t n) }
  plain_own u (exprs.Var x) typed n v m l = record {
    is = λ g means. ap chooses (node_tree s o t n)
        ∙ named_plain (is_simple (slice_get s.vars x)) n.node.pos x (objects_before s.vars x);
  }
  plain_own u (exprs.Assign a b) {k = k} typed n v m l = record {
    is = λ g means.
        let less : a < k = t.operands_before k 0 a n.node n.there (ap (λ z. slice_get (operands z) 0) n.is) in
        let own = lower s o t n.there less in
        let node = assign_node (frame_in s u) t k n.node n.there typed a b n.is in
        ap chooses (stored_place g n means).1 ∙ plain_place a own.0 own.1 node.named;
  }
  plain_own u of typed n v m l = record { is = λ g means. absurd (never_place s o t u of typed n refl g means) }

  pub plain_none : (k : ℕ) → slice_get s.program.exprs k ≡ None → IsPlain s k
  plain_none k h = record { is = λ g means. absurd (none_place s o t k h g means) }

  -- ---- copies

  pub copy_read : {k l : ℕ} {to : Target} {q : Pos} {bytes unit : ℕ} {a b : Emitter} → l < k →
      type_of (expression s.program k) ≡ ty.bare (type_of (expression s.program l)) →
      IsNode s.program k (exprs.Load l) → ShowsCopy s to q bytes unit l a b → ShowsCopy s to q bytes unit k a b
  copy_read {k = k} {l = l} {to = to} {q = q} {bytes = bytes} {unit = unit} {a = a} {b = b} less same n h = record {
    code = h.code;
    added = h.added;
    keeps = h.keeps;
    is = λ g kinds suits keeps copied means.
        let r = read_place s o t g n means in
        let place : Places g (tree s l) = subst (λ z. Places g z) r.1 means in
        let known = both_copied s o t suits.types k l n.there (lower s o t n.there less).1 (inr same) copied in
        subst (λ z. IsCopy s.program (signatures s.program) kinds g to q bytes unit z (mark a) (mark b) h.code)
        (sym r.1) (copy_aggregate (h.is g kinds suits keeps known place));
  }

  pub copy_comma : {k l r : ℕ} {to : Target} {q : Pos} {bytes unit : ℕ} {a b c : Emitter} → r < k →
      type_of (expression s.program k) ≡ type_of (expression s.program r) → IsNode s.program k (exprs.Comma l r) →
      ShowsEffect s l a b → ShowsCopy s to q bytes unit r b c → ShowsCopy s to q bytes unit k a c
  copy_comma {k = k} {l = l} {r = r} {to = to} {q = q} {bytes = bytes} {unit = unit} {a = a} {b = b} {c = c} less same
      n f h = record {
        code = λ z. f.code (h.code z);
        added = added_then f.added h.added;
        keeps = keeps_then a.kinds.items b.kinds.items c.kinds.items f.keeps h.keeps;
        is = λ g kinds suits keeps copied means.
            let is : tree s k ≡ Comma (tree s l) (tree s r) = node_tree s o t n in
            let parts : (Values g (tree s l) ⊎ Places g (tree s l)) × Places g (tree s r) =
            subst (λ z. Places g z) is means in
            let known = both_copied s o t suits.types k r n.there (lower s o t n.there less).1 (inl same) copied in
            let kept = keeps_then b.kinds.items c.kinds.items kinds h.keeps keeps in
            subst (λ z. IsCopy s.program (signatures s.program) kinds g to q bytes unit z (mark a) (mark c)
            (λ z. f.code (h.code z))) (sym is)
            (copy_comma_rule (f.is g kinds suits kept parts.0) (h.is g kinds suits keeps known parts.1));
      }

  -- the facts of a struct or union that is copied have its bytes
  bytes_known : {k bytes : ℕ} {e : Expr} {f : TypeFacts} → slice_get s.program.exprs k ≡ Some e →
      FactsFit s.program.types e.of f → IsCopied s.program k bytes → bytes ≤ record_size f
  bytes_known {k = k} {bytes = bytes} {e = e} {f = f} there facts h =
      let is = facts.is_record ∙ sym (ap (λ z. is_record (bare s.program.types (number_of z))) there) ∙ h.is in
      let size : size_in s.program.types e.of ≡ bytes =
      sym (ap (λ z. size_in s.program.types (number_of z)) there) ∙ h.size in
      let small : size_in s.program.types e.of ≤ size_limit = omega (arith, size, h.within) in
      let all : record_size f ≡ bytes = record_bytes f is ∙ size_is facts small ∙ size in
      omega (arith, all)

  pub copy_chosen : (d : FunDef) {w l r k v q : ℕ} {x y : Destination} {f : TypeFacts} {a b c e m h i : Emitter} →
      l < k → r < k → ConditionalNode (frame_of s.program d) k w l r →
      ((n : Expr) → slice_get s.program.exprs k ≡ Some n → FactsFit s.program.types n.of f) →
      (x.bytes ≤ record_size f → y ≡ x) → IsNode s.program k (exprs.Conditional w l r) → Forked a b v q →
      ShowsCondition s w false v b c → ShowsCopy s (target_as y.to) y.pos y.bytes y.unit l c e →
      Emits e m 0 (λ r. instr.Jump q ∷ instr.Label v ∷ r) → ShowsCopy s (target_as y.to) y.pos y.bytes y.unit r m h →
      Emits h i 0 (one (instr.Label q)) → ShowsCopy s (target_as x.to) x.pos x.bytes x.unit k a i
  copy_chosen d {w = w} {l = l} {r = r} {k = k} {x = x} {y = y} {a = a} {c = c} {e = e} {m = m} {h = h} {i = i}
      before below node facts limited n fork test first turn second join =
      let z = chosen fork test first turn second join in
      let p = s.program in
      record {
        code = choice_code a.labels z.test z.way z.other;
        added = z.added;
        keeps = z.keeps;
        is = λ g kinds suits keeps copied means.
            let is : tree s k ≡ Conditional n.node.pos (kind_of node.kind) (tree s w) (tree s l) (tree s r) =
            node_tree s o t n
            ∙ ap (λ v. Conditional n.node.pos v (tree s w) (tree s l) (tree s r)) (kind_is s o t node.test) in
            let parts : Values g (tree s w) × Places g (tree s l) × Places g (tree s r) =
            subst (λ z. Places g z) is means in
            let all = z.is g kinds suits keeps in
            let same : y ≡ x = limited (bytes_known n.there (facts n.node n.there) copied) in
            let left = both_copied s o t suits.types k l n.there (lower s o t n.there before).1 (inl (sym node.one_way))
            copied in
            let right = both_copied s o t suits.types k r n.there (lower s o t n.there below).1
            (inl (sym node.other_way)) copied in
            let to_y : (j : ℕ) → IsCopied p j x.bytes → IsCopied p j y.bytes =
            λ j u. subst (λ v. IsCopied p j v) (sym (ap (λ (v : Destination). v.bytes) same)) u in
            let way = subst (λ (u : Destination). IsCopy p (signatures p) kinds g (target_as u.to) u.pos u.bytes u.unit
            (tree s l) (mark c) (mark e) z.way) same (all.1 (to_y l left) parts.1) in
            let rest = subst (λ (u : Destination). IsCopy p (signatures p) kinds g (target_as u.to) u.pos u.bytes u.unit
            (tree s r) (mark m) (mark h) z.other) same (all.2 (to_y r right) parts.2) in
            let other = subst (λ u. IsCopy p (signatures p) kinds g (target_as x.to) x.pos x.bytes x.unit (tree s r) u
            (mark h) z.other) (mark_same turn) rest in
            let done = copy_choice {q = n.node.pos} {l = mark a} (all.0 node.kind node.test parts.0) way other in
            let code = choice_code a.labels z.test z.way z.other in
            let at = subst (λ u. IsCopy p (signatures p) kinds g (target_as x.to) x.pos x.bytes x.unit u (mark a)
            (mark h) code) (sym is) done in
            subst (λ u. IsCopy p (signatures p) kinds g (target_as x.to) x.pos x.bytes x.unit (tree s k) (mark a) u
            code) (sym (mark_same join)) at;
      }

  pub copy_plain : (u : Ty) {k v w bytes unit : ℕ} {to : Target} {q z : Pos} {a b c e : Emitter} →
      IsTyped (frame_in s u) k → StandsAt s k q → IsPlain s k → ShowsPointer s write.Nothing k v a b →
      Reached to w b c →
      Emits c e 0 (one (instr.CopyUnits v w bytes unit q z)) → ShowsCopy s to z bytes unit k a e
  copy_plain u {k = k} {v = v} {w = w} {bytes = bytes} {unit = unit} {to = to} {q = q} {z = z} {a = a} {b = b} {c = c}
      {e = e} typed at plain h f last = record {
        code = λ r. h.code (target_code to (mark b) (instr.CopyUnits v (target_temp to (mark b)) bytes unit q z ∷ r));
        added = added_then h.added (added_then f.added
            (subst (λ y. Added c e (one (instr.CopyUnits v y bytes unit q z))) f.temp last.added));
        keeps = keeps_then a.kinds.items b.kinds.items e.kinds.items h.keeps
            (keeps_then b.kinds.items c.kinds.items e.kinds.items f.keeps last.keeps);
        is = λ g kinds suits keeps copied means.
            let p = s.program in
            let in_c = keeps_then c.kinds.items e.kinds.items kinds last.keeps keeps in
            let in_b = keeps_then b.kinds.items c.kinds.items kinds f.keeps in_c in
            let located = suits.located u k typed copied.is in
            let pointer = h.is g kinds suits in_b Nil (cover_none write.Nothing) located means in
            let position = at.is g means (plain.is g means) in
            subst (λ y. IsCopy p (signatures p) kinds g to z bytes unit (tree s k) (mark a) y
            (λ r. h.code (target_code to (mark b) (instr.CopyUnits v (target_temp to (mark b)) bytes unit q z ∷ r))))
            (sym (mark_same last ∙ f.marks)) (copy_plain_rule position pointer);
      }

  -- ---- assignments

  pub struct_assigned : (d : FunDef) (u : Ty) {k l r v : ℕ} {w : Written} {q : Pos} {f : TypeFacts} {bytes unit : ℕ}
      {a b c : Emitter} → l < k → r < k → IsTyped (frame_in s u) l → IsTyped (frame_in s u) r →
      AssignNode (frame_of s.program d) k l r →
      ((n : Expr) → slice_get s.program.exprs k ≡ Some n → FactsFit s.program.types n.of f) → bytes ≡ record_size f →
      unit ≡ unit_of f.align → w ≡ written_in s.writes r → StandsAt s l q →
      IsNode s.program k (exprs.Assign l r) → ShowsPointer s w l v a b →
      ShowsCopy s (Reaches v) q bytes unit r b c → ShowsStruct s k v a c
  struct_assigned d u {k = k} {l = l} {r = r} {v = v} {w = w} {q = q} {f = f} {bytes = bytes} {unit = unit} {a = a}
      {b = b} {c = c} before below left right node facts whole units covers at n h copy = record {
        code = λ z. h.code (copy.code z);
        added = added_then h.added copy.added;
        keeps = keeps_then a.kinds.items b.kinds.items c.kinds.items h.keeps copy.keeps;
        is = λ g kinds suits keeps means.
            let p = s.program in
            let z = stored_place g n means in
            let parts : Places g (tree s l) × Places g (tree s r) = subst (λ y. Places g y) z.1 means in
            let own = lower s o t n.there before in
            let other = lower s o t n.there below in
            let known = facts n.node n.there in
            let equal : size_in p.types n.node.of ≡ size_in p.types (type_at p r) =
            sym (ap (λ y. size_in p.types (number_of y)) n.there)
            ∙ suits.types.sizes _ _ (alike s o t k r n.there other.1 (inl (sym node.value))) in
            let small : size_in p.types n.node.of ≤ size_limit = omega (arith, equal, suits.small u r right) in
            let is_struct : f.«record» ≡ true = known.is_record
            ∙ sym (ap (λ y. is_record (bare p.types (number_of y))) n.there) ∙ z.0 in
            let size : bytes ≡ size_in p.types n.node.of = whole ∙ record_bytes f is_struct ∙ size_is known small in
            let unit_is : unit ≡ unit_of (align_in p.types n.node.of) = units ∙ ap unit_of (align_is known small) in
            let copied : IsCopied p r bytes = record {
              is = both_records s o t suits.types k r n.there other.1 (inl (sym node.value)) z.0;
              size = sym equal ∙ sym size;
              within = omega (arith, size, small);
            } in
            let is : tree s k ≡ Copy n.node.pos bytes unit (tree s l) (tree s r) =
            z.1 ∙ ap (λ y. Copy n.node.pos y (unit_of (align_in p.types n.node.of)) (tree s l) (tree s r)) (sym size)
            ∙ ap (λ y. Copy n.node.pos bytes y (tree s l) (tree s r)) (sym unit_is) in
            let place = suits.located u l left
            (both_records s o t suits.types k l n.there own.1 (inr node.place) z.0) in
            let kept = keeps_then b.kinds.items c.kinds.items kinds copy.keeps keeps in
            let covered = subst (λ y. CoversAll y (Cons (tree s r) Nil)) (sym covers)
            (cover_one (suits.written r)) in
            let pointer = h.is g kinds suits kept (Cons (tree s r) Nil) covered place parts.0 in
            let position = at.is g parts.0 (plain_place l own.0 own.1 node.named) in
            subst (λ y. IsStructAssignment p (signatures p) kinds g y v (mark a) (mark c)
            (λ x. h.code (copy.code x))) (sym is)
            (struct_copy {q = n.node.pos} position pointer (copy.is g kinds suits keeps copied parts.1));
      }
