-- Code is shown to be that of places: their pointers.
use Rattle.std.proofs.Common.{◌≡◌, ℕ, ◌<◌, ◌≤◌, true, false, List, ◌∷◌, length, Option, Some, None, get_or}
use Rattle.std.proofs.Common.{refl, sym, ap, ◌∙◌, subst, arith, ◌⊎◌, ⊎_elim, inl, inr}
use Rattle.std.specs.Prelude.{slice_get}
use Rattle.std.proofs.lemmas.Option.{slice_get_within, slice_get-get_or}
use Rattle.ck_base.specs.declared.positions.Pos.{Pos}
use Rattle.cap_concentrate.specs.Rounding.{owned}
use Rattle.c_tree.specs.Layout.{size_limit}
use Rattle.c_tree.specs.Terms.{type_of}
use Rattle.c_tree.specs.Types as ty
use Rattle.c_tree.specs.Types.{Ty}
use Rattle.c_tree.specs.Views.{IsOrdered}
use Rattle.c_tree.specs.declared.typed.Expr.{Expr}
use Rattle.c_tree.specs.declared.typed.ExprKind.{ExprKind}
use Rattle.c_tree.specs.declared.typed.ExprKind.TheVariants as exprs
use Rattle.c_tree.specs.declared.typed.FunDef.{FunDef}
use Rattle.cheri_c_sem.specs.Expressions.{kind_tree, narrowing_of, narrowing_by, type_of as number_of}
use Rattle.cheri_c_sem.specs.Types.{offset_in, size_in, narrowing_to}
use Rattle.cheri_c_sem.specs.Order.{Ordered}
use Rattle.cheri_c_sem.specs.Tree.{Ex, Exs, Narrowing, Pointer_to, Variable, Local, Deref, Member, Comma, Conditional}
use Rattle.tac_ir.specs.declared.code.Amount.TheVariants as amount
use Rattle.tac_ir.specs.declared.code.TacInstr.TheVariants as instr
use Rattle.tac_ir.specs.declared.code.TacKind.{TacKind}
use Rattle.tac_lower.specs.declared.context.Home.{Home}
use Rattle.tac_lower.specs.declared.context.Home.TheVariants as home
use Rattle.tac_emit.specs.declared.emitter.Emitter.{Emitter}
use Rattle.tac_lower.specs.declared.writes.Written.{Written}
use Rattle.lower_runs.specs.States.{Scene}
use Rattle.lower_runs.specs.Operating.{Code, transfer}
use Rattle.lower_runs.specs.Expressions.{Mark, more, pointer_kind, IsValue, IsPlace, IsPointer}
use Rattle.lower_runs.specs.Expressions.{value_address, value_narrowed, value_unplaced}
use Rattle.lower_runs.specs.Expressions.{place_local, place_deref}
use Rattle.lower_runs.specs.Expressions.{place_aggregate, place_comma as place_comma_rule}
use Rattle.lower_runs.specs.Expressions.{place_choice as place_choice_rule}
use Rattle.lower_runs.specs.Expressions.{place_assigned, place_member, place_member_of, choice_code, pointer_deref}
use Rattle.lower_runs.specs.Expressions.{pointer_local, pointer_aggregate, pointer_fresh}
use Rattle.lower_runs.specs.Trees.{HasSpot, Places, Values}
use Rattle.tac_emit.specs.Emitted.{Forked}
use Rattle.tac_lower.specs.Nodes.{expression, IsTyped, VarNode, DerefNode, AddressNode}
use Rattle.tac_lower.specs.Scenes.{frame_of}
use Rattle.tac_emit.specs.Adding.{mark, Emits, none, one}
use Rattle.tac_lower.specs.Tables.{AreSmall, IsSmall, type_at, narrowing_at}
use Rattle.tac_lower.specs.Trees.{Setting, tree, frame_in, Suits, IsNode, IsVariable}
use Rattle.tac_lower.specs.Trees.{HasScalar, Unplaced, ShowsBase, IsAddress, signatures, handed_on}
use Rattle.tac_lower.specs.Trees.{ShowsOperand, ShowsValue, ShowsEffect, ShowsCondition, ShowsPointer, ShowsPlace}
use Rattle.tac_lower.specs.Trees.{ShowsStruct}
use Rattle.tac_lower.proofs.Deriving.{node_tree, same_scalar, value_as, kind_is, mark_more, mark_same}
use Rattle.tac_emit.proofs.Emitting.{added_then}
use Rattle.tac_lower.proofs.Choosing.{chosen}
use Rattle.tac_lower.proofs.Locating.{both_records, lower, read_place}
use Rattle.tac_lower.proofs.Standing.{named, spot_is}
use Rattle.tac_emit.proofs.Wells.{keeps_same, keeps_then}

module _ (s : Setting) (o : Ordered s.program) (t : IsOrdered s.program) where
  -- of a tree and a mark that are equal
  pub place_as : (g : Scene) (kinds : List TacKind) {e f : Ex} {to : ℕ} {l m n : Mark} {c : Code} → f ≡ e → n ≡ m →
      IsPlace s.program (signatures s.program) kinds g e to l m c →
      IsPlace s.program (signatures s.program) kinds g f to l n c
  place_as g kinds {f = f} {to = to} {l = l} {m = m} {c = c} is e h =
      let kept = subst (λ z. IsPlace s.program (signatures s.program) kinds g z to l m c) (sym is) h in
      subst (λ z. IsPlace s.program (signatures s.program) kinds g f to l z c) (sym e) kept

  -- ---- variables

  pub place_object : {k x m v to : ℕ} {a b : Emitter} → IsNode s.program k (exprs.Var x) →
      slice_get s.homes x ≡ Some (home.Object m v) → Emits a b 0 (transfer to v) → ShowsPlace s k to a b
  place_object {k = k} {x = x} {m = m} {v = v} {to = to} n h f = record {
    code = transfer to v;
    added = f.added;
    keeps = f.keeps;
    is = λ g kinds suits keeps means.
        let stand = suits.object x m v h in
        let is : tree s k ≡ Local n.node.pos m = named s o t n stand.0 ∙ ap (Local n.node.pos) stand.1 in
        let there : HasSpot (g.spot m) = subst (λ z. Places g z) is means in
        let spot = spot_is s o t (g.spot m) v there stand.2 in
        inl (place_as g kinds is (mark_same f) (place_local {q = n.node.pos} spot));
  }

  place_null : {k v to : ℕ} {a b : Emitter} → IsVariable s.program s.homes k v →
      Emits a b 0 (one (instr.Const to pointer_kind 0)) → ShowsPlace s k to a b
  place_null {v = v} {to = to} h f = record {
    code = one (instr.Const to pointer_kind 0);
    added = f.added;
    keeps = f.keeps;
    is = λ g kinds suits keeps means. inr (record { temp = v; is = h; marks = mark_same f; code = refl });
  }

  pub place_missing : (d : FunDef) {k x to : ℕ} {a b : Emitter} → length s.homes ≡ length d.vars →
      IsNode s.program k (exprs.Var x) → VarNode (frame_of s.program d) k x →
      ((m v : ℕ) → slice_get s.homes x ≡ Some (home.Object m v) → ⊥) →
      Emits a b 0 (one (instr.Const to pointer_kind 0)) → ShowsPlace s k to a b
  place_missing d {k = k} {x = x} {to = to} {a = a} {b = b} many n node other f = by (slice_get s.homes x) refl
    where
      by : (h : Option Home) → slice_get s.homes x ≡ h → ShowsPlace s k to a b
      by (Some (home.Temp v j)) h = place_null (record { number = x; kind = j; names = n; home = h }) f
      by (Some (home.Object m v)) h = absurd (other m v h)
      by None h =
          let less : x < length d.vars = slice_get_within d.vars x node.var node.there in
          let z = home.Temp 0 pointer_kind in
          absurd (let e : None ≡ Some (get_or s.homes x z) = sym h
          ∙ slice_get-get_or s.homes x z (omega (arith, less, many)) in cc)

  -- ---- other places

  pub place_named : {k to : ℕ} {of : ExprKind} {a b : Emitter} {c : Code} (n : IsNode s.program k of) →
      ((g : Scene) (kinds : List TacKind) (m : Mark) → IsPlace s.program (signatures s.program) kinds g
      (kind_tree s.program s.vars (tree s) n.node.of n.node.pos of) to m m c) → Emits a b 0 c → ShowsPlace s k to a b
  place_named {a = a} {c = c} n rule f = record {
    code = c;
    added = f.added;
    keeps = f.keeps;
    is = λ g kinds suits keeps means. inl (place_as g kinds (node_tree s o t n) (mark_same f) (rule g kinds (mark a)));
  }

  pub place_pointed : (d : FunDef) {k l to : ℕ} {a b : Emitter} → IsNode s.program k (exprs.Deref l) →
      DerefNode (frame_of s.program d) k l → ShowsValue s l to a b → ShowsPlace s k to a b
  place_pointed d {k = k} {l = l} n node h = record {
    code = h.code;
    added = h.added;
    keeps = h.keeps;
    is = λ g kinds suits keeps means.
        let is : tree s k ≡ Deref n.node.pos (tree s l) = node_tree s o t n in
        let value : Values g (tree s l) = subst (λ z. Places g z) is means in
        inl (place_as g kinds is refl (place_deref {q = n.node.pos}
        (h.is g kinds suits keeps pointer_kind node.operand value)));
  }

  pub place_read : (u : Ty) {k l to : ℕ} {a b : Emitter} → l < k → IsTyped (frame_in s u) l →
      type_of (expression s.program k) ≡ ty.bare (type_of (expression s.program l)) →
      IsNode s.program k (exprs.Load l) → ShowsPlace s l to a b → ShowsPlace s k to a b
  place_read u {k = k} {l = l} {to = to} {a = a} {b = b} less typed same n h = record {
    code = h.code;
    added = h.added;
    keeps = h.keeps;
    is = λ g kinds suits keeps means.
        let r = read_place s o t g n means in
        let place : Places g (tree s l) = subst (λ z. Places g z) r.1 means in
        let at = suits.located u l typed
        (both_records s o t suits.types k l n.there (lower s o t n.there less).1 (inr same) r.0) in
        ⊎_elim (λ (i : IsPlace s.program (signatures s.program) kinds g (tree s l) to (mark a) (mark b) h.code).
        inl (place_as g kinds r.1 refl (place_aggregate i)))
        (λ (i : Unplaced s g kinds (mark a) (mark b) h.code l to). absurd (at.none i.temp i.is))
        (h.is g kinds suits keeps place);
  }

  -- a place that is handed on is no variable's value
  only_place : (u : Ty) (g : Scene) (kinds : List TacKind) (j : ℕ) {k l to : ℕ} {of : ExprKind} {m n : Mark}
      {c : Code} → Suits s g → IsTyped (frame_in s u) l → IsNode s.program k of → slice_get (handed_on of) j ≡ Some l →
      IsPlace s.program (signatures s.program) kinds g (tree s l) to m n c ⊎ Unplaced s g kinds m n c l to →
      IsPlace s.program (signatures s.program) kinds g (tree s l) to m n c
  only_place u g kinds j {k = k} {l = l} {to = to} {of = of} {m = m} {n = n} {c = c} suits typed is among =
      ⊎_elim (λ (i : IsPlace s.program (signatures s.program) kinds g (tree s l) to m n c). i)
      (λ (i : Unplaced s g kinds m n c l to). absurd ((suits.handed u k l j of typed is among).none i.temp i.is))

  pub place_comma : (u : Ty) {k l r to : ℕ} {a b c : Emitter} → IsTyped (frame_in s u) r →
      IsNode s.program k (exprs.Comma l r) → ShowsEffect s l a b → ShowsPlace s r to b c → ShowsPlace s k to a c
  place_comma u {k = k} {l = l} {r = r} {a = a} {b = b} {c = c} typed n f h = record {
    code = λ q. f.code (h.code q);
    added = added_then f.added h.added;
    keeps = keeps_then a.kinds.items b.kinds.items c.kinds.items f.keeps h.keeps;
    is = λ g kinds suits keeps means.
        let is : tree s k ≡ Comma (tree s l) (tree s r) = node_tree s o t n in
        let parts : (Values g (tree s l) ⊎ Places g (tree s l)) × Places g (tree s r) =
        subst (λ z. Places g z) is means in
        let kept = keeps_then b.kinds.items c.kinds.items kinds h.keeps keeps in
        inl (place_as g kinds is refl (place_comma_rule
        (f.is g kinds suits kept parts.0)
        (only_place u g kinds 0 suits typed n refl (h.is g kinds suits keeps parts.1))));
  }

  pub place_chosen : (u : Ty) {w l r k v q to : ℕ} {a b c e f h i : Emitter} → IsTyped (frame_in s u) l →
      IsTyped (frame_in s u) r → IsNode s.program k (exprs.Conditional w l r) → HasScalar s.program w →
      Forked a b v q → ShowsCondition s w false v b c → ShowsPlace s l to c e →
      Emits e f 0 (λ r. instr.Jump q ∷ instr.Label v ∷ r) → ShowsPlace s r to f h →
      Emits h i 0 (one (instr.Label q)) → ShowsPlace s k to a i
  place_chosen u {w = w} {l = l} {r = r} {k = k} {to = to} {a = a} {h = h} {i = i} left_typed right_typed n scalar
      fork test first turn second join =
      let z = chosen fork test first turn second join in
      record {
        code = choice_code a.labels z.test z.way z.other;
        added = z.added;
        keeps = z.keeps;
        is = λ g kinds suits keeps means.
            let is = node_tree s o t n
            ∙ ap (λ v. Conditional n.node.pos v (tree s w) (tree s l) (tree s r)) (kind_is s o t scalar.is) in
            let parts : Values g (tree s w) × Places g (tree s l) × Places g (tree s r) =
            subst (λ z. Places g z) is means in
            let all = z.is g kinds suits keeps in
            let other = subst (λ y. IsPlace s.program (signatures s.program) kinds g (tree s r) to y (mark h) z.other)
            (mark_same turn) (only_place u g kinds 1 suits right_typed n refl (all.2 parts.2)) in
            inl (place_as g kinds is (mark_same join) (place_choice_rule {q = n.node.pos} {l = mark a}
            (all.0 scalar.kind scalar.is parts.0)
            (only_place u g kinds 0 suits left_typed n refl (all.1 parts.1)) other));
      }

  -- ---- members

  member_tree : {k l m offset : ℕ} {g : Scene} (n : IsNode s.program k (exprs.Member l m)) → Suits s g →
      (AreSmall s.program.types (type_at s.program l) → offset ≡ offset_in s.program.types (type_at s.program l) m) →
      tree s k ≡ Member n.node.pos offset (tree s l)
  member_tree {k = k} {l = l} {m = m} n suits at =
      node_tree s o t n ∙ ap (λ z. Member n.node.pos z (tree s l)) (sym (at (suits.types.members k l m n)))

  pub place_part : {k l m v offset to : ℕ} {a b : Emitter} → IsNode s.program k (exprs.Member l m) →
      (AreSmall s.program.types (type_at s.program l) →
      offset ≡ offset_in s.program.types (type_at s.program l) m) → ShowsBase s l v →
      Emits a b 0 (one (instr.Offset to v (amount.Number offset))) → ShowsPlace s k to a b
  place_part {l = l} {v = v} {offset = offset} {to = to} n at h f = record {
    code = one (instr.Offset to v (amount.Number offset));
    added = f.added;
    keeps = f.keeps;
    is = λ g kinds suits keeps means.
        let is = member_tree n suits at in
        let place : Places g (tree s l) = subst (λ z. Places g z) is means in
        inl (place_as g kinds is (mark_same f) (place_member_of {q = n.node.pos} (h.is g suits place)));
  }

  pub place_part_made : (u : Ty) {k l m offset to : ℕ} {a b c : Emitter} → IsTyped (frame_in s u) l →
      IsNode s.program k (exprs.Member l m) →
      (AreSmall s.program.types (type_at s.program l) →
      offset ≡ offset_in s.program.types (type_at s.program l) m) → ShowsPlace s l to a b →
      Emits b c 0 (one (instr.Offset to to (amount.Number offset))) → ShowsPlace s k to a c
  place_part_made u {l = l} {offset = offset} {to = to} {a = a} {b = b} {c = c} typed n at h f = record {
    code = λ r. h.code (instr.Offset to to (amount.Number offset) ∷ r);
    added = added_then h.added f.added;
    keeps = keeps_then a.kinds.items b.kinds.items c.kinds.items h.keeps f.keeps;
    is = λ g kinds suits keeps means.
        let is = member_tree n suits at in
        let place : Places g (tree s l) = subst (λ z. Places g z) is means in
        let kept = keeps_then b.kinds.items c.kinds.items kinds f.keeps keeps in
        inl (place_as g kinds is (mark_same f) (place_member {q = n.node.pos}
        (only_place u g kinds 0 suits typed n refl (h.is g kinds suits kept place))));
  }

  pub place_stored : {k t to : ℕ} {a b c : Emitter} → ShowsStruct s k t a b → Emits b c 0 (transfer to t) →
      ShowsPlace s k to a c
  place_stored {k = k} {t = t} {to = to} {a = a} {b = b} {c = c} h f = record {
    code = λ q. h.code (transfer to t q);
    added = added_then h.added f.added;
    keeps = keeps_then a.kinds.items b.kinds.items c.kinds.items h.keeps f.keeps;
    is = λ g kinds suits keeps means.
        inl (place_as g kinds refl (mark_same f) (place_assigned
        (h.is g kinds suits (keeps_then b.kinds.items c.kinds.items kinds f.keeps keeps) means)));
  }

  -- what is no place
  pub no_place : {k to : ℕ} {a b : Emitter} {n : ℕ} {c : Code} → ((g : Scene) → Places g (tree s k) → ⊥) →
      Emits a b n c → ShowsPlace s k to a b
  no_place {c = c} never f = record {
    code = c;
    added = f.added;
    keeps = f.keeps;
    is = λ g kinds suits keeps means. absurd (never g means);
  }

  -- ---- pointers

  pointer_as : (g : Scene) (kinds : List TacKind) (es : Exs) {e f : Ex} {v : ℕ} {l m : Mark} {c : Code} → f ≡ e →
      IsPointer s.program (signatures s.program) kinds g es e v l m c →
      IsPointer s.program (signatures s.program) kinds g es f v l m c
  pointer_as g kinds es {v = v} {l = l} {m = m} {c = c} is h =
      subst (λ z. IsPointer s.program (signatures s.program) kinds g es z v l m c) (sym is) h

  pub pointer_held : (d : FunDef) (later : Written) {k l v : ℕ} {a b : Emitter} → IsNode s.program k (exprs.Deref l) →
      DerefNode (frame_of s.program d) k l → ShowsOperand s later l v a b → ShowsPointer s later k v a b
  pointer_held d later {k = k} {l = l} n node h = record {
    code = h.code;
    added = h.added;
    keeps = h.keeps;
    is = λ g kinds suits keeps es covers located means.
        let is : tree s k ≡ Deref n.node.pos (tree s l) = node_tree s o t n in
        let value : Values g (tree s l) = subst (λ z. Places g z) is means in
        pointer_as g kinds es is (pointer_deref {q = n.node.pos}
        (h.is g kinds suits keeps es pointer_kind covers node.operand value));
  }

  pub pointer_read : (u : Ty) (later : Written) {k l v : ℕ} {a b : Emitter} → l < k → IsTyped (frame_in s u) l →
      type_of (expression s.program k) ≡ ty.bare (type_of (expression s.program l)) →
      IsNode s.program k (exprs.Load l) → ShowsPointer s later l v a b → ShowsPointer s later k v a b
  pointer_read u later {k = k} {l = l} less typed same n h = record {
    code = h.code;
    added = h.added;
    keeps = h.keeps;
    is = λ g kinds suits keeps es covers located means.
        let r = read_place s o t g n means in
        let place : Places g (tree s l) = subst (λ z. Places g z) r.1 means in
        let at = suits.located u l typed
        (both_records s o t suits.types k l n.there (lower s o t n.there less).1 (inr same) r.0) in
        pointer_as g kinds es r.1 (pointer_aggregate (h.is g kinds suits keeps es covers at place));
  }

  pub pointer_object : (later : Written) {k x m v : ℕ} (a : Emitter) → IsNode s.program k (exprs.Var x) →
      slice_get s.homes x ≡ Some (home.Object m v) → ShowsPointer s later k v a a
  pointer_object later {k = k} {x = x} {m = m} {v = v} a n h = record {
    code = none;
    added = record { is = λ rest. refl };
    keeps = keeps_same a.kinds.items a.kinds.items refl;
    is = λ g kinds suits keeps es covers located means.
        let stand = suits.object x m v h in
        let is : tree s k ≡ Local n.node.pos m = named s o t n stand.0 ∙ ap (Local n.node.pos) stand.1 in
        let there : HasSpot (g.spot m) = subst (λ z. Places g z) is means in
        pointer_as g kinds es is (pointer_local {q = n.node.pos} (spot_is s o t (g.spot m) v there stand.2));
  }

  pub pointer_made : (later : Written) {k v : ℕ} {a b c : Emitter} → v ≡ length a.kinds.items → Emits a b 1 none →
      ShowsPlace s k v b c → ShowsPointer s later k v a c
  pointer_made later {k = k} {v = v} {a = a} {b = b} {c = c} e f h = record {
    code = h.code;
    added = added_then f.added h.added;
    keeps = keeps_then a.kinds.items b.kinds.items c.kinds.items f.keeps h.keeps;
    is = λ g kinds suits keeps es covers located means.
        let place = ⊎_elim (λ (i : IsPlace s.program (signatures s.program) kinds g (tree s k) v (mark b) (mark c)
        h.code). i) (λ (i : Unplaced s g kinds (mark b) (mark c) h.code k v). absurd (located.none i.temp i.is))
        (h.is g kinds suits keeps means) in
        let at = subst (λ m. IsPlace s.program (signatures s.program) kinds g (tree s k) v m (mark c) h.code)
        (mark_more f) place in
        let there = subst (λ n. IsPlace s.program (signatures s.program) kinds g (tree s k) n (more 1 (mark a)) (mark c)
        h.code) e at in
        subst (λ n. IsPointer s.program (signatures s.program) kinds g es (tree s k) n (mark a) (mark c) h.code)
        (sym e) (pointer_fresh there);
  }

  -- ---- addresses

  address_tree : {k l : ℕ} → IsAddress s.program k l →
      (q : Pos) × (tree s k ≡ Pointer_to q (narrowing_at s.program s.vars l) (tree s l))
  address_tree {k = k} {l = l} h =
      ⊎_elim (λ (n : IsNode s.program k (exprs.Decay l)). (n.node.pos, node_tree s o t n))
      (λ (n : IsNode s.program k (exprs.Address l)). (n.node.pos, node_tree s o t n)) h

  pub value_pointer : (d : FunDef) {k l to : ℕ} {a b : Emitter} → AddressNode (frame_of s.program d) k l →
      narrowing_at s.program s.vars l ≡ None → IsAddress s.program k l → ShowsPlace s l to a b → ShowsValue s k to a b
  value_pointer d {k = k} {l = l} {to = to} {a = a} {b = b} node whole at h = record {
    code = h.code;
    added = h.added;
    keeps = h.keeps;
    is = λ g kinds suits keeps j own means.
        let n = address_tree at in
        let is : tree s k ≡ Pointer_to n.0 None (tree s l) =
        n.1 ∙ ap (λ z. Pointer_to n.0 z (tree s l)) whole in
        let place : Places g (tree s l) = subst (λ z. Values g z) is means in
        let same = same_scalar s o t node.is own in
        ⊎_elim (λ (i : IsPlace s.program (signatures s.program) kinds g (tree s l) to (mark a) (mark b) h.code).
        value_as s o t g kinds same is refl (value_address i))
        (λ (i : Unplaced s g kinds (mark a) (mark b) h.code l to).
        let stand = suits.value i.is.number i.temp i.is.kind i.is.home in
        let names : tree s k ≡ Pointer_to n.0 None (Variable i.is.names.node.pos i.is.number) =
        is ∙ ap (Pointer_to n.0 None) (named s o t i.is.names stand.0) in
        subst (λ z. IsValue s.program (signatures s.program) kinds g j (tree s k) to (mark a) (mark b) z) (sym i.code)
        (value_as s o t g kinds same names i.marks value_unplaced))
        (h.is g kinds suits keeps place);
  }

  narrowing_size : (e : Option Expr) (n : ℕ) → narrowing_of s.program s.vars e ≡ Some (narrowing_to n) →
      n ≡ size_in s.program.types (number_of e)
  narrowing_size None n h = absurd cc
  narrowing_size (Some e) n h = by e.kind h
    where
      by : (of : ExprKind) → narrowing_by s.program s.vars of e.of ≡ Some (narrowing_to n) →
          n ≡ size_in s.program.types e.of
      by (exprs.Member a m) h =
          let q : narrowing_to (size_in s.program.types e.of) ≡ narrowing_to n = cc in
          sym (ap (λ (w : Narrowing). w.own) q)
      by of h = absurd cc

  pub value_part : (d : FunDef) (u : Ty) {k l size w to : ℕ} {a b c : Emitter} →
      AddressNode (frame_of s.program d) k l → IsTyped (frame_in s u) l →
      (IsSmall s.program.types (type_at s.program l) →
      narrowing_at s.program s.vars l ≡ Some (narrowing_to size)) → (size ≤ size_limit → w ≡ owned size) →
      IsAddress s.program k l → ShowsPlace s l to a b →
      Emits b c 0 (one (instr.Narrow to to (amount.Number w) true)) → ShowsValue s k to a c
  value_part d u {k = k} {l = l} {size = size} {w = w} {to = to} {a = a} {b = b} {c = c} node typed narrow own at h f =
      record {
        code = λ r. h.code (instr.Narrow to to (amount.Number w) true ∷ r);
        added = added_then h.added f.added;
        keeps = keeps_then a.kinds.items b.kinds.items c.kinds.items h.keeps f.keeps;
        is = λ g kinds suits keeps j scalar means.
            let n = address_tree at in
            let small = suits.small u l typed in
            let part = narrow small in
            let some : size ≤ size_limit = subst (λ z. z ≤ size_limit)
            (sym (narrowing_size (slice_get s.program.exprs l) size part)) small in
            let is : tree s k ≡ Pointer_to n.0 (Some (record { own = size; owned = w })) (tree s l) =
            n.1 ∙ ap (λ z. Pointer_to n.0 z (tree s l)) part
            ∙ ap (λ z. Pointer_to n.0 (Some (record { own = size; owned = z })) (tree s l)) (sym (own some)) in
            let place : Places g (tree s l) = subst (λ z. Values g z) is means in
            let kept = keeps_then b.kinds.items c.kinds.items kinds f.keeps keeps in
            let same = same_scalar s o t node.is scalar in
            ⊎_elim (λ (i : IsPlace s.program (signatures s.program) kinds g (tree s l) to (mark a) (mark b) h.code).
            value_as s o t g kinds same is (mark_same f) (value_narrowed i))
            (λ (i : Unplaced s g kinds (mark a) (mark b) h.code l to).
            absurd (let q : None ≡ Some (narrowing_to size) = sym (ap (narrowing_of s.program s.vars) i.is.names.there
            ∙ ap (λ z. narrowing_by s.program s.vars z i.is.names.node.of) i.is.names.is) ∙ part in cc))
            (h.is g kinds suits kept place);
      }
