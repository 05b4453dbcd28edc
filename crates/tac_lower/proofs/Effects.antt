-- Code is shown to be that of what expressions do, way by way.
use Rattle.std.proofs.Common.{◌≡◌, ℕ, Bool, true, false, List, length, Some, None, refl, sym}
use Rattle.std.proofs.Common.{ap, ◌∙◌, subst, ◌⊎◌, ⊎_elim, inl, inr}
use Rattle.std.specs.Prelude.{slice_get, if◌then◌else◌}
use Rattle.ck_base.specs.declared.positions.Pos.{Pos}
use Rattle.ck_int.specs.declared.kinds.CmpOp.{CmpOp}
use Rattle.ck_int.specs.declared.kinds.IntOp.{IntOp}
use Rattle.c_tree.specs.Layout.{bare}
use Rattle.c_tree.specs.Views.{IsOrdered}
use Rattle.c_tree.specs.declared.typed.ExprKind.{ExprKind}
use Rattle.c_tree.specs.declared.typed.ExprKind.TheVariants as exprs
use Rattle.c_tree.specs.declared.typed.UnaryOp.{UnaryOp}
use Rattle.c_tree.specs.declared.typed.UnaryOp.TheVariants as unary
use Rattle.cheri_c_sem.specs.Expressions as sem
use Rattle.cheri_c_sem.specs.Expressions.{expr_tree, kind_tree, node_tree as option_tree, levels}
use Rattle.cheri_c_sem.specs.Kinds.{Kind, Plain, Capability}
use Rattle.cheri_c_sem.specs.Order.{Ordered}
use Rattle.cheri_c_sem.specs.Tree.{Ex, Number, Load, Aggregate, Deref, Member, Assign, Copy, Variable, Local}
use Rattle.cheri_c_sem.specs.Types as sem_types
use Rattle.cheri_c_sem.specs.Types.{is_record, is_simple, is_pointer, objects_before, size_in, align_in, unit_of}
use Rattle.cheri_c_sem.specs.Types.{offset_in}
use Rattle.tac_ir.specs.Effects.{kind_of}
use Rattle.tac_ir.specs.declared.code.TacKind.{TacKind}
use Rattle.tac_emit.specs.declared.emitter.Emitter.{Emitter}
use Rattle.lower_runs.specs.States.{Scene}
use Rattle.lower_runs.specs.Operating.{Code}
use Rattle.lower_runs.specs.Expressions.{more, IsValue, IsEffect, IsPlaceEffect, is_still, is_still_place}
use Rattle.lower_runs.specs.Expressions.{effect_still, place_effect_still, effect_value, effect_assignment}
use Rattle.lower_runs.specs.Expressions.{effect_struct}
use Rattle.lower_runs.specs.Expressions.{effect_call, effect_aggregate, place_effect_aggregate, place_effect_struct}
use Rattle.lower_runs.specs.Expressions.{effect_deref as deref_rule, place_effect_deref as place_deref_rule}
use Rattle.lower_runs.specs.Expressions.{effect_member as member_rule, place_effect_member as place_member_rule}
use Rattle.lower_runs.specs.Trees.{Places, Values}
use Rattle.tac_lower.specs.Nodes.{IsScalar, scalar_in}
use Rattle.tac_emit.specs.Adding.{mark, Emits, none}
use Rattle.tac_lower.specs.Trees.{Setting, tree, Suits, signatures, IsNode, IsVariable, HasScalar}
use Rattle.tac_lower.specs.Trees.{HasRecord, IsTagged, IsWhole, Shows, ShowsValue, ShowsEffect, ShowsPlaceEffect}
use Rattle.tac_lower.specs.Trees.{ShowsAssignment, ShowsSomeStruct, ShowsCall}
use Rattle.tac_lower.proofs.Deriving.{node_tree, mark_more}
use Rattle.tac_emit.proofs.Emitting.{added_then}
use Rattle.tac_lower.proofs.Reading.{load_tree}
use Rattle.tac_lower.proofs.Standing.{named}
use Rattle.tac_emit.proofs.Wells.{keeps_same, keeps_then}

-- a constant or a name
abbrev pub is_leaf : ExprKind → Bool
is_leaf (exprs.Constant n) = true
is_leaf (exprs.Literal n) = true
is_leaf (exprs.Var x) = true
is_leaf (exprs.Global n) = true
is_leaf (exprs.Fun n) = true
is_leaf of = false

pub leaf_of : (of : ExprKind) → ((n : ℕ) × (of ≡ exprs.Constant n)) ⊎ (((n : ℕ) × (of ≡ exprs.Literal n))
    ⊎ (((n : ℕ) × (of ≡ exprs.Var n)) ⊎ (((n : ℕ) × (of ≡ exprs.Global n)) ⊎ ((n : ℕ) × (of ≡ exprs.Fun n))))) →
    is_leaf of ≡ true
leaf_of of (inl w) = ap is_leaf w.1
leaf_of of (inr (inl w)) = ap is_leaf w.1
leaf_of of (inr (inr (inl w))) = ap is_leaf w.1
leaf_of of (inr (inr (inr (inl w)))) = ap is_leaf w.1
leaf_of of (inr (inr (inr (inr w)))) = ap is_leaf w.1

-- a value that is no place
abbrev pub is_no_place : ExprKind → Bool
is_no_place (exprs.Decay a) = true
is_no_place (exprs.Address a) = true
is_no_place (exprs.Unary op a) = true
is_no_place (exprs.Int op a b) = true
is_no_place (exprs.Capability op a b r) = true
is_no_place (exprs.Plus a b m) = true
is_no_place (exprs.Difference a b) = true
is_no_place (exprs.Compare op a b) = true
is_no_place (exprs.And a b) = true
is_no_place (exprs.Or a b) = true
is_no_place (exprs.Compound op a b c) = true
is_no_place (exprs.Step a adds front) = true
is_no_place (exprs.Call f args) = true
is_no_place (exprs.Library n args) = true
is_no_place of = false

-- an operation, whose value comes into a temp
abbrev pub is_worked : ExprKind → Bool
is_worked (exprs.Decay a) = true
is_worked (exprs.Address a) = true
is_worked (exprs.Unary op a) = true
is_worked (exprs.Int op a b) = true
is_worked (exprs.Capability op a b r) = true
is_worked (exprs.Plus a b m) = true
is_worked (exprs.Difference a b) = true
is_worked (exprs.Compare op a b) = true
is_worked of = false

pub worked_no_place : (of : ExprKind) → is_worked of ≡ true → is_no_place of ≡ true
worked_no_place (exprs.Decay a) h = refl
worked_no_place (exprs.Address a) h = refl
worked_no_place (exprs.Unary op a) h = refl
worked_no_place (exprs.Int op a b) h = refl
worked_no_place (exprs.Capability op a b r) h = refl
worked_no_place (exprs.Plus a b m) h = refl
worked_no_place (exprs.Difference a b) h = refl
worked_no_place (exprs.Compare op a b) h = refl
worked_no_place of h = absurd cc

module _ (of : ExprKind) where
  abbrev Compares : Type 0
  Compares = (op : CmpOp) × (a : ℕ) × (b : ℕ) × (of ≡ exprs.Compare op a b)

  abbrev Differs : Type 0
  Differs = ((a : ℕ) × (b : ℕ) × (of ≡ exprs.Difference a b)) ⊎ Compares

  abbrev Adds : Type 0
  Adds = ((a : ℕ) × (b : ℕ) × (m : Bool) × (of ≡ exprs.Plus a b m)) ⊎ Differs

  abbrev Derives : Type 0
  Derives = ((op : IntOp) × (a : ℕ) × (b : ℕ) × (r : Bool) × (of ≡ exprs.Capability op a b r)) ⊎ Adds

  abbrev Counts : Type 0
  Counts = ((op : IntOp) × (a : ℕ) × (b : ℕ) × (of ≡ exprs.Int op a b)) ⊎ Derives

  abbrev Signed : Type 0
  Signed = ((op : UnaryOp) × (a : ℕ) × (of ≡ exprs.Unary op a)) ⊎ Counts

  abbrev Points : Type 0
  Points = ((a : ℕ) × (of ≡ exprs.Address a)) ⊎ Signed

  pub worked_of : ((a : ℕ) × (of ≡ exprs.Decay a)) ⊎ Points → is_worked of ≡ true
  worked_of (inl w) = ap is_worked w.1
  worked_of (inr (inl w)) = ap is_worked w.1
  worked_of (inr (inr (inl w))) = ap is_worked w.2
  worked_of (inr (inr (inr (inl w)))) = ap is_worked w.3
  worked_of (inr (inr (inr (inr (inl w))))) = ap is_worked w.4
  worked_of (inr (inr (inr (inr (inr (inl w)))))) = ap is_worked w.3
  worked_of (inr (inr (inr (inr (inr (inr (inl w))))))) = ap is_worked w.2
  worked_of (inr (inr (inr (inr (inr (inr (inr w))))))) = ap is_worked w.3

module _ (s : Setting) (o : Ordered s.program) (t : IsOrdered s.program) where
  -- ---- nothing is done

  no_tree : (k : ℕ) → slice_get s.program.exprs k ≡ None → tree s k ≡ Number 0
  unfolding expr_tree
  no_tree k h = ap (option_tree s.program s.vars (levels s.program s.vars k)) h

  module _ (k : ℕ) (a : Emitter) where
    still : is_still (tree s k) ≡ true → ShowsEffect s k a a
    still h = record {
      code = none;
      added = record { is = λ rest. refl };
      keeps = keeps_same a.kinds.items a.kinds.items refl;
      is = λ g kinds suits keeps means. effect_still h;
    }

    still_place : ((g : Scene) → Places g (tree s k) → is_still_place (tree s k) ≡ true) → ShowsPlaceEffect s k a a
    still_place h = record {
      code = none;
      added = record { is = λ rest. refl };
      keeps = keeps_same a.kinds.items a.kinds.items refl;
      is = λ g kinds suits keeps means. place_effect_still (h g means);
    }

    pub effect_no_node : slice_get s.program.exprs k ≡ None → ShowsEffect s k a a
    effect_no_node h = still (ap is_still (no_tree k h))

    pub place_effect_no_node : slice_get s.program.exprs k ≡ None → ShowsPlaceEffect s k a a
    place_effect_no_node h = still_place (λ g v. absurd (subst (λ e. Places g e) (no_tree k h) v))

  constant_still : (n : ℕ) (j : Kind) → is_still (sem.constant n j) ≡ true
  constant_still n (Plain j) = refl
  constant_still n (Capability z) = refl

  constant_no_place : (g : Scene) (n : ℕ) (j : Kind) → Places g (sem.constant n j) → ⊥
  constant_no_place g n (Plain j) v = v
  constant_no_place g n (Capability z) v = v

  variable_still : (z : Bool) (q : Pos) (x n : ℕ) → is_still_place (if z then Variable q x else Local q n) ≡ true
  variable_still true q x n = refl
  variable_still false q x n = refl

  place_still : (e : Ex) → is_still_place e ≡ true → is_still e ≡ true
  place_still (Variable q x) h = refl
  place_still (Local q n) h = refl
  place_still (Rattle.cheri_c_sem.specs.Tree.Object q n p) h = refl
  place_still (Rattle.cheri_c_sem.specs.Tree.Function q n) h = refl
  place_still e h = absurd cc

  leaf_still : (u : ℕ) (q : Pos) (of : ExprKind) → is_leaf of ≡ true →
      is_still (kind_tree s.program s.vars (tree s) u q of) ≡ true
  leaf_still u q (exprs.Constant n) h = constant_still n (sem_types.kind_of (bare s.program.types u))
  leaf_still u q (exprs.Literal n) h = refl
  leaf_still u q (exprs.Var x) h =
      place_still (sem.variable s.program s.vars q x)
      (variable_still (is_simple (slice_get s.vars x)) q x (objects_before s.vars x))
  leaf_still u q (exprs.Global n) h = refl
  leaf_still u q (exprs.Fun n) h = refl
  leaf_still u q of h = absurd cc

  leaf_place : (u : ℕ) (q : Pos) (of : ExprKind) → is_leaf of ≡ true → (g : Scene) →
      Places g (kind_tree s.program s.vars (tree s) u q of) →
      is_still_place (kind_tree s.program s.vars (tree s) u q of) ≡ true
  leaf_place u q (exprs.Constant n) h g v =
      absurd (constant_no_place g n (sem_types.kind_of (bare s.program.types u)) v)
  leaf_place u q (exprs.Literal n) h g v = refl
  leaf_place u q (exprs.Var x) h g v =
      variable_still (is_simple (slice_get s.vars x)) q x (objects_before s.vars x)
  leaf_place u q (exprs.Global n) h g v = refl
  leaf_place u q (exprs.Fun n) h g v = refl
  leaf_place u q of h g v = absurd cc

  module _ {k : ℕ} {of : ExprKind} (n : IsNode s.program k of) (leaf : is_leaf of ≡ true) where
    pub effect_leaf : (a : Emitter) → ShowsEffect s k a a
    effect_leaf a = still k a (ap is_still (node_tree s o t n) ∙ leaf_still n.node.of n.node.pos of leaf)

    pub place_effect_leaf : (a : Emitter) → ShowsPlaceEffect s k a a
    place_effect_leaf a = still_place k a (λ g v. ap is_still_place (node_tree s o t n)
        ∙ leaf_place n.node.of n.node.pos of leaf g (subst (λ e. Places g e) (node_tree s o t n) v))

  -- ---- a value that is no place

  sign_no_place : (g : Scene) (op : UnaryOp) (q : Pos) (j : Kind) (e : Ex) → Places g (sem.sign_of q j e op) → ⊥
  sign_no_place g unary.Plus q j e v = v
  sign_no_place g unary.Minus q j e v = v
  sign_no_place g unary.Complement q j e v = v
  sign_no_place g unary.LogicalNot q j e v = v

  sum_no_place : (g : Scene) (q : Pos) (m : Bool) (a b : ℕ) (e f : Ex) (z : Bool) →
      is_pointer (sem.bare_type s.program s.vars a) ≡ z → Places g (sem.sum s.program s.vars q m a b e f) → ⊥
  sum_no_place g q m a b e f true h v = rw h at v
  sum_no_place g q m a b e f false h v = rw h at v

  no_place : (u : ℕ) (q : Pos) (of : ExprKind) → is_no_place of ≡ true → (g : Scene) →
      Places g (kind_tree s.program s.vars (tree s) u q of) → ⊥
  no_place u q (exprs.Decay a) h g v = v
  no_place u q (exprs.Address a) h g v = v
  no_place u q (exprs.Unary op a) h g v = sign_no_place g op q (sem.kind_at s.program s.vars a) (tree s a) v
  no_place u q (exprs.Int op a b) h g v = v
  no_place u q (exprs.Capability op a b r) h g v = v
  no_place u q (exprs.Plus a b m) h g v =
      sum_no_place g q m a b (tree s a) (tree s b) (is_pointer (sem.bare_type s.program s.vars a)) refl v
  no_place u q (exprs.Difference a b) h g v = v
  no_place u q (exprs.Compare op a b) h g v = v
  no_place u q (exprs.And a b) h g v = v
  no_place u q (exprs.Or a b) h g v = v
  no_place u q (exprs.Compound op a b c) h g v = v
  no_place u q (exprs.Step a adds front) h g v = v
  no_place u q (exprs.Call f args) h g v = v
  no_place u q (exprs.Library n args) h g v = v
  no_place u q of h g v = absurd cc

  module _ {k : ℕ} {of : ExprKind} (n : IsNode s.program k of) (never : is_no_place of ≡ true) where
    never_place : (g : Scene) → Places g (tree s k) → ⊥
    never_place g v = no_place n.node.of n.node.pos of never g (subst (λ e. Places g e) (node_tree s o t n) v)

    pub place_effect_never : {a b : Emitter} {Is : Scene → List TacKind → Code → Type 0} → Shows s a b Is →
        ShowsPlaceEffect s k a b
    place_effect_never h = record {
      code = h.code;
      added = h.added;
      keeps = h.keeps;
      is = λ g kinds suits keeps means. absurd (never_place g means);
    }

    only_value : (g : Scene) → Values g (tree s k) ⊎ Places g (tree s k) → Values g (tree s k)
    only_value g v =
        ⊎_elim (λ (w : Values g (tree s k)). w) (λ (w : Places g (tree s k)). absurd (never_place g w)) v

    -- its value comes into a new temp
    pub effect_of_value : {u : ℕ} {a b c : Emitter} → HasScalar s.program k → u ≡ length a.kinds.items →
        Emits a b 1 none → ShowsValue s k u b c → ShowsEffect s k a c
    effect_of_value {u = u} {a = a} {b = b} {c = c} scalar next f h = record {
      code = h.code;
      added = added_then f.added h.added;
      keeps = keeps_then a.kinds.items b.kinds.items c.kinds.items f.keeps h.keeps;
      is = λ g kinds suits keeps means.
          let p = s.program in
          let is = h.is g kinds suits keeps scalar.kind scalar.is (only_value g means) in
          let at = subst (λ m. IsValue p (signatures p) kinds g scalar.kind (tree s k) u m (mark c) h.code)
          (mark_more f) is in
          effect_value (subst (λ v. IsValue p (signatures p) kinds g scalar.kind (tree s k) v (more 1 (mark a)) (mark c)
          h.code) next at);
    }

    pub effect_changed : {a b : Emitter} → HasScalar s.program k → ShowsAssignment s k None a b → ShowsEffect s k a b
    effect_changed scalar h = record {
      code = h.code;
      added = h.added;
      keeps = h.keeps;
      is = λ g kinds suits keeps means.
          effect_assignment (h.is g kinds suits keeps scalar.kind scalar.is (only_value g means));
    }

    pub effect_called : {a b : Emitter} → ShowsCall s k None a b → ShowsEffect s k a b
    effect_called h = record {
      code = h.code;
      added = h.added;
      keeps = h.keeps;
      is = λ g kinds suits keeps means. effect_call (h.is g kinds suits keeps (only_value g means));
    }

  -- ---- places

  module _ {k x : ℕ} {a b : Emitter} (n : IsNode s.program k (exprs.Deref x)) (h : ShowsEffect s x a b) where
    deref_tree : tree s k ≡ Deref n.node.pos (tree s x)
    deref_tree = node_tree s o t n

    pub effect_deref : ShowsEffect s k a b
    effect_deref = record {
      code = h.code;
      added = h.added;
      keeps = h.keeps;
      is = λ g kinds suits keeps means.
          let p = s.program in
          let place = ⊎_elim (λ (w : Values g (Deref n.node.pos (tree s x))). absurd w)
          (λ (w : Places g (Deref n.node.pos (tree s x))). w)
          (subst (λ e. Values g e ⊎ Places g e) deref_tree means) in
          subst (λ e. IsEffect p (signatures p) kinds g e (mark a) (mark b) h.code) (sym deref_tree)
          (deref_rule (h.is g kinds suits keeps (inl place)));
    }

    pub place_effect_deref : ShowsPlaceEffect s k a b
    place_effect_deref = record {
      code = h.code;
      added = h.added;
      keeps = h.keeps;
      is = λ g kinds suits keeps means.
          let p = s.program in
          subst (λ e. IsPlaceEffect p (signatures p) kinds g e (mark a) (mark b) h.code) (sym deref_tree)
          (place_deref_rule (h.is g kinds suits keeps (inl (subst (λ e. Places g e) deref_tree means))));
    }

  module _ {k x m : ℕ} {a b : Emitter} (n : IsNode s.program k (exprs.Member x m)) (h : ShowsPlaceEffect s x a b) where
    abbrev offset : ℕ
    offset = offset_in s.program.types (sem.type_of (slice_get s.program.exprs x)) m

    member_tree : tree s k ≡ Member n.node.pos offset (tree s x)
    member_tree = node_tree s o t n

    pub effect_member : ShowsEffect s k a b
    effect_member = record {
      code = h.code;
      added = h.added;
      keeps = h.keeps;
      is = λ g kinds suits keeps means.
          let p = s.program in
          let place = ⊎_elim (λ (w : Values g (Member n.node.pos offset (tree s x))). absurd w)
          (λ (w : Places g (Member n.node.pos offset (tree s x))). w)
          (subst (λ e. Values g e ⊎ Places g e) member_tree means) in
          subst (λ e. IsEffect p (signatures p) kinds g e (mark a) (mark b) h.code) (sym member_tree)
          (member_rule (h.is g kinds suits keeps place));
    }

    pub place_effect_member : ShowsPlaceEffect s k a b
    place_effect_member = record {
      code = h.code;
      added = h.added;
      keeps = h.keeps;
      is = λ g kinds suits keeps means.
          let p = s.program in
          subst (λ e. IsPlaceEffect p (signatures p) kinds g e (mark a) (mark b) h.code) (sym member_tree)
          (place_member_rule (h.is g kinds suits keeps (subst (λ e. Places g e) member_tree means)));
    }

  -- ---- a struct or union, or a scalar

  record_at : {k : ℕ} {of : ExprKind} (n : IsNode s.program k of) →
      is_record (bare s.program.types n.node.of) ≡ true → HasRecord s.program k
  record_at n h = ap (λ z. is_record (bare s.program.types (sem.type_of z))) n.there ∙ h

  -- it is a struct or union, or a scalar, by its own type
  scalar_at : {k : ℕ} {of : ExprKind} (n : IsNode s.program k of) → IsWhole s.program k → (g : Scene) → Suits s g →
      is_record (bare s.program.types n.node.of) ≡ false → HasScalar s.program k
  scalar_at {k = k} n whole g suits h =
      ⊎_elim (λ (x : HasScalar s.program k). x)
      (λ (x : IsTagged s.program k). absurd (let q : true ≡ false = sym (suits.records k x)
      ∙ ap (λ z. is_record (bare s.program.types (sem.type_of z))) n.there ∙ h in cc)) whole

  module _ {k x y : ℕ} {a b : Emitter} (n : IsNode s.program k (exprs.Assign x y)) (whole : IsWhole s.program k)
      (one_way : ShowsAssignment s k None a b) (copies : HasRecord s.program k → ShowsSomeStruct s k a b) where
    assign_tree : (z : Bool) → is_record (bare s.program.types n.node.of) ≡ z →
        tree s k ≡ (if z then Copy n.node.pos (size_in s.program.types n.node.of)
        (unit_of (align_in s.program.types n.node.of)) (tree s x) (tree s y)
        else Assign (sem.kind_at s.program s.vars x) (tree s x) (tree s y))
    assign_tree z h = node_tree s o t n
        ∙ ap (λ z. if z then Copy n.node.pos (size_in s.program.types n.node.of)
        (unit_of (align_in s.program.types n.node.of)) (tree s x) (tree s y)
        else Assign (sem.kind_at s.program s.vars x) (tree s x) (tree s y)) h

    copy_place : (g : Scene) → is_record (bare s.program.types n.node.of) ≡ true →
        Values g (tree s k) ⊎ Places g (tree s k) → Places g (tree s k)
    copy_place g h v =
        ⊎_elim (λ (w : Values g (tree s k)). absurd (subst (λ e. Values g e) (assign_tree true h) w))
        (λ (w : Places g (tree s k)). w) v

    assigned_value : (g : Scene) → is_record (bare s.program.types n.node.of) ≡ false →
        Values g (tree s k) ⊎ Places g (tree s k) → Values g (tree s k)
    assigned_value g h v =
        ⊎_elim (λ (w : Values g (tree s k)). w)
        (λ (w : Places g (tree s k)). absurd (subst (λ e. Places g e) (assign_tree false h) w)) v

    pub effect_assigned : ShowsEffect s k a b
    effect_assigned = by (is_record (bare s.program.types n.node.of)) refl
      where
        by : (z : Bool) → is_record (bare s.program.types n.node.of) ≡ z → ShowsEffect s k a b
        by true h =
            let copy = copies (record_at n h) in
            record {
              code = copy.is.code;
              added = copy.is.added;
              keeps = copy.is.keeps;
              is = λ g kinds suits keeps means.
                  effect_struct (copy.is.is g kinds suits keeps (copy_place g h means));
            }
        by false h = record {
          code = one_way.code;
          added = one_way.added;
          keeps = one_way.keeps;
          is = λ g kinds suits keeps means.
              let scalar = scalar_at n whole g suits h in
              effect_assignment (one_way.is g kinds suits keeps scalar.kind scalar.is (assigned_value g h means));
        }

    pub place_effect_assigned : ShowsPlaceEffect s k a b
    place_effect_assigned = by (is_record (bare s.program.types n.node.of)) refl
      where
        by : (z : Bool) → is_record (bare s.program.types n.node.of) ≡ z → ShowsPlaceEffect s k a b
        by true h =
            let copy = copies (record_at n h) in
            record {
              code = copy.is.code;
              added = copy.is.added;
              keeps = copy.is.keeps;
              is = λ g kinds suits keeps means. place_effect_struct (copy.is.is g kinds suits keeps means);
            }
        by false h = record {
          code = one_way.code;
          added = one_way.added;
          keeps = one_way.keeps;
          is = λ g kinds suits keeps means. absurd (subst (λ e. Places g e) (assign_tree false h) means);
        }

  -- ---- a reading

  module _ {k x : ℕ} (n : IsNode s.program k (exprs.Load x)) where
    read_tree : is_record (bare s.program.types n.node.of) ≡ true → tree s k ≡ Aggregate (tree s x)
    read_tree h = node_tree s o t n
        ∙ ap (λ z. if z then Aggregate (tree s x)
        else Load (sem_types.kind_of (bare s.program.types n.node.of)) (tree s x)) h

    -- a struct or union is not read
    is_read_record : scalar_in s.program k ≡ None → IsWhole s.program k → (g : Scene) → Suits s g →
        is_record (bare s.program.types n.node.of) ≡ true
    is_read_record none whole g suits =
        ⊎_elim (λ (w : HasScalar s.program k). absurd (let q : None ≡ Some w.kind = sym none ∙ w.is.is in cc))
        (λ (w : IsTagged s.program k). ap (λ z. is_record (bare s.program.types (sem.type_of z))) (sym n.there)
        ∙ suits.records k w) whole

    module _ {a b : Emitter} (none : scalar_in s.program k ≡ None) (whole : IsWhole s.program k)
        (h : ShowsPlaceEffect s x a b) where
      pub effect_unread : ShowsEffect s k a b
      effect_unread = record {
        code = h.code;
        added = h.added;
        keeps = h.keeps;
        is = λ g kinds suits keeps means.
            let p = s.program in
            let is = read_tree (is_read_record none whole g suits) in
            let place = ⊎_elim (λ (w : Values g (Aggregate (tree s x))). absurd w)
            (λ (w : Places g (Aggregate (tree s x))). w) (subst (λ e. Values g e ⊎ Places g e) is means) in
            subst (λ e. IsEffect p (signatures p) kinds g e (mark a) (mark b) h.code) (sym is)
            (effect_aggregate (h.is g kinds suits keeps place));
      }

      pub place_effect_unread : ShowsPlaceEffect s k a b
      place_effect_unread = record {
        code = h.code;
        added = h.added;
        keeps = h.keeps;
        is = λ g kinds suits keeps means.
            let p = s.program in
            let is = read_tree (is_read_record none whole g suits) in
            subst (λ e. IsPlaceEffect p (signatures p) kinds g e (mark a) (mark b) h.code) (sym is)
            (place_effect_aggregate (h.is g kinds suits keeps (subst (λ e. Places g e) is means)));
      }

    module _ {j : TacKind} (scalar : IsScalar s.program k j) where
      no_place_read : (g : Scene) → Places g (tree s k) → ⊥
      no_place_read g v = subst (λ e. Places g e) (load_tree s o t n scalar) v

      pub place_effect_read : {a b : Emitter} {Is : Scene → List TacKind → Code → Type 0} → Shows s a b Is →
          ShowsPlaceEffect s k a b
      place_effect_read h = record {
        code = h.code;
        added = h.added;
        keeps = h.keeps;
        is = λ g kinds suits keeps means. absurd (no_place_read g means);
      }

      -- the value of a variable is in a temp already
      pub effect_variable : {v : ℕ} (a : Emitter) → IsVariable s.program s.homes x v → ShowsEffect s k a a
      effect_variable {v = v} a found = record {
        code = none;
        added = record { is = λ rest. refl };
        keeps = keeps_same a.kinds.items a.kinds.items refl;
        is = λ g kinds suits keeps means.
            let stand = suits.value found.number v found.kind found.home in
            let is = load_tree s o t n scalar
            ∙ ap (λ z. Load (kind_of j) z) (named s o t found.names stand.0) in
            effect_still (ap is_still is);
      }

      pub effect_read : {u : ℕ} {a b c : Emitter} → u ≡ length a.kinds.items → Emits a b 1 none →
          ShowsValue s k u b c → ShowsEffect s k a c
      effect_read {u = u} {a = a} {b = b} {c = c} next f h = record {
        code = h.code;
        added = added_then f.added h.added;
        keeps = keeps_then a.kinds.items b.kinds.items c.kinds.items f.keeps h.keeps;
        is = λ g kinds suits keeps means.
            let p = s.program in
            let value = ⊎_elim (λ (w : Values g (tree s k)). w)
            (λ (w : Places g (tree s k)). absurd (no_place_read g w)) means in
            let is = h.is g kinds suits keeps j scalar value in
            let at = subst (λ m. IsValue p (signatures p) kinds g j (tree s k) u m (mark c) h.code) (mark_more f) is in
            effect_value (subst (λ v. IsValue p (signatures p) kinds g j (tree s k) v (more 1 (mark a)) (mark c)
            h.code) next at);
      }
