-- What an expression does not write, by its operands.
use Rattle.std.proofs.Common.{◌≡◌, ℕ, zero, suc, ◌+◌, ◌<◌, ◌≤◌, ◌==◌, ◌&&◌, not, Bool, true, false, List, [], ◌∷◌}
use Rattle.std.proofs.Math.ListN.{drop_of_length-le}
use Rattle.std.proofs.Common.{get_or, drop-cons, add-one}
use Rattle.std.proofs.Common.{◌++◌, length, drop, Option, Some, None, refl, sym, ap, ◌∙◌, subst, arith}
use Rattle.std.specs.Prelude.{slice_get, if◌then◌else◌}
use Rattle.ck_base.specs.declared.positions.Pos.{Pos}
use Rattle.c_tree.specs.declared.typed.Expr.{Expr}
use Rattle.c_tree.specs.declared.typed.ExprKind.{ExprKind}
use Rattle.c_tree.specs.declared.typed.ExprKind.TheVariants as exprs
use Rattle.c_tree.specs.declared.typed.Typed.{Typed}
use Rattle.c_tree.specs.declared.typed.UnaryOp.{UnaryOp}
use Rattle.c_tree.specs.declared.typed.UnaryOp.TheVariants as unary
use Rattle.c_tree.specs.declared.typed.VarDef.{VarDef}
use Rattle.c_tree.specs.Layout.{bare}
use Rattle.cheri_c_sem.specs.Expressions.{arguments, expr_tree, kind_tree, constant, sign_of, variable, conversion_by}
use Rattle.cheri_c_sem.specs.Expressions as sem
use Rattle.cheri_c_sem.specs.Kinds.{Kind, Plain, Capability}
use Rattle.cheri_c_sem.specs.Order.{Ordered}
use Rattle.cheri_c_sem.specs.Tree.{Ex, Operation, Number, Load, Aggregate, Discard, Binary, Assign, Copy}
use Rattle.cheri_c_sem.specs.Tree.{Variable, Local}
use Rattle.cheri_c_sem.specs.Types as types
use Rattle.cheri_c_sem.specs.Types.{is_simple, objects_before}
use Rattle.cheri_c_sem.proofs.Gathered.{trees_of_operands_law}
use Rattle.lower_runs.specs.Expressions.{spares, spare, is_variable}
use Rattle.tac_lower.specs.declared.writes.Written.{Written}
use Rattle.tac_lower.specs.declared.writes.Written.TheVariants.{Nothing, One, Any}
use Rattle.tac_lower.specs.Trees.{spares_of, written_in, Covers, AreCovered, SparesAll, AreBehind}
use Rattle.tac_lower.specs.Writing.{both, written_on, target_in, target_by, kind_target, writes_by}
use Rattle.tac_emit.proofs.Wells.{and_true}

-- ---- what is spared by both

pub both_spare : (v w : Written) (x : ℕ) → spares_of (both v w) x ≡ true →
    (spares_of v x ≡ true) × (spares_of w x ≡ true)
both_spare Nothing w x h = (refl, h)
both_spare Any w x h = absurd cc
both_spare (One y) Nothing x h = (h, refl)
both_spare (One y) Any x h = absurd cc
both_spare (One y) (One z) x h = by (y == z) refl h
  where
    by : (b : Bool) → (y == z) ≡ b → spares_of (if b then One y else Any) x ≡ true →
        (not (x == y) ≡ true) × (not (x == z) ≡ true)
    by true e i = let same : y ≡ z = grind (arith, e) in (i, subst (λ n. not (x == n) ≡ true) same i)
    by false e i = absurd cc

pub written_on_spares : (at : ℕ → Written) (t : ℕ → Ex) → ((k : ℕ) → Covers (at k) (t k)) → (w : Written)
    (ks : List ℕ) (x : ℕ) → spares_of (written_on at w ks) x ≡ true →
    (spares_of w x ≡ true) × (spare x (arguments t ks) ≡ true)
written_on_spares at t c w [] x h = (h, refl)
written_on_spares at t c w (k ∷ ks) x h =
    let r = written_on_spares at t c (both w (at k)) ks x h in
    let b = both_spare w (at k) x r.0 in
    (b.0, and_true (spares x (t k)) _ ((c k).spared x b.1) r.1)

-- ---- what a node spares

module _ (p : Typed) (vars : List VarDef) (x : ℕ) (t : ℕ → Ex) where
  constant_spares : (n : ℕ) (k : Kind) → spares x (constant n k) ≡ true
  constant_spares n (Plain k) = refl
  constant_spares n (Capability s) = refl

  variable_spares : (q : Pos) (y : ℕ) → spares x (variable p vars q y) ≡ true
  variable_spares q y = by (is_simple (slice_get vars y))
    where
      by : (b : Bool) → spares x (if b then Variable q y else Local q (objects_before vars y)) ≡ true
      by true = refl
      by false = refl

  load_spares : (b : Bool) (k : Kind) (e : Ex) → spares x e ≡ true →
      spares x (if b then Aggregate e else Load k e) ≡ true
  load_spares true k e h = h
  load_spares false k e h = h

  conversion_spares : (q : Pos) (j k : Option Kind) (plain : Bool) (e : Ex) → spares x e ≡ true →
      spares x (conversion_by p vars q j k plain e) ≡ true
  conversion_spares q (Some j) (Some k) plain e h = h
  conversion_spares q (Some j) None plain e h = h
  conversion_spares q None k plain e h = h

  convert_spares : (b : Bool) (q : Pos) (j k : Option Kind) (plain : Bool) (e : Ex) → spares x e ≡ true →
      spares x (if b then Discard e else conversion_by p vars q j k plain e) ≡ true
  convert_spares true q j k plain e h = h
  convert_spares false q j k plain e h = conversion_spares q j k plain e h

  sign_spares : (q : Pos) (k : Kind) (e : Ex) (op : UnaryOp) → spares x e ≡ true → spares x (sign_of q k e op) ≡ true
  sign_spares q k e unary.Plus h = h
  sign_spares q k e unary.Minus h = h
  sign_spares q k e unary.Complement h = h
  sign_spares q k e unary.LogicalNot h = h

  two : (a b : Ex) → spares x a ≡ true → spares x b ≡ true → spares x a && spares x b ≡ true
  two a b f g = and_true (spares x a) (spares x b) f g

  sum_spares : (c : Bool) (q : Pos) (o r : Operation) (a b : Ex) → spares x a ≡ true → spares x b ≡ true →
      spares x (if c then Binary q o a b else Binary q r a b) ≡ true
  sum_spares true q o r a b f g = two a b f g
  sum_spares false q o r a b f g = two a b f g

  -- an assignment to another variable
  change_spares : (a b : Ex) → is_variable x a ≡ false → spares x a ≡ true → spares x b ≡ true →
      not (is_variable x a) && (spares x a && spares x b) ≡ true
  change_spares a b v f g = and_true (not (is_variable x a)) (spares x a && spares x b) (ap not v) (two a b f g)

  assign_spares : (c : Bool) (q : Pos) (bytes unit : ℕ) (k : Kind) (a b : Ex) → is_variable x a ≡ false →
      spares x a ≡ true → spares x b ≡ true → spares x (if c then Copy q bytes unit a b else Assign k a b) ≡ true
  assign_spares true q bytes unit k a b v f g = two a b f g
  assign_spares false q bytes unit k a b v f g = change_spares a b v f g

  module _ (at target : ℕ → Written) (covered : (k : ℕ) → Covers (at k) (t k))
      (apart : (a : ℕ) → spares_of (target a) x ≡ true → is_variable x (t a) ≡ false) where
    spared : (k : ℕ) → spares_of (at k) x ≡ true → spares x (t k) ≡ true
    spared k h = (covered k).spared x h

    pair : (a b : ℕ) → spares_of (both (at a) (at b)) x ≡ true → spares x (t a) && spares x (t b) ≡ true
    pair a b h = let i = both_spare (at a) (at b) x h in two (t a) (t b) (spared a i.0) (spared b i.1)

    record Changed (a b : ℕ) : Type 0 where
      other : is_variable x (t a) ≡ false
      left : spares x (t a) ≡ true
      right : spares x (t b) ≡ true

    changed : (a b : ℕ) → spares_of (both (both (target a) (at a)) (at b)) x ≡ true → Changed a b
    changed a b h =
        let i = both_spare (both (target a) (at a)) (at b) x h in
        let j = both_spare (target a) (at a) x i.0 in
        record { other = apart a j.0; left = spared a j.1; right = spared b i.1 }

    all : (args : List ℕ) → spares_of (written_on at Nothing args) x ≡ true → spare x (arguments t args) ≡ true
    all args h = (written_on_spares at t covered Nothing args x h).1

    pub node_spares : (of : ℕ) (q : Pos) (kd : ExprKind) → spares_of (writes_by at target kd) x ≡ true →
        spares x (kind_tree p vars t of q kd) ≡ true
    node_spares of q (exprs.Constant n) h = constant_spares n (types.kind_of (bare p.types of))
    node_spares of q (exprs.Literal n) h = refl
    node_spares of q (exprs.Var y) h = variable_spares q y
    node_spares of q (exprs.Global n) h = refl
    node_spares of q (exprs.Fun n) h = refl
    node_spares of q (exprs.Load a) h =
        load_spares (types.is_record (bare p.types of)) (types.kind_of (bare p.types of)) (t a) (spared a h)
    node_spares of q (exprs.Decay a) h = spared a h
    node_spares of q (exprs.Deref a) h = spared a h
    node_spares of q (exprs.Member a m) h = spared a h
    node_spares of q (exprs.Address a) h = spared a h
    node_spares of q (exprs.Convert a) h = convert_spares _ q _ _ _ (t a) (spared a h)
    node_spares of q (exprs.Unary op a) h = sign_spares q (sem.kind_at p vars a) (t a) op (spared a h)
    node_spares of q (exprs.Int op a b) h = pair a b h
    node_spares of q (exprs.Capability op a b right) h = pair a b h
    node_spares of q (exprs.Plus a b minus) h =
        let i = both_spare (at a) (at b) x h in sum_spares _ q _ _ (t a) (t b) (spared a i.0) (spared b i.1)
    node_spares of q (exprs.Difference a b) h = pair a b h
    node_spares of q (exprs.Compare op a b) h = pair a b h
    node_spares of q (exprs.And a b) h = pair a b h
    node_spares of q (exprs.Or a b) h = pair a b h
    node_spares of q (exprs.Comma a b) h = pair a b h
    node_spares of q (exprs.Conditional c a b) h =
        let i = both_spare (both (at c) (at a)) (at b) x h in
        let j = both_spare (at c) (at a) x i.0 in
        and_true (spares x (t c)) _ (spared c j.0) (two (t a) (t b) (spared a j.1) (spared b i.1))
    node_spares of q (exprs.Assign a b) h = let c = changed a b h in
        assign_spares _ q _ _ _ (t a) (t b) c.other c.left c.right
    node_spares of q (exprs.Compound op a b r) h = let c = changed a b h in
        change_spares (t a) (t b) c.other c.left c.right
    node_spares of q (exprs.Step a adds front) h =
        let i = both_spare (target a) (at a) x h in
        change_spares (t a) (Number 1) (apart a i.0) (spared a i.1) refl
    node_spares of q (exprs.Call f args) h =
        let i = both_spare (at f) (written_on at Nothing args) x h in
        and_true (spares x (t f)) _ (spared f i.0) (all args i.1)
    node_spares of q (exprs.Library n args) h = all args h

-- ---- the variable of a place

module _ (p : Typed) (vars : List VarDef) (x : ℕ) (t : ℕ → Ex) where
  pub kind_apart : (of : ℕ) (q : Pos) (kd : ExprKind) → spares_of (kind_target kd) x ≡ true →
      is_variable x (kind_tree p vars t of q kd) ≡ false
  kind_apart of q (exprs.Constant n) h = by (types.kind_of (bare p.types of))
    where
      by : (k : Kind) → is_variable x (constant n k) ≡ false
      by (Plain k) = refl
      by (Capability s) = refl
  kind_apart of q (exprs.Var y) h = by (is_simple (slice_get vars y))
    where
      by : (b : Bool) → is_variable x (if b then Variable q y else Local q (objects_before vars y)) ≡ false
      by true = let e : not (x == y) ≡ true = h in grind (arith, e)
      by false = refl
  kind_apart of q (exprs.Load a) h = by (types.is_record (bare p.types of))
    where
      by : (b : Bool) → is_variable x (if b then Aggregate (t a) else Load (types.kind_of (bare p.types of)) (t a))
          ≡ false
      by true = refl
      by false = refl
  kind_apart of q (exprs.Convert a) h = absurd cc
  kind_apart of q (exprs.Unary op a) h = by op
    where
      by : (op : UnaryOp) → is_variable x (sign_of q (sem.kind_at p vars a) (t a) op) ≡ false
      by unary.Plus = refl
      by unary.Minus = refl
      by unary.Complement = refl
      by unary.LogicalNot = refl
  kind_apart of q (exprs.Plus a b minus) h = by _ _ _
    where
      by : (c : Bool) (o r : Operation) →
          is_variable x (if c then Binary q o (t a) (t b) else Binary q r (t a) (t b)) ≡ false
      by true o r = refl
      by false o r = refl
  kind_apart of q (exprs.Assign a b) h = by (types.is_record (bare p.types of)) _ _ _
    where
      by : (c : Bool) (bytes unit : ℕ) (k : Kind) →
          is_variable x (if c then Copy q bytes unit (t a) (t b) else Assign k (t a) (t b)) ≡ false
      by true bytes unit k = refl
      by false bytes unit k = refl
  kind_apart of q kd h = refl

module _ (p : Typed) (o : Ordered p) (vars : List VarDef) where
  abbrev tree : ℕ → Ex
  tree = expr_tree p vars

  tree_is : (k : ℕ) (e : Expr) → slice_get p.exprs k ≡ Some e →
      tree k ≡ kind_tree p vars tree e.of e.pos e.kind
  tree_is = (trees_of_operands_law p o vars).expressions

  target_apart : (x a : ℕ) → spares_of (target_in p a) x ≡ true → is_variable x (tree a) ≡ false
  target_apart x a h = by (slice_get p.exprs a) refl
    where
      by : (e : Option Expr) → slice_get p.exprs a ≡ e → is_variable x (tree a) ≡ false
      by None n = absurd (let i : spares_of Any x ≡ true = subst (λ z. spares_of (target_by z) x ≡ true) n h in cc)
      by (Some e) n = rw (tree_is a e n)
          (kind_apart p vars x tree e.of e.pos e.kind (subst (λ z. spares_of (target_by z) x ≡ true) n h))

  -- one entry more
  entry_of : (P : ℕ → Written → Type 0) (table : List Written) (w : Written) →
      ((k : ℕ) → P k (written_in table k)) → P (length table) w → ((k : ℕ) → P k Any) → (k : ℕ) →
      P k (written_in (table ++ w ∷ []) k)
  entry_of P [] w h q any zero = q
  entry_of P [] w h q any (suc k) = any (suc k)
  entry_of P (v ∷ table) w h q any zero = h zero
  entry_of P (v ∷ table) w h q any (suc k) =
      entry_of (λ n. P (suc n)) table w (λ n. h (suc n)) q (λ n. any (suc n)) k

  any_covers : (e : Ex) → Covers Any e
  any_covers e = record { spared = λ x h. absurd cc }

  pub covers_more : (table : List Written) (k : ℕ) (e : Expr) (w : Written) → AreCovered table tree →
      slice_get p.exprs k ≡ Some e → length table ≡ k →
      w ≡ writes_by (written_in table) (target_in p) e.kind → AreCovered (table ++ w ∷ []) tree
  covers_more table k e w c there many is = record {
    each = entry_of (λ j v. Covers v (tree j)) table w c.each
        (subst (λ j. Covers w (tree j)) (sym many) (record {
          spared = λ x h. rw (tree_is k e there) (node_spares p vars x tree (written_in table) (target_in p) c.each
              (target_apart x) e.of e.pos e.kind (subst (λ v. spares_of v x ≡ true) is h));
        }))
        (λ j. any_covers (tree j));
  }

  pub covers_none : AreCovered [] tree
  covers_none = record { each = λ k. by k }
    where
      by : (k : ℕ) → Covers (written_in [] k) (tree k)
      by k = record { spared = λ x h. absurd cc }

-- ---- lists

pub written_past : (at : ℕ → Written) (w : Written) (ks : List ℕ) (i : ℕ) → length ks ≤ i →
    written_on at w (drop i ks) ≡ w
written_past at w ks i le = ap (written_on at w) (drop_of_length-le ks le)

item_by : (ks : List ℕ) (i d e : ℕ) → i < length ks → get_or ks i d ≡ get_or ks i e
item_by [] i d e h = absurd (omega arith)
item_by (k ∷ ks) zero d e h = refl
item_by (k ∷ ks) (suc i) d e h = item_by ks i d e (omega arith)

pub item : (ks : List ℕ) (i d : ℕ) → i < length ks → get_or ks i d ≡ get_or ks i (get_or ks i d)
item ks i d h = item_by ks i d (get_or ks i d) h

next : (ks : List ℕ) (i k : ℕ) → i < length ks → k ≡ get_or ks i k → drop i ks ≡ k ∷ drop (i + 1) ks
next ks i k lt e = rw (add-one, drop-cons ks i k lt) (ap (λ n. n ∷ drop (suc i) ks) (sym e))

pub written_next : (at : ℕ → Written) (v w : Written) (ks : List ℕ) (i k : ℕ) → i < length ks → k ≡ get_or ks i k →
    v ≡ both w (at k) → written_on at w (drop i ks) ≡ written_on at v (drop (i + 1) ks)
written_next at v w ks i k lt e is = ap (written_on at w) (next ks i k lt e)
    ∙ ap (λ z. written_on at z (drop (i + 1) ks)) (sym is)

-- each of some expressions is spared
written_on_first : (at : ℕ → Written) (w : Written) (ks : List ℕ) (x : ℕ) → spares_of (written_on at w ks) x ≡ true →
    spares_of w x ≡ true
written_on_first at w [] x h = h
written_on_first at w (k ∷ ks) x h = (both_spare w (at k) x (written_on_first at (both w (at k)) ks x h)).0

written_on_each : (at : ℕ → Written) (w : Written) (ks : List ℕ) (x j k : ℕ) →
    spares_of (written_on at w ks) x ≡ true → slice_get ks j ≡ Some k → spares_of (at k) x ≡ true
written_on_each at w [] x j k h e = absurd cc
written_on_each at w (i ∷ ks) x zero k h e =
    let same : i ≡ k = cc in
    let b = both_spare w (at i) x (written_on_first at (both w (at i)) ks x h) in
    subst (λ z. spares_of (at z) x ≡ true) same b.1
written_on_each at w (i ∷ ks) x (suc j) k h e = written_on_each at (both w (at i)) ks x j k h e

pub written_spares : (table : List Written) (w : Written) (ks : List ℕ) → w ≡ written_on (written_in table) Nothing ks →
    SparesAll table w ks
written_spares table w ks is = λ x j k h e.
    written_on_each (written_in table) Nothing ks x j k (subst (λ z. spares_of z x ≡ true) is h) e

-- what is written behind one expression more
spares_front : (table : List Written) (v w : Written) (ks : List ℕ) (k : ℕ) → v ≡ both w (written_in table k) →
    SparesAll table w ks → SparesAll table v (k ∷ ks)
spares_front table v w ks k is c = λ x j i h e.
    let b = both_spare w (written_in table k) x (subst (λ z. spares_of z x ≡ true) is h) in by x b.0 b.1 j i e
  where
    by : (x : ℕ) → spares_of w x ≡ true → spares_of (written_in table k) x ≡ true → (j i : ℕ) →
        slice_get (k ∷ ks) j ≡ Some i → spares_of (written_in table i) x ≡ true
    by x f g zero i e = let same : k ≡ i = cc in subst (λ z. spares_of (written_in table z) x ≡ true) same g
    by x f g (suc j) i e = c x j i f e

pub behind_more : (table ws us : List Written) (ks : List ℕ) (i k : ℕ) (v w : Written) → i < length ks →
    k ≡ get_or ks i k → us ≡ ws ++ w ∷ [] → v ≡ both w (written_in table k) → SparesAll table w (drop (i + 1) ks) →
    AreBehind table (drop (i + 1) ks) ws → AreBehind table (drop i ks) us × SparesAll table v (drop i ks)
behind_more table ws us ks i k v w lt e pushed is c behind =
    let n = sym (next ks i k lt e) in (
      subst (λ z. AreBehind table z us) n (ws, w, pushed, c, behind),
      subst (λ z. SparesAll table v z) n (spares_front table v w (drop (i + 1) ks) k is c),
    )

pub behind_none : (table ws : List Written) (ks : List ℕ) (w : Written) → ws ≡ [] →
    AreBehind table (drop (length ks) ks) ws × SparesAll table w (drop (length ks) ks)
behind_none table ws ks w e =
    let n = sym (drop_of_length-le ks (omega arith)) in (
      subst (λ z. AreBehind table z ws) n e,
      subst (λ z. SparesAll table w z) n (λ x j k h f. absurd cc),
    )
