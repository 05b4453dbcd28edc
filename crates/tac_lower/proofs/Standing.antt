-- Temps that have values already: those of variables, and the pointers to objects.
use Rattle.std.proofs.Common.{◌≡◌, ℕ, Bool, true, false, List, Option, Some, None, refl, sym, ap, ◌∙◌, subst}
use Rattle.std.specs.Prelude.{slice_get, if◌then◌else◌}
use Rattle.ck_base.specs.declared.positions.Pos.{Pos}
use Rattle.c_tree.specs.Layout.{bare}
use Rattle.c_tree.specs.Views.{IsOrdered}
use Rattle.c_tree.specs.declared.typed.CType.{CType}
use Rattle.c_tree.specs.declared.typed.CType.TheVariants as types
use Rattle.c_tree.specs.declared.typed.Expr.{Expr}
use Rattle.c_tree.specs.declared.typed.ExprKind.TheVariants as exprs
use Rattle.c_tree.specs.declared.typed.FunDef.{FunDef}
use Rattle.c_tree.specs.declared.typed.Typed.{Typed}
use Rattle.cheri_c_sem.specs.Expressions as sem
use Rattle.cheri_c_sem.specs.Order.{Ordered}
use Rattle.cheri_c_sem.specs.Tree.{Nil, Deref, Load, Aggregate, Pointer_to, Convert, Discard, Variable, Local}
use Rattle.cheri_c_sem.specs.Types.{scalar_of, is_void, is_record, is_simple, objects_before}
use Rattle.cheri_c_sem.specs.Types as sem_types
use Rattle.tac_ir.specs.Effects.{kind_of}
use Rattle.tac_ir.specs.declared.code.TacKind.{TacKind}
use Rattle.tac_ir.specs.declared.code.TacKind.TheVariants as kind
use Rattle.tac_lower.specs.declared.context.Home.{Home}
use Rattle.tac_lower.specs.declared.context.Home.TheVariants as home
use Rattle.tac_lower.specs.declared.writes.Written.{Written}
use Rattle.tac_lower.specs.declared.writes.Written.TheVariants as write
use Rattle.lower_runs.specs.Expressions as rule
use Rattle.lower_runs.specs.Expressions.{IsInPlace, IsConstant, pointer_kind, variable, object, converted, IsBase}
use Rattle.lower_runs.specs.Expressions.{deref, local}
use Rattle.lower_runs.specs.Trees.{HasSpot, Places, Values}
use Rattle.tac_lower.specs.Nodes.{IsScalar, scalar_in, or_int, SameNode, DerefNode, VarNode}
use Rattle.tac_lower.specs.Tables.{kept_by}
use Rattle.tac_lower.specs.Scenes.{frame_of}
use Rattle.tac_lower.specs.Trees.{Setting, tree, IsNode, IsVariable}
use Rattle.tac_lower.specs.Trees.{IsObject}
use Rattle.tac_lower.specs.Trees.{IsSpared, spares_of}
use Rattle.tac_lower.specs.Trees.{Peels, ShowsInPlace, ShowsBase}
use Rattle.tac_lower.proofs.Deriving.{node_tree, same_scalar, type_kind, cover_none}
use Rattle.tac_lower.proofs.Typings.{facts_kept, none_kept}

-- ---- scalars

pub type_scalar : (c : Option CType) (j : TacKind) → kept_by c ≡ Some j → scalar_of c ≡ Some (kind_of j)
type_scalar (Some (types.Int k n)) j h = let e : kind.Int k ≡ j = cc in ap (λ z. Some (kind_of z)) e
type_scalar (Some (types.Cap s)) j h = let e : kind.Cap s ≡ j = cc in ap (λ z. Some (kind_of z)) e
type_scalar (Some (types.Pointer t)) j h = let e : kind.Cap false ≡ j = cc in ap (λ z. Some (kind_of z)) e
type_scalar None j h = absurd cc
type_scalar (Some c) j h = absurd cc

pub no_void : (c : Option CType) (j : TacKind) → kept_by c ≡ Some j → is_void c ≡ false
no_void (Some types.Void) j h = absurd cc
no_void c j h = refl

pub no_record : (c : Option CType) (j : TacKind) → kept_by c ≡ Some j → is_record c ≡ false
no_record (Some (types.Struct tag ms)) j h = absurd cc
no_record (Some (types.Union tag ms)) j h = absurd cc
no_record c j h = refl

-- a variable that is read, and that is not written later
pub spared : (p : Typed) (homes : List Home) {later : Written} {k x t : ℕ} → IsNode p k (exprs.Var x) →
    spares_of later x ≡ true → IsVariable p homes k t → IsSpared p homes later k t
spared p homes {later = later} {x = x} n h v =
    let node : Some n.node ≡ Some v.names.node = sym n.there ∙ v.names.there in
    let same : n.node ≡ v.names.node = cc in
    let kind : exprs.Var x ≡ exprs.Var v.number = sym n.is ∙ (ap (λ (z : Expr). z.kind) same ∙ v.names.is) in
    let number : x ≡ v.number = cc in
    record { is = v; spared = ap (spares_of later) (sym number) ∙ h }

module _ (s : Setting) (o : Ordered s.program) (t : IsOrdered s.program) where
  pub kept_node : {k : ℕ} {j : TacKind} (e : Expr) → slice_get s.program.exprs k ≡ Some e → IsScalar s.program k j →
      kept_by (bare s.program.types e.of) ≡ Some j
  kept_node {k = k} e h i = facts_kept s.program t k e (kept_by (bare s.program.types e.of)) h refl ∙ i.is

  pub scalar_type : {k : ℕ} {j : TacKind} → IsScalar s.program k j →
      scalar_of (sem.bare_type s.program s.vars k) ≡ Some (kind_of j)
  scalar_type {k = k} {j = j} h = by (slice_get s.program.exprs k) refl
    where
      by : (e : Option Expr) → slice_get s.program.exprs k ≡ e →
          scalar_of (sem.bare_type s.program s.vars k) ≡ Some (kind_of j)
      by None none = absurd (let q : None ≡ Some j = sym (none_kept s.program t k none) ∙ h.is in cc)
      by (Some e) there = ap (λ z. scalar_of (bare s.program.types (sem.type_of z))) there
          ∙ type_scalar (bare s.program.types e.of) j (kept_node e there h)

  -- ---- conversions that leave a value as it is

  pub converts : {k a : ℕ} {i j : TacKind} (n : IsNode s.program k (exprs.Convert a)) → IsScalar s.program k j →
      IsScalar s.program a i → (plain : Bool)
      × (tree s k ≡ Convert n.node.pos (kind_of i) (kind_of j) plain (tree s a))
  converts {a = a} {i = i} {j = j} n h from =
      let old = sem.bare_type s.program s.vars a in
      let new = bare s.program.types n.node.of in
      let plain = sem.makes_from_plain s.program s.vars old new (tree s a) in (
        plain,
        node_tree s o t n
            ∙ ap (λ z. if z then Discard (tree s a) else sem.conversion_by s.program s.vars n.node.pos (scalar_of old)
            (scalar_of new) plain (tree s a)) (no_void new j (kept_node n.node n.there h))
            ∙ ap (λ z. sem.conversion_by s.program s.vars n.node.pos z (scalar_of new) plain (tree s a))
            (scalar_type from)
            ∙ ap (λ z. sem.conversion_by s.program s.vars n.node.pos (Some (kind_of i)) z plain (tree s a))
            (type_scalar new j (kept_node n.node n.there h)),
      )

  pub kept_peels : {k a : ℕ} → IsNode s.program k (exprs.Convert a) →
      scalar_in s.program a ≡ scalar_in s.program k → Peels s k a
  kept_peels {k = k} {a = a} n e = record {
    place = λ g es j at h i. let c = converts n h (record { is = e ∙ h.is }) in
        subst (λ z. IsInPlace g es j z at) (sym c.1) (converted {q = n.node.pos} {plain = c.0} i);
    means = λ g j h v. let c = converts n h (record { is = e ∙ h.is }) in subst (λ z. Values g z) c.1 v;
    scalar = λ j h. record { is = e ∙ h.is };
    constant = λ i v h z. let c = converts n h (record { is = e ∙ h.is }) in
        subst (λ u. IsConstant i u v) (sym c.1) (rule.converted {q = n.node.pos} {plain = c.0} z);
  }

  pub peels_same : (k : ℕ) → Peels s k k
  peels_same k = record {
    place = λ g es j at h i. i;
    means = λ g j h v. v;
    scalar = λ j h. h;
    constant = λ i v h z. z;
  }

  pub peels_then : {k a b : ℕ} → Peels s k a → Peels s a b → Peels s k b
  peels_then f h = record {
    place = λ g es j at i p. f.place g es j at i (h.place g es j at (f.scalar j i) p);
    means = λ g j i v. h.means g j (f.scalar j i) (f.means g j i v);
    scalar = λ j i. h.scalar j (f.scalar j i);
    constant = λ i v j z. f.constant i v j (h.constant i v (f.scalar (kind.Int i) j) z);
  }

  -- ---- a variable that is read, and the pointer to an object

  pub named : {a x : ℕ} {z : Bool} (n : IsNode s.program a (exprs.Var x)) → is_simple (slice_get s.vars x) ≡ z →
      tree s a ≡ (if z then Variable n.node.pos x else Local n.node.pos (objects_before s.vars x))
  named {x = x} n h = node_tree s o t n
      ∙ ap (λ z. if z then Variable n.node.pos x else Local n.node.pos (objects_before s.vars x)) h

  pub read_stands : (d : FunDef) {later : Written} {k j a at : ℕ} → d.vars ≡ s.vars → Peels s k j →
      IsNode s.program j (exprs.Load a) → SameNode (frame_of s.program d) j a →
      ((x : ℕ) → IsNode s.program a (exprs.Var x) → VarNode (frame_of s.program d) a x) →
      IsSpared s.program s.homes later a at → ShowsInPlace s later k at
  read_stands d {j = j} {a = a} {at = at} vars peels n same typed found = record {
    is = λ g es i suits covers h v.
        let own = peels.scalar i h in
        let x = found.is.number in
        let stand = suits.value x at found.is.kind found.is.home in
        let var = typed x found.is.names in
        let kept : found.is.kind ≡ i = sym (stand.2 var.var (ap (λ z. slice_get z x) (sym vars) ∙ var.there))
        ∙ ap or_int (sym var.kept ∙ same.same ∙ own.is) in
        let c = bare s.program.types n.node.of in
        let is = node_tree s o t n
        ∙ ap (λ z. if z then Aggregate (tree s a) else Load (sem_types.kind_of c) (tree s a))
        (no_record c i (kept_node n.node n.there own))
        ∙ ap (λ z. Load z (tree s a)) (type_kind c i (kept_node n.node n.there own))
        ∙ ap (λ z. Load (kind_of i) z) (named found.is.names stand.0) in
        let home = subst (λ z. g.home x ≡ Some (record { temp = at; kind = z })) kept stand.1 in
        peels.place g es i at h (subst (λ z. IsInPlace g es i z at) (sym is)
        (variable {q = found.is.names.node.pos} home (covers.spared x found.spared)));
  }

  pub spot_is : (z : Option ℕ) (at : ℕ) → HasSpot z → ((u : ℕ) → z ≡ Some u → u ≡ at) → z ≡ Some at
  spot_is None at h f = absurd h
  spot_is (Some u) at h f = ap Some (f u refl)

  pub pointer_stands : {later : Written} {k j a at : ℕ} {q : Pos} → Peels s k j →
      tree s j ≡ Pointer_to q (sem.narrowing_of s.program s.vars (slice_get s.program.exprs a)) (tree s a) →
      IsScalar s.program j (kind.Cap false) → IsObject s.program s.homes a at → ShowsInPlace s later k at
  pointer_stands {j = j} {a = a} {at = at} {q = q} peels n pointer found = record {
    is = λ g es i suits covers h v.
        let x = found.number in
        let stand = suits.object x found.object at found.home in
        let n = n
        ∙ ap (λ z. Pointer_to q (sem.narrowing_of s.program s.vars z) (tree s a)) found.names.there
        ∙ ap (λ z. Pointer_to q (sem.narrowing_by s.program s.vars z found.names.node.of) (tree s a)) found.names.is
        ∙ ap (Pointer_to q None) (named found.names stand.0)
        ∙ ap (λ z. Pointer_to q None (Local found.names.node.pos z)) stand.1 in
        let there : HasSpot (g.spot found.object) = subst (λ z. Values g z) n (peels.means g i h v) in
        let spot = spot_is (g.spot found.object) at there stand.2 in
        let same : i ≡ kind.Cap false = same_scalar s o t (peels.scalar i h) pointer in
        let is = subst (λ z. IsInPlace g es pointer_kind z at) (sym n)
        (object {q = q} {r = found.names.node.pos} spot) in
        peels.place g es i at h (subst (λ z. IsInPlace g es z (tree s j) at) (sym same) is);
  }

  -- ---- places the pointers to which are in temps

  pub base_pointed : (d : FunDef) {k l v : ℕ} → IsNode s.program k (exprs.Deref l) →
      DerefNode (frame_of s.program d) k l → ShowsInPlace s write.Nothing l v → ShowsBase s k v
  base_pointed d {k = k} {l = l} {v = v} n node h = record {
    is = λ g suits means.
        let is : tree s k ≡ Deref n.node.pos (tree s l) = node_tree s o t n in
        let value : Values g (tree s l) = subst (λ z. Places g z) is means in
        subst (λ z. IsBase g z v) (sym is) (deref {q = n.node.pos}
        (h.is g Nil pointer_kind suits (cover_none write.Nothing) node.operand value));
  }

  pub base_object : {k x m v : ℕ} → IsNode s.program k (exprs.Var x) →
      slice_get s.homes x ≡ Some (home.Object m v) → ShowsBase s k v
  base_object {k = k} {x = x} {m = m} {v = v} n h = record {
    is = λ g suits means.
        let stand = suits.object x m v h in
        let is : tree s k ≡ Local n.node.pos m = named n stand.0 ∙ ap (Local n.node.pos) stand.1 in
        let there : HasSpot (g.spot m) = subst (λ z. Places g z) is means in
        subst (λ z. IsBase g z v) (sym is) (local {q = n.node.pos} (spot_is (g.spot m) v there stand.2));
  }
