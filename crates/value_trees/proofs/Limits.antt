-- The types of expressions, and of members that are taken, are within the limit.
use Rattle.std.proofs.Common.{◌≡◌, ℕ, zero, suc, ◌+◌, ◌<◌, ◌≤◌, true, List, length, map, get_or, Option, Some, None}
use Rattle.std.proofs.Common.{refl, sym, ap, subst, ◌∙◌, arith, ⊎_elim}
use Rattle.std.specs.Prelude.{slice_get, option_map}
use Rattle.std.proofs.lemmas.Bool.{false≢true}
use Rattle.std.proofs.lemmas.Option.{same_Some, slice_get_within, slice_get-get_or, slice_get-map}
use Rattle.ck_base.specs.declared.positions.Pos.{Pos}
use Rattle.ck_base.specs.declared.positions.Span.{Span}
use Rattle.c_tree.specs.Layout.{Extent, extent, bare, bare_of, bare_within, members_of, size_limit}
use Rattle.c_tree.specs.Terms.{Term, Program, Tag, type_of}
use Rattle.c_tree.specs.TreeLayout.{tree_extent}
use Rattle.c_tree.specs.Types as ty
use Rattle.c_tree.specs.Types.{Ty, Tagged, Const, Function, compatible}
use Rattle.c_tree.specs.Typing.{Sound}
use Rattle.c_tree.specs.Views.{type_from, types_of, terms_of, term_at, kind_term, operands, member_of, expr_from}
use Rattle.c_tree.specs.Views.{no_term, Shows, IsOrdered}
use Rattle.c_tree.specs.WellTyped.{Frame, TermFits, HasMembers, type_in, IsComplete, WellTyped}
use Rattle.c_tree.specs.declared.typed.CType.{CType}
use Rattle.c_tree.specs.declared.typed.CType.TheVariants as types
use Rattle.c_tree.specs.declared.typed.Expr.{Expr}
use Rattle.c_tree.specs.declared.typed.ExprKind.{ExprKind}
use Rattle.c_tree.specs.declared.typed.ExprKind.TheVariants as exprs
use Rattle.c_tree.specs.declared.typed.FunDef.{FunDef}
use Rattle.c_tree.specs.declared.typed.Member.{Member}
use Rattle.c_tree.specs.declared.typed.Typed.{Typed}
use Rattle.c_tree.specs.declared.typed.VarDef.{VarDef}
use Rattle.c_tree.proofs.Forest.{forest_reads}
use Rattle.typing_laws.proofs.Sound.{well_typed}
use Rattle.typing_laws.specs.Valued.{IsValue, IsPlace}
use Rattle.cheri_c_sem.specs.Expressions as meant
use Rattle.cheri_c_sem.specs.Types.{size_of_extent}
use Rattle.value_trees.specs.Nodes.{IsUsed, IsExpr, type_at}
use Rattle.value_trees.specs.Types.{IsSmall, AreSmall}
use Rattle.value_trees.proofs.Nodes.{expression_is, expression_type}
use Rattle.value_trees.proofs.Values.{value_sort}
use Rattle.value_trees.proofs.Uses.{are_used}
use Rattle.value_trees.proofs.Records.{forest_past, extent_at, deep}
use Rattle.value_trees.proofs.Sizes.{Small, known_small, plain_small, function_small, text_small, as_qualified_small}
use Rattle.value_trees.proofs.Sizes.{compatible_small, member_small}
use Rattle.value_trees.proofs.Fitting.{past}

abbrev tag_of : Ty → Option ℕ
tag_of (Tagged n) = Some n
tag_of (Const t) = tag_of t
tag_of t = None

bare_tag : (t : Ty) (n : ℕ) → ty.bare t ≡ Tagged n → tag_of t ≡ Some n
bare_tag (Tagged m) n e = ap tag_of e
bare_tag (Const t) n e = ap tag_of e
bare_tag t n e = absurd cc

called_function : (t r : Ty) (ps : ty.Tys) → compatible t (Function r ps) ≡ true → ty.is_function t ≡ true
called_function (Function s qs) r ps e = refl
called_function t r ps e = absurd (false≢true e)

-- a member of a type's struct or union, among those of its tag
record IsMember (tags : List Tag) (ts : List Ty) (t : Ty) (j : ℕ) (m : Member) : Type 0 where
  number : ℕ
  tag : Tag
  list : List (Span × Ty)
  names : tag_of t ≡ Some number
  there : slice_get tags number ≡ Some tag
  members : tag.members ≡ Some list
  is : slice_get list j ≡ Some (member_of ts m)

module _ (p : Typed) (o : IsOrdered p) (q : Program) (shows : Shows p q) where
  abbrev ts : List Ty
  ts = types_of p.types

  listed : (ms : List Member) (j : ℕ) (m : Member) → slice_get ms j ≡ Some m →
      slice_get (map (member_of ts) ms) j ≡ Some (member_of ts m)
  listed ms j m e = slice_get-map (member_of ts) ms j ∙ ap (option_map (member_of ts)) e

  named_members : (d t : ℕ) → t < d → t < length p.types → (j : ℕ) (m : Member) →
      slice_get (members_of (bare_within d p.types t)) j ≡ Some m → IsMember q.tags ts (type_in p t) j m
  unfolding bare_within
  named_members zero t lt there j m e = absurd (omega (arith, lt))
  named_members (suc d) t lt there j m e =
      let c = get_or p.types t types.Void in
      let h = slice_get-get_or p.types t types.Void there in
      let r = forest_reads type_from ty.Void p.types t c h in
      subst (λ t. IsMember q.tags ts t j m) (sym r.is) (by c h (λ j. get_or r.seen j ty.Void) r.before
      (λ u l. named_members d u (omega (arith, lt, l)) (omega (arith, there, l)) j m)
      (sym (ap (λ z. slice_get (members_of (bare_of z (bare_within d p.types))) j) h) ∙ e))
    where
      by : (c : CType) → slice_get p.types t ≡ Some c → (go : ℕ → Ty) → ((j : ℕ) → j < t → go j ≡ type_in p j) →
          ((u : ℕ) → u < t → slice_get (members_of (bare_within d p.types u)) j ≡ Some m →
          IsMember q.tags ts (type_in p u) j m)
          → slice_get (members_of (bare_of (Some c) (bare_within d p.types))) j ≡ Some m →
          IsMember q.tags ts (type_from c go) j m
      by (types.Struct tag ms) h go b k e = record {
        number = tag;
        tag = _;
        list = map (member_of ts) ms;
        names = refl;
        there = shows.tags t (types.Struct tag ms) h;
        members = refl;
        is = listed ms j m e;
      }
      by (types.Union tag ms) h go b k e = record {
        number = tag;
        tag = _;
        list = map (member_of ts) ms;
        names = refl;
        there = shows.tags t (types.Union tag ms) h;
        members = refl;
        is = listed ms j m e;
      }
      by (types.Const u) h go b k e =
          let l = o.types t (types.Const u) h in
          let r = k u l e in record {
            number = r.number;
            tag = r.tag;
            list = r.list;
            names = ap tag_of (b u l) ∙ r.names;
            there = r.there;
            members = r.members;
            is = r.is;
          }
      by c h go b k e = absurd cc

  abbrev D : ℕ
  D = length p.types + 0

  abbrev IsLimited : Ty → Type 0
  IsLimited t = Small q.tags t

  -- a complete type
  whole_extent : (t : Ty) (c : IsComplete p t) → tree_extent D q.tags t ≡ Some c.0
  whole_extent t c =
      sym (ap (deep p o q shows 0) c.1.is) ∙ sym (extent_at p o q shows 0 c.1.number) ∙ c.1.extent_is

  complete_small : (t : Ty) → IsComplete p t → IsLimited t
  complete_small t c = known_small q.tags t D c.0 (whole_extent t c) c.1.within

  agreeing_small : (s t : Ty) → compatible s t ≡ true → IsComplete p t → IsLimited s
  agreeing_small s t e c = compatible_small q.tags s t D c.0 e (whole_extent t c) c.1.within

  part_small : (tag : ℕ) (g : Tag) (ls : List (Span × Ty)) → IsComplete p (Tagged tag) →
      slice_get q.tags tag ≡ Some g → g.members ≡ Some ls → (j : ℕ) (l : Span × Ty) → slice_get ls j ≡ Some l →
      IsLimited l.1
  part_small tag g ls c h m j l i =
      member_small q.tags tag g ls h m D c.0 (whole_extent (Tagged tag) c) c.1.within j l i

  has_member_small : (tag : ℕ) (ms : List Member) (j : ℕ) (m : Member) → IsComplete p (Tagged tag) →
      HasMembers p tag ms → slice_get ms j ≡ Some m → IsLimited (type_in p m.of)
  has_member_small tag ms j m c h e = ⊎_elim
      (λ s. part_small tag _ (map (member_of ts) ms) c (shows.tags h.0 (types.Struct tag ms) s) refl j _
      (listed ms j m e))
      (λ s. part_small tag _ (map (member_of ts) ms) c (shows.tags h.0 (types.Union tag ms) s) refl j _
      (listed ms j m e))
      h.1

  small_number : (t : ℕ) → IsLimited (type_in p t) → IsSmall p t
  small_number t h = by (extent p.types t) refl
    where
      by : (z : Option Extent) → extent p.types t ≡ z → size_of_extent z ≤ size_limit
      by None e = omega arith
      by (Some x) e = h D x (sym (extent_at p o q shows 0 t) ∙ e)

  module _ (w : WellTyped p) where
    abbrev x : ℕ → Term
    x k = term_at (terms_of p) k

    abbrev frame : FunDef → Ty → Frame
    frame d gives = record { program = p; vars = d.vars; gives = gives }

    abbrev made : ExprKind → ℕ → Pos → Term
    made kd t r = kind_term (types_of p.types) kd (type_in p t) r x

    module _ (n : ℕ) (d : FunDef) (there : slice_get p.funs n ≡ Some d) (gives : Ty) where
      variable_small : (t : Ty) (y : ℕ) (v : VarDef) → slice_get d.vars y ≡ Some v →
          compatible t (type_in p v.of) ≡ true → IsLimited t
      variable_small t y v h e = agreeing_small t (type_in p v.of) e ((w.funs n d there).vars_complete y v h)

      value_small : (a : Term) → IsValue a → TermFits (frame d gives) a → IsLimited (type_of a)
      value_small a v f = ⊎_elim (λ e. plain_small q.tags (type_of a) e)
          (λ e. ⊎_elim (λ c. complete_small (type_of a) c) (λ c. variable_small (type_of a) c.0 c.1 c.2 c.3) e.1)
          (value_sort (frame d gives) a v f)

      place_small : (kd : ExprKind) (t : ℕ) (r : Pos) → IsPlace (made kd t r) → TermFits (frame d gives) (made kd t r) →
          IsLimited (type_in p t)
      unfolding TermFits
      place_small (exprs.Literal k) t r v f = subst IsLimited (sym v.1) (text_small q.tags v.0 v.2)
      place_small (exprs.Var y) t r v f = variable_small (type_in p t) y f.1.0 f.1.1 f.1.2
      place_small (exprs.Global k) t r v f =
          let g = w.globals k f.1.0 f.1.1 in
          agreeing_small (type_in p t) (type_in p f.1.0.of) f.1.2 (g.extent, g.complete)
      place_small (exprs.Fun k) t r v f =
          let g = w.funs k f.1.0 f.1.1 in
          function_small q.tags (type_in p t) (called_function (type_in p t) g.result g.takes
          (subst (λ u. compatible (type_in p t) u ≡ true) g.type_is f.1.2))
      place_small (exprs.Deref a) t r v f =
          ⊎_elim (λ c. complete_small (type_in p t) c) (λ c. function_small q.tags (type_in p t) c) f.1.1
      place_small (exprs.Member a k) t r v f =
          let g = f.1 in
          subst IsLimited (sym g.6) (as_qualified_small q.tags (type_of (x a)) (type_in p g.2.of)
          (has_member_small g.0 g.1 k g.2 g.7 g.4 g.5))
      place_small kd t r v f = absurd v

    node_small : (k : ℕ) (e : Expr) → slice_get p.exprs k ≡ Some e → IsUsed p k → IsLimited (type_in p e.of)
    node_small k e h u =
        let i = expression_is p o k e h in
        let f = frame u.function u.gives in
        ⊎_elim (λ v. subst IsLimited (expression_type p o k e h)
        (value_small u.number u.function u.there u.gives (x k) v u.fits))
        (λ v. place_small u.number u.function u.there u.gives e.kind e.of e.pos (subst IsPlace i v)
        (subst (TermFits f) i u.fits)) u.stands

    no_fits : (f : Frame) → TermFits f no_term → ⊥
    unfolding TermFits
    no_fits f g = false≢true g.1.1

    nodes : ((k : ℕ) (e : Expr) → slice_get p.exprs k ≡ Some e → IsUsed p k) → (vars : List VarDef) (gives : Ty)
        (k : ℕ) → TermFits (record { program = p; vars = vars; gives = gives }) (x k) → IsSmall p (type_at p k)
    nodes uses vars gives k f = by (slice_get p.exprs k) refl
      where
        by : (m : Option Expr) → slice_get p.exprs k ≡ m → IsSmall p (meant.type_of m)
        by (Some e) h = small_number e.of (node_small k e h (uses k e h))
        by None h = absurd (no_fits _ (subst (TermFits (record { program = p; vars = vars; gives = gives }))
            (forest_past (expr_from (types_of p.types)) no_term p.exprs k (past p.exprs k h)) f))

    member_of_node : (k a n : ℕ) (i : IsExpr p k (exprs.Member a n)) → IsUsed p k → (j : ℕ) (m : Member) →
        slice_get (members_of (bare p.types (type_at p a))) j ≡ Some m → IsSmall p m.of
    unfolding TermFits
    member_of_node k a n i u j m e =
        let z = expression_is p o k i.node i.there ∙ ap (λ z. made z i.node.of i.node.pos) i.is in
        let f = (subst (TermFits (frame u.function u.gives)) z u.fits).1 in
        let lt = o.operands_before k 0 a i.node i.there (ap (λ z. slice_get (operands z) 0) i.is) in
        let l = slice_get_within p.exprs k i.node i.there in
        let b = get_or p.exprs a i.node in
        let there = slice_get-get_or p.exprs a i.node (omega (arith, lt, l)) in
        let typed = o.typed a b there in
        let r = named_members (length p.types) b.of typed typed j m
        (sym (ap (λ (z : Option Expr). slice_get (members_of (bare p.types (meant.type_of z))) j) there) ∙ e) in
        let same = same_Some r.number f.0 (sym r.names ∙ ap tag_of (sym (expression_type p o a b there))
        ∙ bare_tag (type_of (x a)) f.0 f.3) in
        let whole = subst (λ t. IsComplete p (Tagged t)) (sym same) f.7 in
        small_number m.of (part_small r.number r.tag r.list whole r.there r.members j (member_of ts m) r.is)

pub are_small : (p : Typed) → Sound p → AreSmall p
are_small p h =
    let t = h.types.types in
    let w = well_typed p h in
    let o = w.ordered in record {
      nodes = nodes p o t.program t.shows w (are_used p h);
      members = λ k a n i. member_of_node p o t.program t.shows w k a n i (are_used p h k i.node i.there);
    }
