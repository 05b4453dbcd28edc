-- A program that typing gives, and which has room, is fit.
use Rattle.std.proofs.Common.{◌≡◌, ℕ, zero, suc, ◌+◌, ◌*◌, ◌^◌, ◌<◌, min, Bool, true, false, List, length, map}
use Rattle.std.proofs.Common.{Option, Some, None, get_or, refl, sym, ap, subst, ◌∙◌, arith, inl, inr, ⊎_elim}
use Rattle.std.specs.Prelude.{◌||◌, is_some, slice_get}
use Rattle.std.proofs.lemmas.Nat.{pow-add, pow_pos}
use Rattle.std.proofs.lemmas.List.{length-map}
use Rattle.std.proofs.lemmas.Option.{same_Some, slice_get_within, slice_get-get_or}
use Rattle.ck_base.specs.declared.positions.Span.{Span}
use Rattle.c_tree.specs.File.{HasRoom}
use Rattle.c_tree.specs.Layout.{Extent, extent, bare, bare_of, bare_within, members_of}
use Rattle.c_tree.specs.Terms.{Program, Tag, type_of}
use Rattle.c_tree.specs.TreeLayout.{tree_extent}
use Rattle.c_tree.specs.Types as ty
use Rattle.c_tree.specs.Types.{Ty, Tagged, Const}
use Rattle.c_tree.specs.Typing.{Sound}
use Rattle.c_tree.specs.Views.{type_from, types_of, kind_term, operands, member_of, Shows, IsOrdered}
use Rattle.c_tree.specs.WellTyped.{Frame, TermFits, HasMembers, type_in, IsComplete}
use Rattle.c_tree.specs.declared.syntax.RecordKind.TheVariants as kinds
use Rattle.c_tree.specs.declared.typed.CType.{CType}
use Rattle.c_tree.specs.declared.typed.CType.TheVariants as types
use Rattle.c_tree.specs.declared.typed.Expr.{Expr}
use Rattle.c_tree.specs.declared.typed.ExprKind.TheVariants as exprs
use Rattle.c_tree.specs.declared.typed.Member.{Member}
use Rattle.c_tree.specs.declared.typed.Typed.{Typed}
use Rattle.c_tree.specs.declared.typed.VarDef.{VarDef}
use Rattle.c_tree.proofs.Aligned.{IsPower, extent_aligned}
use Rattle.c_tree.proofs.Forest.{forest_reads}
use Rattle.typing_laws.proofs.Sound.{well_typed}
use Rattle.cheri_c_sem.specs.Expressions as meant
use Rattle.cheri_c_sem.specs.Expressions.{bare_type}
use Rattle.cheri_c_sem.specs.Types.{align_in, align_of_extent, is_void, scalar_of, unit_of}
use Rattle.placement.proofs.Ordering.{ordered_of}
use Rattle.value_trees.specs.Nodes.{AreUsed}
use Rattle.value_trees.proofs.Nodes.{expression_is}
use Rattle.value_trees.proofs.Limits.{are_small}
use Rattle.value_trees.proofs.Records.{extent_at, deep, types_agree}
use Rattle.value_trees.proofs.Sorts.{void_at, scalar_at}
use Rattle.value_trees.proofs.Uses.{are_used}
use Rattle.mean_operations.specs.Answers.{IsAccess}
use Rattle.mean_run.specs.Offsets.{HasMember, IsWhole}
use Rattle.mean_run.specs.Sources.{IsFit}
use Rattle.mean_run.specs.Steps.{IsPeeled, is_kept}
use Rattle.c_mean.proofs.Roomy.{few}
use Rattle.c_mean.proofs.Sizes.{initial, operand, sized, variables, x}

-- ---- units

power_access : (k : ℕ) → IsAccess (min 16 (2 ^ k))
power_access zero = inl refl
power_access (suc zero) = inr (inl refl)
power_access (suc (suc zero)) = inr (inr (inl refl))
power_access (suc (suc (suc zero))) = inr (inr (inr (inl refl)))
power_access (suc (suc (suc (suc j)))) =
    let n : suc (suc (suc (suc j))) ≡ j + 4 = omega arith in
    let e : 2 ^ suc (suc (suc (suc j))) ≡ 2 ^ j * 16 = ap (λ z. 2 ^ z) n ∙ pow-add 2 j 4 in
    let some : 0 < 2 ^ j = pow_pos j in
    let least : min 16 (2 ^ suc (suc (suc (suc j)))) ≡ 16 = omega (arith, e, some) in
    inr (inr (inr (inr least)))

unit_access : (all : List CType) (t : ℕ) → IsAccess (unit_of (align_in all t))
unit_access all t = by (extent all t) refl
  where
    by : (o : Option Extent) → extent all t ≡ o → IsAccess (unit_of (align_of_extent o))
    by None e = inl refl
    by (Some x) e =
        let power : IsPower x.align = extent_aligned _ all t x e in
        subst (λ z. IsAccess (unit_of z)) (sym power.1) (power_access power.0)

-- ---- tags

abbrev tag_of : Ty → Option ℕ
tag_of (Tagged n) = Some n
tag_of (Const t) = tag_of t
tag_of t = None

bare_tag : (t : Ty) (n : ℕ) → ty.bare t ≡ Tagged n → tag_of t ≡ Some n
bare_tag (Tagged m) n e = ap tag_of e
bare_tag (Const t) n e = ap tag_of e
bare_tag t n e = absurd cc

kept_void : (old new : Option CType) → is_void new ≡ true → is_kept old new ≡ true
kept_void old new e = rw e refl

or_true : (b : Bool) → (b || true) ≡ true
or_true true = refl
or_true false = refl

kept_scalar : (old new : Option CType) → is_some (scalar_of old) ≡ true → is_some (scalar_of new) ≡ true →
    is_kept old new ≡ true
kept_scalar old new e f = rw (e, f) (or_true (is_void new))

module _ (p : Typed) (o : IsOrdered p) (q : Program) (shows : Shows p q) where
  abbrev ts : List Ty
  ts = types_of p.types

  abbrev struct_of : List Member → Tag
  struct_of ms = record { kind = kinds.Struct; members = Some (map (member_of ts) ms) }

  abbrev union_of : List Member → Tag
  union_of ms = record { kind = kinds.Union; members = Some (map (member_of ts) ms) }

  listed : (ms : List Member) (g : Tag) (ls : List (Span × Ty)) → g.members ≡ Some (map (member_of ts) ms) →
      g.members ≡ Some ls → length ms ≡ length ls
  listed ms g ls e f =
      sym (length-map ms (member_of ts)) ∙ ap length (same_Some (map (member_of ts) ms) ls (sym e ∙ f))

  -- as many members as the type's tag has
  tag_members : (d t : ℕ) → t < d → t < length p.types → (tag : ℕ) → tag_of (type_in p t) ≡ Some tag → (g : Tag) →
      slice_get q.tags tag ≡ Some g → (ls : List (Span × Ty)) → g.members ≡ Some ls →
      length (members_of (bare_within d p.types t)) ≡ length ls
  unfolding bare_within
  tag_members zero t lt there tag e g i ls f = absurd (omega (arith, lt))
  tag_members (suc d) t lt there tag e g i ls f =
      let c = get_or p.types t types.Void in
      let h = slice_get-get_or p.types t types.Void there in
      let r = forest_reads type_from ty.Void p.types t c h in
      ap (λ z. length (members_of (bare_of z (bare_within d p.types)))) h
      ∙ by c h (λ j. get_or r.seen j ty.Void) r.before
      (λ u l. tag_members d u (omega (arith, lt, l)) (omega (arith, there, l))) (sym (ap tag_of r.is) ∙ e)
    where
      found : (n : ℕ) (x : Tag) → n ≡ tag → slice_get q.tags n ≡ Some x → x.members ≡ Some ls
      found n x a b = let same : x ≡ g = same_Some x g (sym b ∙ ap (slice_get q.tags) a ∙ i) in
          ap (λ (z : Tag). z.members) same ∙ f

      by : (c : CType) → slice_get p.types t ≡ Some c → (go : ℕ → Ty) → ((j : ℕ) → j < t → go j ≡ type_in p j) →
          ((u : ℕ) → u < t → (tag : ℕ) → tag_of (type_in p u) ≡ Some tag → (g : Tag) →
          slice_get q.tags tag ≡ Some g → (ls : List (Span × Ty)) → g.members ≡ Some ls →
          length (members_of (bare_within d p.types u)) ≡ length ls)
          → tag_of (type_from c go) ≡ Some tag →
          length (members_of (bare_of (Some c) (bare_within d p.types))) ≡ length ls
      by (types.Struct n ms) h go b k a =
          listed ms (struct_of ms) ls refl
          (found n (struct_of ms) (same_Some n tag a) (shows.tags t (types.Struct n ms) h))
      by (types.Union n ms) h go b k a =
          listed ms (union_of ms) ls refl
          (found n (union_of ms) (same_Some n tag a) (shows.tags t (types.Union n ms) h))
      by (types.Incomplete n) h go b k a =
          let at = shows.tags t (types.Incomplete n) h in
          let none : Some ls ≡ None = sym (found n at.0 (same_Some n tag a) at.1) ∙ at.2 in
          absurd cc
      by (types.Const u) h go b k a =
          let l = o.types t (types.Const u) h in
          k u l tag (ap tag_of (sym (b u l)) ∙ a) g i ls f
      by c h go b k a = absurd cc

  const_extent : (d : ℕ) (t : Ty) → tree_extent (suc d) q.tags (Const t) ≡ tree_extent d q.tags t
  unfolding tree_extent
  const_extent d t = refl

  bare_extent : (t u : ℕ) (s : Ty) → type_in p t ≡ s → type_in p u ≡ ty.bare s → extent p.types t ≡ extent p.types u
  bare_extent t u (Const s) e f =
      let z : length p.types + 1 ≡ suc (length p.types + 0) = omega arith in
      extent_at p o q shows 1 t ∙ ap (deep p o q shows 1) e ∙ ap (λ d. tree_extent d q.tags (Const s)) z
      ∙ const_extent (length p.types + 0) s ∙ sym (extent_at p o q shows 0 u ∙ ap (deep p o q shows 0) f)
  bare_extent t u s e f =
      extent_at p o q shows 0 t ∙ ap (deep p o q shows 0) (e ∙ sym f) ∙ sym (extent_at p o q shows 0 u)

  whole_of : (t tag : ℕ) → ty.bare (type_in p t) ≡ Tagged tag → IsComplete p (Tagged tag) → IsWhole p.types t
  whole_of t tag e c =
      (c.0, bare_extent t c.1.number (type_in p t) refl (c.1.is ∙ sym e) ∙ c.1.extent_is, c.1.within)

  listing : (tag : ℕ) (ms : List Member) → HasMembers p tag ms → (t : ℕ) → t < length p.types →
      tag_of (type_in p t) ≡ Some tag → length (members_of (bare p.types t)) ≡ length ms
  listing tag ms h t lt e = ⊎_elim
      (λ s. tag_members (length p.types) t lt lt tag e (struct_of ms) (shows.tags h.0 (types.Struct tag ms) s)
      (map (member_of ts) ms) refl ∙ length-map ms (member_of ts))
      (λ s. tag_members (length p.types) t lt lt tag e (union_of ms) (shows.tags h.0 (types.Union tag ms) s)
      (map (member_of ts) ms) refl ∙ length-map ms (member_of ts))
      h.1

  -- ---- nodes

  module _ (used : AreUsed p) where
    peeled : (vars : List VarDef) (k : ℕ) (e : Expr) → slice_get p.exprs k ≡ Some e → IsPeeled p vars e
    unfolding TermFits
    peeled vars k e h a i =
        let u = used k e h in
        let b = operand p o k 0 a e h (ap (λ z. slice_get (operands z) 0) i) in
        let f : Frame = record { program = p; vars = u.function.vars; gives = u.gives } in
        let z = expression_is p o k e h ∙ ap (λ z. kind_term ts z (type_in p e.of) e.pos (x p o)) i in
        let fits = (subst (TermFits f) z u.fits).1 in
        let lt = o.typed k e h in
        let old : bare_type p vars a ≡ bare p.types b.node.of =
        ap (λ (z : Option Expr). bare p.types (meant.type_of z)) b.there in
        ⊎_elim (λ v. kept_void _ _ (void_at p o e.of lt v))
        (λ s. let new = scalar_at p o e.of lt s.0 in
        let was = scalar_at p o b.node.of b.typed (ap ty.is_scalar (sym b.is) ∙ s.1) in
        kept_scalar _ _ (ap (λ z. is_some (scalar_of z)) old ∙ ap is_some was.is) (ap is_some new.is)) fits

    member : (k a n : ℕ) (e : Expr) → slice_get p.exprs k ≡ Some e → e.kind ≡ exprs.Member a n →
        HasMember p.types (meant.type_of (slice_get p.exprs a)) n
    unfolding TermFits
    member k a n e h i =
        let u = used k e h in
        let b = operand p o k 0 a e h (ap (λ z. slice_get (operands z) 0) i) in
        let f : Frame = record { program = p; vars = u.function.vars; gives = u.gives } in
        let z = expression_is p o k e h ∙ ap (λ z. kind_term ts z (type_in p e.of) e.pos (x p o)) i in
        let fits = (subst (TermFits f) z u.fits).1 in
        let tagged : ty.bare (type_in p b.node.of) ≡ Tagged fits.0 = ap ty.bare (sym b.is) ∙ fits.3 in
        let many = listing fits.0 fits.1 fits.4 b.node.of b.typed (bare_tag (type_in p b.node.of) fits.0 tagged) in
        let is : meant.type_of (slice_get p.exprs a) ≡ b.node.of = ap meant.type_of b.there in
        let within = slice_get_within fits.1 n fits.2 fits.5 in
        subst (λ t. HasMember p.types t n) (sym is) (record {
          whole = whole_of b.node.of fits.0 tagged fits.7;
          there = omega (arith, many, within);
        })

pub fit : (p : Typed) → Sound p → HasRoom p → IsFit p
fit p sound room =
    let t = sound.types.types in
    let w = well_typed p sound in
    let used = are_used p sound in
    let small = are_small p sound in
    let agree = types_agree p sound in
    record {
      order = ordered_of p w.ordered;
      peeled = peeled p w.ordered t.program t.shows used;
      members = member p w.ordered t.program t.shows used;
      sizes = sized p w.ordered used small agree;
      initials = initial p w.ordered used small agree;
      variables = λ g d h. variables p w.ordered used small agree d (w.funs g d h);
      units = unit_access p.types;
      globals = few p w room;
    }
