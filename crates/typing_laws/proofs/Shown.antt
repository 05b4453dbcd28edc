-- From the state at the end to the lists of a typed program: types and extents, the types of terms, and numbers.
use Rattle.std.proofs.Common.{◌≡◌, ℕ, zero, suc, ◌+◌, ◌<◌, ◌≤◌, true, List, [], ◌∷◌, ◌++◌, length, get_or, Some, None}
use Rattle.std.proofs.Common.{refl, sym, ap, subst, ◌∙◌, inl, inr, ◌⊎◌, arith}
use Rattle.std.specs.Prelude.{slice_get, slice_index_or, map, option_map}
use Rattle.std.proofs.lemmas.Bool.{false≢true}
use Rattle.std.proofs.lemmas.Option.{none-some, same_Some, slice_get-get_or, slice_get-map}
use Rattle.ck_base.specs.declared.positions.Pos.{Pos}
use Rattle.ck_base.specs.declared.positions.Span.{Span}
use Rattle.c_tree.specs.declared.syntax.RecordKind.TheVariants as record_kinds
use Rattle.c_tree.specs.declared.typed.CType.{CType}
use Rattle.c_tree.specs.declared.typed.CType.TheVariants as ctypes
use Rattle.c_tree.specs.declared.typed.Member.{Member}
use Rattle.c_tree.specs.declared.typed.Expr.{Expr}
use Rattle.c_tree.specs.declared.typed.ExprKind.{ExprKind}
use Rattle.c_tree.specs.declared.typed.ExprKind.TheVariants as exprs
use Rattle.c_tree.specs.declared.typed.Stmt.{Stmt}
use Rattle.c_tree.specs.declared.typed.StmtKind.{StmtKind}
use Rattle.c_tree.specs.declared.typed.StmtKind.TheVariants as stmts
use Rattle.c_tree.specs.declared.typed.Typed.{Typed}
use Rattle.c_tree.specs.Layout.{Extent, extent, size_limit}
use Rattle.c_tree.specs.Types.{Ty, Void, Int, Cap, Pointer, Array, Tagged, Function, Const, bare, is_scalar, is_tagged}
use Rattle.c_tree.specs.Terms.{Term, Terms, term, terms, no_terms, with_term, Action, Actions, action, actions}
use Rattle.c_tree.specs.Terms.{no_actions, with_action, Tag}
use Rattle.c_tree.specs.Scopes.{Part, TagState, State, type_extent}
use Rattle.c_tree.specs.TreeLayout.{tree_extent}
use Rattle.c_tree.specs.Views.{type_from, types_of, type_at, kind_term, expr_from, no_term, terms_of, term_at}
use Rattle.c_tree.specs.Views.{kind_action, stmt_from, no_action, actions_of, action_at, listed, member_of, TagAgrees}
use Rattle.c_tree.specs.Views.{Shows, operands, values, IsOrdered}
use Rattle.c_tree.specs.Views as views
use Rattle.c_tree.specs.Programs.{tag_of, member_of_tag, program_of}
use Rattle.c_tree.specs.WellTyped.{type_in, HasExtent, IsComplete, PointsToComplete, HasMembers}
use Rattle.c_tree.proofs.Forest.{forest_reads}
use Rattle.c_tree.proofs.ViewLayout.{extent_is}
use Rattle.typing_laws.proofs.Facts.{Complete, Sized, PointsTo, Inv}
use Rattle.typing_laws.proofs.Growing.{complete_there}
use Rattle.typing_laws.proofs.Numbers.{extent_within_limit}
use Rattle.typing_laws.proofs.Extents.{tree_up, type_deep, tags_mapped}

-- a program has a type at some number
abbrev pub There : Typed → Ty → Type 0
There p t = (k : ℕ) × (k < length p.types) × (type_in p k ≡ t)

module _ (p : Typed) (s : State) (o : IsOrdered p) (sh : Shows p (program_of s)) (i : Inv true s) where
  pub extent_at : (k : ℕ) → k < length p.types → (x : Extent) → type_extent s.tags (type_in p k) ≡ Some x →
      extent p.types k ≡ Some x
  unfolding program_of
  extent_at k lt x e =
      let d = type_deep s.tags i.tags (type_in p k) x e in
      let c : d.0 + length p.types ≡ length p.types + d.0 = omega arith in
      extent_is p (program_of s) o sh d.0 k lt
      ∙ subst (λ n. tree_extent n (map tag_of s.tags) (type_in p k) ≡ Some x) c
      (tree_up d.0 (length p.types) (map tag_of s.tags) (type_in p k) x d.1)

  pub has_extent : (t : Ty) → There p t → (x : Extent) → type_extent s.tags t ≡ Some x → x.size ≤ size_limit →
      HasExtent p t x
  has_extent t h x e l = record {
    number = h.0;
    there = h.1;
    is = h.2;
    extent_is = extent_at h.0 h.1 x (ap (type_extent s.tags) h.2 ∙ e);
    within = l;
  }

  pub sized_there : (t : Ty) → There p t → Sized s.tags t → IsComplete p t
  sized_there t h c = (c.0, has_extent t h c.0 c.1 c.2)

  pub scalar_sized : (t : Ty) → is_scalar t ≡ true → Sized s.tags t
  scalar_sized (Int k n) e = (_, refl, extent_within_limit s.tags i.tags (Int k n) _ tt refl)
  scalar_sized (Cap b) e = (_, refl, omega arith)
  scalar_sized (Pointer t) e = (_, refl, omega arith)
  scalar_sized t e = absurd (false≢true e)

  pub tagged_sized : (n : ℕ) → Complete s.tags (Tagged n) → Sized s.tags (Tagged n)
  tagged_sized n c =
      (c.0, c.1, extent_within_limit s.tags i.tags (Tagged n) c.0 (complete_there s.tags n c) c.1)

  -- what is read or assigned
  pub read_sized : (t : Ty) → (is_scalar t ≡ true) ⊎ (is_tagged t ≡ true) → Complete s.tags t → Sized s.tags t
  read_sized t (inl e) c = scalar_sized t e
  read_sized (Tagged n) (inr e) c = tagged_sized n c
  read_sized t (inr e) c = absurd (false≢true e)

  -- ---- the parts of types

  type_read : (k : ℕ) → k < length p.types →
      (c : CType) × (slice_get p.types k ≡ Some c) ×
      ((go : ℕ → Ty) × (type_in p k ≡ type_from c go) × ((j : ℕ) → j < k → go j ≡ type_in p j))
  type_read k lt =
      let c = get_or p.types k ctypes.Void in
      let e : slice_get p.types k ≡ Some c = slice_get-get_or p.types k ctypes.Void lt in
      let r = forest_reads type_from Void p.types k c e in
      (c, e, ((λ j. slice_index_or r.seen j Void), r.is, r.before))

  pointer_part : (k : ℕ) → k < length p.types → (c : CType) → slice_get p.types k ≡ Some c → (go : ℕ → Ty) →
      ((j : ℕ) → j < k → go j ≡ type_in p j) → (u : Ty) → type_from c go ≡ Pointer u → There p u
  pointer_part k lt (ctypes.Pointer t) e go b u q =
      let l = o.types k (ctypes.Pointer t) e in (t, omega (arith, l, lt), sym (b t l) ∙ pointer_same (go t) u q)
    where
      pointer_same : (s t : Ty) → Pointer s ≡ Pointer t → s ≡ t
      pointer_same s t e = cc
  pointer_part k lt ctypes.Void e go b u q = absurd cc
  pointer_part k lt (ctypes.Int i n) e go b u q = absurd cc
  pointer_part k lt (ctypes.Cap c) e go b u q = absurd cc
  pointer_part k lt (ctypes.Array t n) e go b u q = absurd cc
  pointer_part k lt (ctypes.Struct tag ms) e go b u q = absurd cc
  pointer_part k lt (ctypes.Union tag ms) e go b u q = absurd cc
  pointer_part k lt (ctypes.Function t ps) e go b u q = absurd cc
  pointer_part k lt (ctypes.Const t) e go b u q = absurd cc
  pointer_part k lt (ctypes.Incomplete tag) e go b u q = absurd cc

  pub pointer_there : (u : Ty) → There p (Pointer u) → There p u
  pointer_there u h = let r = type_read h.0 h.1 in pointer_part h.0 h.1 r.0 r.1 r.2.0 r.2.2 u (sym r.2.1 ∙ h.2)

  const_part : (k : ℕ) → k < length p.types → (c : CType) → slice_get p.types k ≡ Some c → (go : ℕ → Ty) →
      ((j : ℕ) → j < k → go j ≡ type_in p j) → (u : Ty) → type_from c go ≡ Const u → There p u
  const_part k lt (ctypes.Const t) e go b u q =
      let l = o.types k (ctypes.Const t) e in (t, omega (arith, l, lt), sym (b t l) ∙ const_same (go t) u q)
    where
      const_same : (s t : Ty) → Const s ≡ Const t → s ≡ t
      const_same s t e = cc
  const_part k lt ctypes.Void e go b u q = absurd cc
  const_part k lt (ctypes.Int i n) e go b u q = absurd cc
  const_part k lt (ctypes.Cap c) e go b u q = absurd cc
  const_part k lt (ctypes.Array t n) e go b u q = absurd cc
  const_part k lt (ctypes.Struct tag ms) e go b u q = absurd cc
  const_part k lt (ctypes.Union tag ms) e go b u q = absurd cc
  const_part k lt (ctypes.Function t ps) e go b u q = absurd cc
  const_part k lt (ctypes.Pointer t) e go b u q = absurd cc
  const_part k lt (ctypes.Incomplete tag) e go b u q = absurd cc

  pub bare_there : (t : Ty) → There p t → There p (bare t)
  bare_there (Const t) h = let r = type_read h.0 h.1 in const_part h.0 h.1 r.0 r.1 r.2.0 r.2.2 t (sym r.2.1 ∙ h.2)
  bare_there Void h = h
  bare_there (Int k n) h = h
  bare_there (Cap b) h = h
  bare_there (Pointer t) h = h
  bare_there (Array t n) h = h
  bare_there (Tagged n) h = h
  bare_there (Function r ps) h = h

  pub points_there : (t : Ty) → There p t → PointsTo s.tags t → PointsToComplete p t
  points_there t h c = (c.0, c.1, sized_there c.0 (pointer_there c.0 (subst (There p) c.1 h)) c.2)

  -- ---- members

  mapped_at : {A B : Type 0} (v : A → B) (xs : List A) (k : ℕ) (y : B) → slice_get (map v xs) k ≡ Some y →
      (x : A) × (slice_get xs k ≡ Some x) × (v x ≡ y)
  mapped_at v [] k y e = absurd cc
  mapped_at v (x ∷ xs) zero y e = (x, refl, same_Some (v x) y e)
  mapped_at v (x ∷ xs) (suc k) y e = mapped_at v xs k y e

  tagged_same : (m n : ℕ) → Tagged m ≡ Tagged n → m ≡ n
  tagged_same m n e = cc

  -- a member of the program, behind a member of the state
  pub record MemberThere (n k : ℕ) (u : Ty) : Type 0 where
    pub members : List Member
    pub has : HasMembers p n members
    pub member : Member
    pub there : slice_get members k ≡ Some member
    pub type : type_in p member.of ≡ u

  members_there : (n j : ℕ) (t : TagState) (ps : List Part) (k : ℕ) (m : Part) (ms : List Member) →
      slice_get s.tags n ≡ Some t → t.members ≡ Some ps → slice_get ps k ≡ Some m → (g : Tag) →
      slice_get (map tag_of s.tags) n ≡ Some g → g.members ≡ Some (map (member_of (types_of p.types)) ms) →
      HasMembers p n ms → MemberThere n k m.of
  members_there n j t ps k m ms e f h g a b c =
      let same : tag_of t ≡ g = same_Some (tag_of t) g (sym (tags_mapped s.tags n t e) ∙ a) in
      let lists : map member_of_tag ps ≡ map (member_of (types_of p.types)) ms =
      same_Some _ _ (ap Rattle.c_tree.specs.Programs.members_of_tag (sym f) ∙ ap (λ (t : Tag). t.members) same
      ∙ b) in
      let at : slice_get (map (member_of (types_of p.types)) ms) k ≡ Some (member_of_tag m) =
      ap (λ xs. slice_get xs k) (sym lists) ∙ slice_get-map member_of_tag ps k
      ∙ ap (option_map member_of_tag) h in
      let x = mapped_at (member_of (types_of p.types)) ms k (member_of_tag m) at in
      record { members = ms; has = c; member = x.0; there = x.1; type = ap (λ (y : Span × Ty). y.1) x.2 }

  by_type : (n j : ℕ) (c : CType) → slice_get p.types j ≡ Some c → (go : ℕ → Ty) → type_from c go ≡ Tagged n →
      (t : TagState) (ps : List Part) (k : ℕ) (m : Part) → slice_get s.tags n ≡ Some t → t.members ≡ Some ps →
      slice_get ps k ≡ Some m → MemberThere n k m.of
  unfolding program_of
  by_type n j (ctypes.Struct tag ms) e go q t ps k m a b c =
      let z = tagged_same tag n q in
      members_there n j t ps k m ms a b c _ (subst
      (λ n. slice_get (map tag_of s.tags) n ≡ Some
      (record { kind = record_kinds.Struct; members = Some (map (member_of (types_of p.types)) ms) })) z
      (sh.tags j (ctypes.Struct tag ms) e)) refl (j, inl (e ∙ ap (λ n. Some (ctypes.Struct n ms)) z))
  by_type n j (ctypes.Union tag ms) e go q t ps k m a b c =
      let z = tagged_same tag n q in
      members_there n j t ps k m ms a b c _ (subst
      (λ n. slice_get (map tag_of s.tags) n ≡ Some
      (record { kind = record_kinds.Union; members = Some (map (member_of (types_of p.types)) ms) })) z
      (sh.tags j (ctypes.Union tag ms) e)) refl (j, inr (e ∙ ap (λ n. Some (ctypes.Union n ms)) z))
  by_type n j (ctypes.Incomplete tag) e go q t ps k m a b c =
      let z = tagged_same tag n q in
      let w = sh.tags j (ctypes.Incomplete tag) e in
      let same : w.0 ≡ tag_of t =
      same_Some w.0 (tag_of t) (sym w.1 ∙ ap (slice_get (map tag_of s.tags)) z ∙ tags_mapped s.tags n t a) in
      absurd (none-some _ (sym w.2 ∙ ap (λ (g : Tag). g.members) same
      ∙ ap Rattle.c_tree.specs.Programs.members_of_tag b))
  by_type n j ctypes.Void e go q t ps k m a b c = absurd cc
  by_type n j (ctypes.Int i l) e go q t ps k m a b c = absurd cc
  by_type n j (ctypes.Cap d) e go q t ps k m a b c = absurd cc
  by_type n j (ctypes.Pointer u) e go q t ps k m a b c = absurd cc
  by_type n j (ctypes.Array u l) e go q t ps k m a b c = absurd cc
  by_type n j (ctypes.Function u us) e go q t ps k m a b c = absurd cc
  by_type n j (ctypes.Const u) e go q t ps k m a b c = absurd cc

  pub member_there : (n : ℕ) (t : TagState) (ps : List Part) (k : ℕ) (m : Part) → There p (Tagged n) →
      slice_get s.tags n ≡ Some t → t.members ≡ Some ps → slice_get ps k ≡ Some m → MemberThere n k m.of
  member_there n t ps k m h a b c =
      let r = type_read h.0 h.1 in by_type n h.0 r.0 r.1 r.2.0 (sym r.2.1 ∙ h.2) t ps k m a b c

-- ---- the types of terms stand in the program

abbrev mutual
  pub TermThere : Typed → Term → Type 0
  TermThere p (term n xs t q) = There p t × TermsThere p xs

  pub TermsThere : Typed → Terms → Type 0
  TermsThere p no_terms = Unit {0}
  TermsThere p (with_term x xs) = TermThere p x × TermsThere p xs

abbrev mutual
  pub ActionThere : Typed → Action → Type 0
  ActionThere p (action f xs ys q) = TermsThere p xs × ActionsThere p ys

  pub ActionsThere : Typed → Actions → Type 0
  ActionsThere p no_actions = Unit {0}
  ActionsThere p (with_action x xs) = ActionThere p x × ActionsThere p xs

list_there : (p : Typed) (go : ℕ → Term) (xs : List ℕ) → ((j a : ℕ) → slice_get xs j ≡ Some a → TermThere p (go a)) →
    TermsThere p (terms (map go xs))
list_there p go [] f = tt
list_there p go (x ∷ xs) f = (f 0 x refl, list_there p go xs (λ j a e. f (suc j) a e))

kind_there : (p : Typed) (ts : List Ty) (k : ExprKind) (t : Ty) (q : Pos) (go : ℕ → Term) → There p t →
    ((j a : ℕ) → slice_get (operands k) j ≡ Some a → TermThere p (go a)) → TermThere p (kind_term ts k t q go)
kind_there p ts (exprs.Constant n) t q go h f = (h, tt)
kind_there p ts (exprs.Literal k) t q go h f = (h, tt)
kind_there p ts (exprs.Var k) t q go h f = (h, tt)
kind_there p ts (exprs.Global k) t q go h f = (h, tt)
kind_there p ts (exprs.Fun k) t q go h f = (h, tt)
kind_there p ts (exprs.Load a) t q go h f = (h, (f 0 a refl, tt))
kind_there p ts (exprs.Decay a) t q go h f = (h, (f 0 a refl, tt))
kind_there p ts (exprs.Deref a) t q go h f = (h, (f 0 a refl, tt))
kind_there p ts (exprs.Member a k) t q go h f = (h, (f 0 a refl, tt))
kind_there p ts (exprs.Address a) t q go h f = (h, (f 0 a refl, tt))
kind_there p ts (exprs.Convert a) t q go h f = (h, (f 0 a refl, tt))
kind_there p ts (exprs.Unary o a) t q go h f = (h, (f 0 a refl, tt))
kind_there p ts (exprs.Int o a b) t q go h f = (h, (f 0 a refl, (f 1 b refl, tt)))
kind_there p ts (exprs.Capability o a b r) t q go h f = (h, (f 0 a refl, (f 1 b refl, tt)))
kind_there p ts (exprs.Plus a b m) t q go h f = (h, (f 0 a refl, (f 1 b refl, tt)))
kind_there p ts (exprs.Difference a b) t q go h f = (h, (f 0 a refl, (f 1 b refl, tt)))
kind_there p ts (exprs.Compare o a b) t q go h f = (h, (f 0 a refl, (f 1 b refl, tt)))
kind_there p ts (exprs.And a b) t q go h f = (h, (f 0 a refl, (f 1 b refl, tt)))
kind_there p ts (exprs.Or a b) t q go h f = (h, (f 0 a refl, (f 1 b refl, tt)))
kind_there p ts (exprs.Conditional a b c) t q go h f = (h, (f 0 a refl, (f 1 b refl, (f 2 c refl, tt))))
kind_there p ts (exprs.Comma a b) t q go h f = (h, (f 0 a refl, (f 1 b refl, tt)))
kind_there p ts (exprs.Assign a b) t q go h f = (h, (f 0 a refl, (f 1 b refl, tt)))
kind_there p ts (exprs.Compound o a b of) t q go h f = (h, (f 0 a refl, (f 1 b refl, tt)))
kind_there p ts (exprs.Step a adds in_front) t q go h f = (h, (f 0 a refl, tt))
kind_there p ts (exprs.Call g xs) t q go h f = (h, (f 0 g refl, list_there p go xs (λ j a e. f (suc j) a e)))
kind_there p ts (exprs.Library k xs) t q go h f = (h, list_there p go xs f)

module _ (p : Typed) (o : IsOrdered p) where
  below_there : (n k : ℕ) → k < n → k < length p.exprs → TermThere p (get_or (terms_of p) k no_term)
  below_there zero k l m = absurd (omega (arith, l))
  below_there (suc n) k l m =
      let c : Expr = get_or p.exprs k (record { kind = exprs.Constant 0; of = 0; pos = record { line = 0; col = 0 } })
      in
      let e : slice_get p.exprs k ≡ Some c = slice_get-get_or p.exprs k _ m in
      let r = forest_reads (expr_from (types_of p.types)) no_term p.exprs k c e in
      subst (TermThere p) (sym r.is)
      (kind_there p (types_of p.types) c.kind (type_in p c.of) c.pos (λ j. get_or r.seen j no_term)
      (c.of, o.typed k c e, refl)
      (λ j a q. let lt = o.operands_before k j a c e q in
      subst (TermThere p) (sym (r.before a lt)) (below_there n a (omega (arith, lt, l)) (omega (arith, lt, m)))))

  pub term_there : (k : ℕ) → k < length p.exprs → TermThere p (term_at (terms_of p) k)
  term_there k m = below_there (suc k) k (omega arith) m

  acts_there : (go : ℕ → Action) (xs : List ℕ) → ((j a : ℕ) → slice_get xs j ≡ Some a → ActionThere p (go a)) →
      ActionsThere p (actions (map go xs))
  acts_there go [] f = tt
  acts_there go (x ∷ xs) f = (f 0 x refl, acts_there go xs (λ j a e. f (suc j) a e))

  both_there : (xs ys : List Action) → ActionsThere p (actions xs) → ActionsThere p (actions ys) →
      ActionsThere p (actions (xs ++ ys))
  both_there [] ys h k = k
  both_there (x ∷ xs) ys h k = (h.0, both_there xs ys h.1 k)

  part_later : (xs : List ℕ) (y j a : ℕ) → slice_get xs j ≡ Some a → slice_get (xs ++ y ∷ []) j ≡ Some a
  part_later [] y j a e = absurd cc
  part_later (x ∷ xs) y zero a e = e
  part_later (x ∷ xs) y (suc j) a e = part_later xs y j a e

  part_last : (xs : List ℕ) (y : ℕ) → slice_get (xs ++ y ∷ []) (length xs) ≡ Some y
  part_last [] y = refl
  part_last (x ∷ xs) y = part_last xs y

  form_there : (k : StmtKind) (q : Pos) (go : ℕ → Action) →
      ((j a : ℕ) → slice_get (values k) j ≡ Some a → a < length p.exprs) →
      ((j a : ℕ) → slice_get (views.parts k) j ≡ Some a → ActionThere p (go a)) →
      ActionThere p (kind_action (terms_of p) k q go)
  form_there (stmts.Expr a) q go f g = ((term_there a (f 0 a refl), tt), tt)
  form_there (stmts.Init var offset a) q go f g = ((term_there a (f 0 a refl), tt), tt)
  form_there (stmts.Block vars body) q go f g = (tt, acts_there go body g)
  form_there (stmts.If a x None) q go f g = ((term_there a (f 0 a refl), tt), (g 0 x refl, tt))
  form_there (stmts.If a x (Some y)) q go f g = ((term_there a (f 0 a refl), tt), (g 0 x refl, (g 1 y refl, tt)))
  form_there (stmts.While a x) q go f g = ((term_there a (f 0 a refl), tt), (g 0 x refl, tt))
  form_there (stmts.Do x a) q go f g = ((term_there a (f 0 a refl), tt), (g 0 x refl, tt))
  form_there (stmts.For vars first None None x) q go f g = (
    tt,
    both_there (map go first) (go x ∷ []) (acts_there go first (λ j a e. g j a (part_later first x j a e)))
        (g (length first) x (part_last first x), tt),
  )
  form_there (stmts.For vars first (Some a) None x) q go f g = (
    (term_there a (f 0 a refl), tt),
    both_there (map go first) (go x ∷ []) (acts_there go first (λ j a e. g j a (part_later first x j a e)))
        (g (length first) x (part_last first x), tt),
  )
  form_there (stmts.For vars first None (Some b) x) q go f g = (
    (term_there b (f 0 b refl), tt),
    both_there (map go first) (go x ∷ []) (acts_there go first (λ j a e. g j a (part_later first x j a e)))
        (g (length first) x (part_last first x), tt),
  )
  form_there (stmts.For vars first (Some a) (Some b) x) q go f g = (
    (term_there a (f 0 a refl), (term_there b (f 1 b refl), tt)),
    both_there (map go first) (go x ∷ []) (acts_there go first (λ j a e. g j a (part_later first x j a e)))
        (g (length first) x (part_last first x), tt),
  )
  form_there (stmts.Switch a vars labels body) q go f g = ((term_there a (f 0 a refl), tt), acts_there go body g)
  form_there stmts.Break q go f g = (tt, tt)
  form_there stmts.Continue q go f g = (tt, tt)
  form_there (stmts.Return None) q go f g = (tt, tt)
  form_there (stmts.Return (Some a)) q go f g = ((term_there a (f 0 a refl), tt), tt)
  form_there stmts.Empty q go f g = (tt, tt)

  below_acts : (n k : ℕ) → k < n → k < length p.stmts → ActionThere p (get_or (actions_of p) k no_action)
  below_acts zero k l m = absurd (omega (arith, l))
  below_acts (suc n) k l m =
      let c : Stmt = get_or p.stmts k (record { kind = stmts.Empty; pos = record { line = 0; col = 0 } }) in
      let e : slice_get p.stmts k ≡ Some c = slice_get-get_or p.stmts k _ m in
      let r = forest_reads (stmt_from (terms_of p)) no_action p.stmts k c e in
      subst (ActionThere p) (sym r.is)
      (form_there c.kind c.pos (λ j. get_or r.seen j no_action) (λ j a q. o.values_there k j a c e q)
      (λ j a q. let lt = o.parts_before k j a c e q in
      subst (ActionThere p) (sym (r.before a lt)) (below_acts n a (omega (arith, lt, l)) (omega (arith, lt, m)))))

  pub action_there : (k : ℕ) → k < length p.stmts → ActionThere p (action_at (actions_of p) k)
  action_there k m = below_acts (suc k) k (omega arith) m
