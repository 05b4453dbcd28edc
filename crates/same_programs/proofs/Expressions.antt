-- The tree of an expression is that of the term that it stands for.
use Rattle.std.proofs.Common.{◌≡◌, ℕ, zero, suc, ◌+◌, ◌<◌, ◌≤◌, Bool, true, false, cond, List, [], ◌∷◌, length, map}
use Rattle.std.proofs.Common.{get_or, Option, Some, None, refl, sym, ap, subst, ◌∙◌, arith, ◌⊎◌, inl, inr}
use Rattle.std.proofs.Common.{if◌then◌else◌, ⊎_elim, ◌++◌, length-append}
use Rattle.std.specs.Prelude.{slice_get, slice_index_or, not}
use Rattle.std.specs.List.{AllByRecursion}
use Rattle.std.proofs.lemmas.Bool.{false≢true, cases_lt}
use Rattle.std.proofs.lemmas.List.{get_or_past}
use Rattle.std.proofs.lemmas.Option.{slice_get-get_or, slice_get_past, none-some}
use Rattle.ck_base.specs.declared.positions.Pos.{Pos}
use Rattle.c_tree.specs.Layout.{bare, bare_within}
use Rattle.c_tree.specs.declared.typed.CType.{CType}
use Rattle.c_tree.specs.declared.typed.CType.TheVariants as ctypes
use Rattle.c_tree.specs.declared.typed.Expr.{Expr}
use Rattle.c_tree.specs.declared.typed.ExprKind.{ExprKind}
use Rattle.c_tree.specs.declared.typed.ExprKind.TheVariants as exprs
use Rattle.c_tree.specs.declared.typed.FunDef.{FunDef}
use Rattle.c_tree.specs.declared.typed.GlobalDef.{GlobalDef}
use Rattle.c_tree.specs.declared.typed.Typed.{Typed}
use Rattle.c_tree.specs.declared.typed.VarDef.{VarDef}
use Rattle.c_tree.specs.Types.{Ty, Pointer}
use Rattle.c_tree.specs.Types as ty
use Rattle.c_tree.specs.Terms as tree
use Rattle.c_tree.specs.Terms.{Term, terms, Variable, Routine, Program}
use Rattle.c_tree.specs.Views.{grow, type_from, types_of, type_at, kind_term, terms_of, term_at, actions_of, operands}
use Rattle.c_tree.specs.Views.{object_of}
use Rattle.c_tree.specs.Views.{variable_of, routine_of, Shows, IsOrdered}
use Rattle.cheri_c_sem.specs.Compatible.{compatible}
use Rattle.cheri_c_sem.specs.Expressions.{type_of, arguments, bare_type, kind_at, element_size, permissions_of}
use Rattle.cheri_c_sem.specs.Expressions.{variable}
use Rattle.cheri_c_sem.specs.Expressions.{narrowing_by, narrowing_of, conversion, sum, assignment, compound_by}
use Rattle.cheri_c_sem.specs.Expressions.{step_operation, step_kind, fits, kind_tree, expr_tree, constant, sign_of}
use Rattle.cheri_c_sem.specs.Expressions.{from_plain}
use Rattle.cheri_c_sem.specs.Kinds.{Kind, Plain, Capability, int_kind}
use Rattle.cap_ops.specs.Permissions.{const_permissions}
use Rattle.ck_int.specs.declared.kinds.IntKind.TheVariants as int
use Rattle.cheri_c_sem.specs.Order.{IsAfterOperands}
use Rattle.cheri_c_sem.specs.Tree as meant
use Rattle.cheri_c_sem.specs.Tree.{Ex, Cons, Whole, Moved}
use Rattle.ck_int.specs.declared.kinds.IntOp.{IntOp}
use Rattle.cheri_c_sem.specs.Types.{align_in, unit_of, service_of, is_plain, derived}
use Rattle.cheri_c_sem.specs.Types.{takes_away, kind_or_int, offset_in}
use Rattle.cheri_c_sem.specs.Types.{size_in, kind_of, is_simple, objects_before, pointee_of, narrowing_to, is_pointer}
use Rattle.cheri_c_sem.proofs.Unfold.{expression_node}
use Rattle.same_programs.specs.Points.{PointsTo, TermPoints, TermsPoint}
use Rattle.same_programs.specs.Trees.{is_tree_simple, tree_objects_before, pointee, tree_permissions, element}
use Rattle.same_programs.specs.Trees.{narrowing}
use Rattle.same_programs.specs.Trees.{tree_assignment, tree_conversion, tree_compound}
use Rattle.same_programs.specs.Trees.{tree_step}
use Rattle.same_programs.specs.Trees.{stepped_kind}
use Rattle.same_programs.specs.Trees.{tree_sum, tree_fits, variable_ex, term_ex, terms_ex}
use Rattle.same_programs.specs.Types.{peeled, tree_kind, tree_size, tree_agree, is_tree_pointer, tree_align}
use Rattle.same_programs.specs.Types.{is_tree_record, is_tree_plain, tree_scalar, tree_offset}
use Rattle.same_programs.proofs.Agreeing.{compatible_is}
use Rattle.same_programs.proofs.Needs.{map_over, mapped_length}
use Rattle.same_programs.proofs.Nodes.{term_is}
use Rattle.same_programs.proofs.Offsets.{offset_is, const_is}
use Rattle.same_programs.proofs.Order.{ordered_of}
use Rattle.same_programs.proofs.Types.{kind_is, plain_is, signed_is, pointer_is, record_is, size_is}
use Rattle.same_programs.proofs.Types.{align_is, pointee_at, bare_is}

-- ---- variables

module _ (ts : List Ty) where
  pub simple_is : (vs : List VarDef) (x : ℕ) →
      is_simple (slice_get vs x) ≡ is_tree_simple (slice_get (map (variable_of ts) vs) x)
  simple_is [] x = refl
  simple_is (v ∷ vs) zero = refl
  simple_is (v ∷ vs) (suc x) = simple_is vs x

  pub objects_are : (vs : List VarDef) (x : ℕ) → objects_before vs x ≡ tree_objects_before (map (variable_of ts) vs) x
  objects_are [] x = refl
  objects_are (v ∷ vs) zero = refl
  objects_are (v ∷ vs) (suc x) = ap (λ n. (if v.simple then 0 else 1) + n) (objects_are vs x)

grown_length : {N T : Type 0} (make : N → (ℕ → T) → T) (bad : T) (ns : List N) (xs : List T) →
    length (grow make bad ns xs) ≡ length xs + length ns
unfolding grow
grown_length make bad [] xs = omega arith
grown_length make bad (n ∷ ns) xs =
    let v = make n (λ k. slice_index_or xs k bad) in
    omega (arith, grown_length make bad ns (xs ++ v ∷ []), length-append xs (v ∷ []))

types_length : (cs : List CType) → length (types_of cs) ≡ length cs
types_length cs = omega (arith, grown_length type_from ty.Void cs [])

points_of : (t : Ty) → is_tree_pointer t ≡ true → (u : Ty) × (t ≡ Pointer u)
points_of (Pointer u) h = (u, refl)
points_of t h = absurd (false≢true h)

module _ (p : Typed) (o : IsOrdered p) (q : Program) (s : Shows p q) (d : ℕ) (deep : length p.types ≤ d)
    (vs : List VarDef) where
  abbrev ts : List Ty
  ts = types_of p.types

  abbrev vars : List Variable
  vars = map (variable_of ts) vs

  abbrev go : ℕ → Term
  go = term_at (terms_of p)

  abbrev ex : ℕ → Ex
  ex = expr_tree p vs

  -- ---- the types of operands

  record Operand (a : ℕ) : Type 0 where
    pub node : Expr
    pub there : slice_get p.exprs a ≡ Some node
    pub low : node.of < length p.types
    pub number : type_of (slice_get p.exprs a) ≡ node.of
    pub type : tree.type_of (go a) ≡ type_at ts node.of

  type_level : (kind : ExprKind) (t : Ty) (pos : Pos) → tree.type_of (kind_term ts kind t pos go) ≡ t
  type_level (exprs.Constant n) t pos = refl
  type_level kind t pos = refl

  operand : (a : ℕ) → a < length p.exprs → Operand a
  operand a lt =
      let none : Expr = record { kind = exprs.Constant 0; of = 0; pos = record { line = 0; col = 0 } } in
      let e = get_or p.exprs a none in
      let g : slice_get p.exprs a ≡ Some e = slice_get-get_or p.exprs a none lt in
      record {
        node = e;
        there = g;
        low = o.typed a e g;
        number = ap type_of g;
        type = ap tree.type_of (term_is p o a e g) ∙ type_level e.kind (type_at ts e.of) e.pos;
      }

  pub operand_type : (a : ℕ) → a < length p.exprs → (type_of (slice_get p.exprs a) < length p.types) ×
      (tree.type_of (go a) ≡ type_at ts (type_of (slice_get p.exprs a)))
  operand_type a lt = let n = operand a lt in rw n.number (n.low, n.type)

  -- what holds of the numbers of all types holds of those of operands
  over : {A : Type 0} (f : ℕ → A) (g : Ty → A) → ((t : ℕ) → t < length p.types → f t ≡ g (type_at ts t)) → (a : ℕ) →
      a < length p.exprs → f (type_of (slice_get p.exprs a)) ≡ g (tree.type_of (go a))
  over f g h a lt = let n = operand a lt in ap f n.number ∙ h n.node.of n.low ∙ ap g (sym n.type)

  pub kind_at_is : (a : ℕ) → a < length p.exprs → kind_at p vs a ≡ tree_kind (tree.type_of (go a))
  kind_at_is = over (λ t. kind_of (bare p.types t)) tree_kind (kind_is p o)

  -- what an operand points to
  points_at : (a : ℕ) (u : Ty) → a < length p.exprs → peeled (tree.type_of (go a)) ≡ Pointer u →
      (pointee_of (bare_type p vs a) < length p.types) × (type_at ts (pointee_of (bare_type p vs a)) ≡ u)
  points_at a u lt h =
      let n = operand a lt in
      let z = pointee_at p o n.node.of u n.low (ap peeled (sym n.type) ∙ h) in
      let i : pointee_of (bare_type p vs a) ≡ z.number = ap (λ t. pointee_of (bare p.types t)) n.number
      ∙ ap pointee_of z.is in
      rw i (z.there, z.tree)

  element_is : (a : ℕ) → a < length p.exprs → PointsTo (tree.type_of (go a)) →
      element_size p vs a ≡ element d q (tree.type_of (go a))
  element_is a lt h =
      let z = points_at a h.0 lt h.1 in
      size_is p o q s d deep (pointee_of (bare_type p vs a)) z.0 ∙ ap (tree_size d q.tags) z.1
      ∙ ap (λ t. tree_size d q.tags (pointee t)) (sym h.1)

  fits_are : (a : ℕ) → a < length p.exprs → PointsTo (tree.type_of (go a)) →
      fits p vs (pointee_of (bare_type p vs a)) ≡ tree_fits d q (pointee (peeled (tree.type_of (go a))))
  fits_are a lt h =
      let z = points_at a h.0 lt h.1 in
      let t = pointee_of (bare_type p vs a) in
      map_over (λ (f : FunDef). compatible p.types t f.of) (λ (r : Routine). tree_agree d false (type_at ts t) r.of)
      (routine_of ts (actions_of p)) p.funs (λ k f e. compatible_is p o q s d deep t f.of z.0 (o.funs k f e).0)
      ∙ ap (map (λ (r : Routine). tree_agree d false (type_at ts t) r.of)) s.routines
      ∙ ap (tree_fits d q) (z.1 ∙ ap pointee (sym h.1))

  narrowing_level : (kind : ExprKind) (t : ℕ) (pos : Pos) → t < length p.types →
      narrowing_by p vs kind t ≡ narrowing d q (kind_term ts kind (type_at ts t) pos go)
  narrowing_level (exprs.Member a m) t pos lt = ap (λ n. Some (narrowing_to n)) (size_is p o q s d deep t lt)
  narrowing_level kind t pos lt = refl

  narrowing_is : (a : ℕ) → a < length p.exprs → narrowing_of p vs (slice_get p.exprs a) ≡ narrowing d q (go a)
  narrowing_is a lt =
      let n = operand a lt in
      ap (narrowing_of p vs) n.there ∙ narrowing_level n.node.kind n.node.of n.node.pos n.low
      ∙ ap (narrowing d q) (sym (term_is p o a n.node n.there))

  -- ---- names

  variable_is : (pos : Pos) (x : ℕ) → variable p vs pos x ≡ variable_ex d q vars pos x
  variable_is pos x =
      ap (λ b. cond b (meant.Variable pos x) (meant.Local pos (objects_before vs x))) (simple_is ts vs x)
      ∙ ap (λ n. cond (is_tree_simple (slice_get vars x)) (meant.Variable pos x) (meant.Local pos n))
      (objects_are ts vs x)

  pub permissions_are : (k : ℕ) → permissions_of p vs (slice_get p.globals k) ≡ tree_permissions (slice_get q.objects k)
  permissions_are k = by p.globals k o.globals ∙ ap (λ gs. tree_permissions (slice_get gs k)) s.objects
    where
      by : (gs : List GlobalDef) (k : ℕ) →
          ((j : ℕ) (g : GlobalDef) → slice_get gs j ≡ Some g → g.of < length p.types) →
          permissions_of p vs (slice_get gs k) ≡ tree_permissions (slice_get (map (object_of ts) gs) k)
      by [] k h = refl
      by (g ∷ gs) zero h = let c = const_is p o g.of (h 0 g refl) in rw c refl
      by (g ∷ gs) (suc k) h = by gs k (λ j. h (suc j))

  -- ---- one node

  sum_is : (pos : Pos) (minus : Bool) (a b : ℕ) (x y : Ex) → a < length p.exprs → b < length p.exprs →
      PointsTo (tree.type_of (go a)) ⊎ PointsTo (tree.type_of (go b)) →
      sum p vs pos minus a b x y ≡ tree_sum d q pos minus (tree.type_of (go a)) (tree.type_of (go b)) x y
  sum_is pos minus a b x y la lb h =
      by (is_tree_pointer (peeled (tree.type_of (go a)))) refl
    where
      test : is_pointer (bare_type p vs a) ≡ is_tree_pointer (peeled (tree.type_of (go a)))
      test = over (λ t. is_pointer (bare p.types t)) (λ t. is_tree_pointer (peeled t)) (pointer_is p o) a la

      other : is_tree_pointer (peeled (tree.type_of (go a))) ≡ false →
          PointsTo (tree.type_of (go a)) ⊎ PointsTo (tree.type_of (go b)) → PointsTo (tree.type_of (go b))
      other f (inl z) = absurd (false≢true (sym f ∙ ap is_tree_pointer z.1))
      other f (inr z) = z

      by : (c : Bool) → is_tree_pointer (peeled (tree.type_of (go a))) ≡ c →
          sum p vs pos minus a b x y ≡ tree_sum d q pos minus (tree.type_of (go a)) (tree.type_of (go b)) x y
      by true e =
          let n = element_is a la (points_of (peeled (tree.type_of (go a))) e) in
          let k = kind_at_is b lb in
          ap (λ c. cond c (meant.Binary pos (Moved (element_size p vs a) minus false (kind_at p vs b)) x y)
          (meant.Binary pos (Moved (element_size p vs b) minus true (kind_at p vs a)) x y)) (test ∙ e)
          ∙ ap (λ m. meant.Binary pos (Moved m minus false (kind_at p vs b)) x y) n
          ∙ ap (λ m. meant.Binary pos (Moved (element d q (tree.type_of (go a))) minus false m) x y) k
          ∙ sym (ap (λ c. cond c
          (meant.Binary pos (Moved (element d q (tree.type_of (go a))) minus false (tree_kind (tree.type_of (go b))))
          x y)
          (meant.Binary pos (Moved (element d q (tree.type_of (go b))) minus true (tree_kind (tree.type_of (go a))))
          x y)) e)
      by false e =
          let n = element_is b lb (other e h) in
          let k = kind_at_is a la in
          ap (λ c. cond c (meant.Binary pos (Moved (element_size p vs a) minus false (kind_at p vs b)) x y)
          (meant.Binary pos (Moved (element_size p vs b) minus true (kind_at p vs a)) x y)) (test ∙ e)
          ∙ ap (λ m. meant.Binary pos (Moved m minus true (kind_at p vs a)) x y) n
          ∙ ap (λ m. meant.Binary pos (Moved (element d q (tree.type_of (go b))) minus true m) x y) k
          ∙ sym (ap (λ c. cond c
          (meant.Binary pos (Moved (element d q (tree.type_of (go a))) minus false (tree_kind (tree.type_of (go b))))
          x y)
          (meant.Binary pos (Moved (element d q (tree.type_of (go b))) minus true (tree_kind (tree.type_of (go a))))
          x y)) e)

  assignment_is : (pos : Pos) (t a : ℕ) (x y : Ex) → t < length p.types → a < length p.exprs →
      assignment p vs pos t a x y ≡ tree_assignment d q pos (type_at ts t) (tree.type_of (go a)) x y
  assignment_is pos t a x y lt la =
      let r = record_is p o q s t lt in
      let n = size_is p o q s d deep t lt in
      let m = align_is p o q s d deep t lt in
      let k = kind_at_is a la in
      ap (λ c. cond c (meant.Copy pos (size_in p.types t) (unit_of (align_in p.types t)) x y)
      (meant.Assign (kind_at p vs a) x y)) r
      ∙ ap (λ c. cond (is_tree_record q.tags (peeled (type_at ts t)))
      (meant.Copy pos c (unit_of (align_in p.types t)) x y)
      (meant.Assign (kind_at p vs a) x y)) n
      ∙ ap (λ c. cond (is_tree_record q.tags (peeled (type_at ts t)))
      (meant.Copy pos (tree_size d q.tags (type_at ts t)) (unit_of c) x y) (meant.Assign (kind_at p vs a) x y)) m
      ∙ ap (λ c. cond (is_tree_record q.tags (peeled (type_at ts t)))
      (meant.Copy pos (tree_size d q.tags (type_at ts t)) (unit_of (tree_align d q.tags (type_at ts t))) x y)
      (meant.Assign c x y)) k

  conversion_level : (pos : Pos) (e : Ex) (g : ℕ → Ty) (c c' : CType) →
      conversion p vs pos (Some c) (Some c') e ≡ tree_conversion pos (type_from c g) (type_from c' g) e
  conversion_level pos e g ctypes.Void ctypes.Void = refl
  conversion_level pos e g (ctypes.Int k n) (ctypes.Int k' n') = refl
  conversion_level pos e g (ctypes.Cap b) (ctypes.Cap b') = refl
  conversion_level pos e g (ctypes.Pointer t) (ctypes.Pointer t') = refl
  conversion_level pos e g (ctypes.Array t n) (ctypes.Array t' n') = refl
  conversion_level pos e g (ctypes.Struct t ms) (ctypes.Struct t' ms') = refl
  conversion_level pos e g (ctypes.Union t ms) (ctypes.Union t' ms') = refl
  conversion_level pos e g (ctypes.Function t ps) (ctypes.Function t' ps') = refl
  conversion_level pos e g (ctypes.Const t) (ctypes.Const t') = refl
  conversion_level pos e g (ctypes.Incomplete t) (ctypes.Incomplete t') = refl
  conversion_level pos e g c c' = refl

  conversion_is : (pos : Pos) (a t : ℕ) (e : Ex) → a < length p.exprs → t < length p.types →
      conversion p vs pos (bare_type p vs a) (bare p.types t) e
      ≡ tree_conversion pos (peeled (tree.type_of (go a))) (peeled (type_at ts t)) e
  conversion_is pos a t e la lt =
      let n = operand a la in
      let b = bare_is p o n.node.of n.low in
      let c = bare_is p o t lt in
      ap (λ x. conversion p vs pos (bare p.types x) (bare p.types t) e) n.number
      ∙ ap (λ x. conversion p vs pos x (bare p.types t) e) b.is ∙ ap (λ x. conversion p vs pos (Some b.type) x e) c.is
      ∙ conversion_level pos e (type_at ts) b.type c.type
      ∙ ap (λ x. tree_conversion pos x (type_from c.type (type_at ts)) e) (sym (ap peeled n.type ∙ b.tree))
      ∙ ap (λ x. tree_conversion pos (peeled (tree.type_of (go a))) x e) (sym c.tree)

  -- ---- the type in which an assignment computes, which may stand nowhere

  abbrev bare_tree : Option CType → Ty
  bare_tree None = ty.Void
  bare_tree (Some c) = type_from c (type_at ts)

  record Computed (of : ℕ) : Type 0 where
    pub type : Option CType
    pub is : bare p.types of ≡ type
    pub tree : peeled (type_at ts of) ≡ bare_tree type
    pub low : (t : ℕ) → type ≡ Some (ctypes.Pointer t) → t < length p.types

  computed : (of : ℕ) → Computed of
  unfolding bare_within peeled
  computed of = ⊎_elim there past (cases_lt of (length p.types))
    where
      there : of < length p.types → Computed of
      there lt =
          let b = bare_is p o of lt in
          let low : (t : ℕ) → b.type ≡ ctypes.Pointer t → t < length p.types =
          λ t e. let z : t < b.number = o.types b.number (ctypes.Pointer t) (b.there ∙ ap Some e) in
          omega (arith, b.no_later) in
          record { type = Some b.type; is = b.is; tree = b.tree; low = λ t e. low t cc }

      none_there : (n : ℕ) → length p.types ≤ of → bare_within n p.types of ≡ None
      none_there zero le = refl
      none_there (suc n) le = rw (slice_get_past p.types of le) refl

      past : length p.types ≤ of → Computed of
      past le =
          let e : type_at ts of ≡ ty.Void = get_or_past ts of ty.Void (omega (arith, le, types_length p.types)) in
          record {
            type = None;
            is = none_there (length p.types) le;
            tree = ap peeled e;
            low = λ t f. absurd (none-some (ctypes.Pointer t) f);
          }

  compound_is : (op : IntOp) (of a b : ℕ) (y : Ex) → a < length p.exprs → b < length p.exprs →
      compound_by p vs op (bare p.types of) a b y
      ≡ tree_compound d q op (peeled (type_at ts of)) (tree.type_of (go a)) (tree.type_of (go b)) y
  compound_is op of a b y la lb =
      let c = computed of in
      ap (λ x. compound_by p vs op x a b y) c.is ∙ by c.type c.low
      ∙ ap (λ x. tree_compound d q op x (tree.type_of (go a)) (tree.type_of (go b)) y) (sym c.tree)
    where
      kind : kind_at p vs b ≡ tree_kind (tree.type_of (go b))
      kind = kind_at_is b lb

      plain : (a : ℕ) → a < length p.exprs →
          is_plain (bare_type p vs a) ≡ is_tree_plain (peeled (tree.type_of (go a)))
      plain = over (λ t. is_plain (bare p.types t)) (λ t. is_tree_plain (peeled t)) (plain_is p o)

      by : (c : Option CType) → ((t : ℕ) → c ≡ Some (ctypes.Pointer t) → t < length p.types) →
          compound_by p vs op c a b y
          ≡ tree_compound d q op (bare_tree c) (tree.type_of (go a)) (tree.type_of (go b)) y
      by (Some (ctypes.Pointer t)) low =
          ap (λ n. Moved n (takes_away op) false (kind_at p vs b)) (size_is p o q s d deep t (low t refl))
          ∙ ap (Moved (tree_size d q.tags (type_at ts t)) (takes_away op) false) kind
      by (Some (ctypes.Cap signed)) low =
          ap (λ k. derived op signed k (is_plain (bare_type p vs a))
          (if is_plain (bare_type p vs b) then true else from_plain y)) kind
          ∙ ap (λ z. derived op signed (tree_kind (tree.type_of (go b))) z
          (if is_plain (bare_type p vs b) then true else from_plain y)) (plain a la)
          ∙ ap (λ z. derived op signed (tree_kind (tree.type_of (go b))) (is_tree_plain (peeled (tree.type_of (go a))))
          (if z then true else from_plain y)) (plain b lb)
      by None low = ap (Whole op (int_kind (kind_of None))) kind
      by (Some c) low = ap (Whole op (int_kind (kind_of (Some c)))) kind

  step_is : (adds : Bool) (a : ℕ) → a < length p.exprs →
      step_operation p vs adds (bare_type p vs a) ≡ tree_step d q adds (peeled (tree.type_of (go a)))
  step_is adds a la =
      let n = operand a la in
      let b = bare_is p o n.node.of n.low in
      ap (λ x. step_operation p vs adds (bare p.types x)) n.number ∙ ap (step_operation p vs adds) b.is
      ∙ by b.type (λ t e. let z : t < b.number = o.types b.number (ctypes.Pointer t) (b.there ∙ ap Some e) in
      omega (arith, b.no_later, n.low)) ∙ ap (tree_step d q adds) (sym (ap peeled n.type ∙ b.tree))
    where
      by : (c : CType) → ((t : ℕ) → c ≡ ctypes.Pointer t → t < length p.types) →
          step_operation p vs adds (Some c) ≡ tree_step d q adds (type_from c (type_at ts))
      by (ctypes.Pointer t) low =
          ap (λ n. Moved n (not adds) false (Plain int.I32)) (size_is p o q s d deep t (low t refl))
      by (ctypes.Cap signed) low = refl
      by c low = refl

  stepped : (k : Kind) → step_kind p vs k ≡ stepped_kind k
  stepped (Plain k) = refl
  stepped (Capability signed) = refl

  computed_kind : (of : ℕ) → kind_of (bare p.types of) ≡ tree_kind (type_at ts of)
  computed_kind of =
      let c = computed of in
      ap kind_of c.is ∙ by c.type ∙ ap (λ t. kind_or_int (tree_scalar t)) (sym c.tree)
    where
      by : (c : Option CType) → kind_of c ≡ kind_or_int (tree_scalar (bare_tree c))
      by None = refl
      by (Some (ctypes.Int k n)) = refl
      by (Some c) = refl

  args_same : (args : List ℕ) (k : ℕ) → AllByRecursion (λ c. c < k) args →
      ((a : ℕ) → a < k → TermPoints (go a) → ex a ≡ term_ex d q vars (go a)) → TermsPoint (terms (map go args)) →
      arguments ex args ≡ terms_ex d q vars (terms (map go args))
  args_same [] k b h z = refl
  args_same (a ∷ args) k b h z =
      ap (λ e. Cons e (arguments ex args)) (h a b.0 z.0)
      ∙ ap (Cons (term_ex d q vars (go a))) (args_same args k b.1 h z.1)

  level : (k : ℕ) (e : Expr) → slice_get p.exprs k ≡ Some e → k < length p.exprs →
      ((a : ℕ) → a < k → TermPoints (go a) → ex a ≡ term_ex d q vars (go a)) → (kind : ExprKind) → e.kind ≡ kind →
      TermPoints (kind_term ts kind (type_at ts e.of) e.pos go) →
      kind_tree p vs ex e.of e.pos kind ≡ term_ex d q vars (kind_term ts kind (type_at ts e.of) e.pos go)
  level k e g there h kind is z = by kind is z
    where
      low : e.of < length p.types
      low = o.typed k e g

      before : (j a : ℕ) (kind : ExprKind) → e.kind ≡ kind → slice_get (operands kind) j ≡ Some a → a < k
      before j a kind q f = o.operands_before k j a e g (ap (λ y. slice_get (operands y) j) q ∙ f)

      by : (kind : ExprKind) → e.kind ≡ kind → TermPoints (kind_term ts kind (type_at ts e.of) e.pos go) →
          kind_tree p vs ex e.of e.pos kind ≡ term_ex d q vars (kind_term ts kind (type_at ts e.of) e.pos go)
      by (exprs.Constant n) i z = ap (constant n) (kind_is p o e.of low)
      by (exprs.Literal n) i z =
          ap (λ m. meant.Object e.pos (m + n) const_permissions)
          (sym (mapped_length (object_of ts) p.globals) ∙ ap (λ (os : List tree.Object). length os) s.objects)
      by (exprs.Var x) i z = variable_is e.pos x
      by (exprs.Global n) i z = ap (meant.Object e.pos n) (permissions_are n)
      by (exprs.Fun f) i z = refl
      by (exprs.Load a) i z =
          let l = before 0 a _ i refl in
          ap (λ c. cond c (meant.Aggregate (ex a)) (meant.Load (kind_of (bare p.types e.of)) (ex a)))
          (record_is p o q s e.of low)
          ∙ ap (λ c. cond (is_tree_record q.tags (peeled (type_at ts e.of))) (meant.Aggregate (ex a))
          (meant.Load c (ex a)))
          (kind_is p o e.of low)
          ∙ ap (λ x. cond (is_tree_record q.tags (peeled (type_at ts e.of))) (meant.Aggregate x)
          (meant.Load (tree_kind (type_at ts e.of)) x)) (h a l z.0.0)
      by (exprs.Decay a) i z =
          let l = before 0 a _ i refl in
          let there : a < length p.exprs = omega arith in
          ap (λ n. meant.Pointer_to e.pos n (ex a)) (narrowing_is a there)
          ∙ ap (meant.Pointer_to e.pos (narrowing d q (go a))) (h a l z.0.0)
      by (exprs.Deref a) i z = ap (meant.Deref e.pos) (h a (before 0 a _ i refl) z.0.0)
      by (exprs.Member a m) i z =
          let l = before 0 a _ i refl in
          ap (λ n. meant.Member e.pos n (ex a)) (over (λ t. offset_in p.types t m) (λ t. tree_offset d q.tags t m)
          (λ t. offset_is p o q s d deep t m) a (omega arith))
          ∙ ap (meant.Member e.pos (tree_offset d q.tags (tree.type_of (go a)) m)) (h a l z.0.0)
      by (exprs.Address a) i z =
          let l = before 0 a _ i refl in
          let there : a < length p.exprs = omega arith in
          ap (λ n. meant.Pointer_to e.pos n (ex a)) (narrowing_is a there)
          ∙ ap (meant.Pointer_to e.pos (narrowing d q (go a))) (h a l z.0.0)
      by (exprs.Convert a) i z =
          let l = before 0 a _ i refl in
          conversion_is e.pos a e.of (ex a) (omega arith) low
          ∙ ap (tree_conversion e.pos (peeled (tree.type_of (go a))) (peeled (type_at ts e.of))) (h a l z.0.0)
      by (exprs.Unary op a) i z =
          let l = before 0 a _ i refl in
          ap (λ c. sign_of e.pos c (ex a) op) (kind_at_is a (omega arith))
          ∙ ap (λ x. sign_of e.pos (tree_kind (tree.type_of (go a))) x op) (h a l z.0.0)
      by (exprs.Int op a b) i z =
          let l = before 0 a _ i refl in
          let r = before 1 b _ i refl in
          rw (kind_is p o e.of low, kind_at_is b (omega arith), h a l z.0.0, h b r z.0.1.0) refl
      by (exprs.Capability op a b right) i z =
          let l = before 0 a _ i refl in
          let r = before 1 b _ i refl in
          rw (signed_is p o e.of low, kind_at_is b (omega arith), h a l z.0.0, h b r z.0.1.0) refl
      by (exprs.Plus a b minus) i z =
          let l = before 0 a _ i refl in
          let r = before 1 b _ i refl in
          sum_is e.pos minus a b (ex a) (ex b) (omega arith) (omega arith) z.1 ∙ rw (h a l z.0.0, h b r z.0.1.0) refl
      by (exprs.Difference a b) i z =
          let l = before 0 a _ i refl in
          let r = before 1 b _ i refl in
          rw (element_is a (omega arith) z.1, h a l z.0.0, h b r z.0.1.0) refl
      by (exprs.Compare op a b) i z =
          let l = before 0 a _ i refl in
          let r = before 1 b _ i refl in
          rw (kind_at_is a (omega arith), h a l z.0.0, h b r z.0.1.0) refl
      by (exprs.And a b) i z =
          let l = before 0 a _ i refl in
          let r = before 1 b _ i refl in
          rw (kind_at_is a (omega arith), kind_at_is b (omega arith), h a l z.0.0, h b r z.0.1.0) refl
      by (exprs.Or a b) i z =
          let l = before 0 a _ i refl in
          let r = before 1 b _ i refl in
          rw (kind_at_is a (omega arith), kind_at_is b (omega arith), h a l z.0.0, h b r z.0.1.0) refl
      by (exprs.Conditional c a b) i z =
          let m = before 0 c _ i refl in
          let l = before 1 a _ i refl in
          let r = before 2 b _ i refl in
          rw (kind_at_is c (omega arith), h c m z.0.0, h a l z.0.1.0, h b r z.0.1.1.0) refl
      by (exprs.Comma a b) i z =
          let l = before 0 a _ i refl in
          let r = before 1 b _ i refl in
          rw (h a l z.0.0, h b r z.0.1.0) refl
      by (exprs.Assign a b) i z =
          let l = before 0 a _ i refl in
          let r = before 1 b _ i refl in
          assignment_is e.pos e.of a (ex a) (ex b) low (omega arith) ∙ rw (h a l z.0.0, h b r z.0.1.0) refl
      by (exprs.Compound op a b of) i z =
          let l = before 0 a _ i refl in
          let r = before 1 b _ i refl in
          let ka = kind_at_is a (omega arith) in
          let op_is = compound_is op of a b (ex b) (omega arith) (omega arith) in
          let k = computed_kind of in
          ap (λ n. meant.Compound e.pos n (kind_at p vs a) (kind_of (bare p.types of)) false (ex a) (ex b)) op_is
          ∙ rw (ka, k, h a l z.0.0, h b r z.0.1.0) refl
      by (exprs.Step a adds front) i z =
          let l = before 0 a _ i refl in
          let ka = kind_at_is a (omega arith) in
          ap (λ n. meant.Compound e.pos n (kind_at p vs a) (step_kind p vs (kind_at p vs a)) (not front) (ex a)
          (meant.Number 1)) (step_is adds a (omega arith))
          ∙ ap (λ k. meant.Compound e.pos (tree_step d q adds (peeled (tree.type_of (go a)))) k (step_kind p vs k)
          (not front) (ex a) (meant.Number 1)) ka
          ∙ ap (λ k. meant.Compound e.pos (tree_step d q adds (peeled (tree.type_of (go a))))
          (tree_kind (tree.type_of (go a))) k (not front) (ex a) (meant.Number 1))
          (stepped (tree_kind (tree.type_of (go a))))
          ∙ ap (λ x. meant.Compound e.pos (tree_step d q adds (peeled (tree.type_of (go a))))
          (tree_kind (tree.type_of (go a))) (stepped_kind (tree_kind (tree.type_of (go a)))) (not front) x
          (meant.Number 1)) (h a l z.0.0)
      by (exprs.Call f args) i z =
          let all : (f < k) × AllByRecursion (λ c. c < k) args =
          subst (IsAfterOperands k) i ((ordered_of p o).exprs k e g) in
          ap (λ c. meant.Call e.pos c (ex f) (arguments ex args)) (fits_are f (omega arith) z.1)
          ∙ ap (λ x. meant.Call e.pos (tree_fits d q (pointee (peeled (tree.type_of (go f))))) x (arguments ex args))
          (h f all.0 z.0.0)
          ∙ ap (meant.Call e.pos (tree_fits d q (pointee (peeled (tree.type_of (go f))))) (term_ex d q vars (go f)))
          (args_same args k all.1 h z.0.1)
      by (exprs.Library n args) i z =
          let all : AllByRecursion (λ c. c < k) args =
          subst (IsAfterOperands k) i ((ordered_of p o).exprs k e g) in
          ap (meant.Library e.pos (service_of n)) (args_same args k all h z.0)

  -- ---- all nodes

  expr_same : (n k : ℕ) → k < n → k < length p.exprs → TermPoints (go k) → ex k ≡ term_ex d q vars (go k)
  expr_same zero k lt there z = absurd (omega arith)
  expr_same (suc n) k lt there z =
      let e = (operand k there).node in
      let g = (operand k there).there in
      let t = term_is p o k e g in
      expression_node p vs (ordered_of p o) k e g
      ∙ level k e g there (λ a l. expr_same n a (omega arith) (omega arith)) e.kind refl (subst TermPoints t z)
      ∙ ap (term_ex d q vars) (sym t)

  -- expression k
  pub expression_same : (k : ℕ) → k < length p.exprs → TermPoints (term_at (terms_of p) k) →
      expr_tree p vs k ≡ term_ex d q (map (variable_of (types_of p.types)) vs) (term_at (terms_of p) k)
  expression_same k lt = expr_same (suc k) k (omega arith) lt
