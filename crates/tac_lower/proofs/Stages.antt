-- The scenes of a function while its arguments come into its parameters.
use Rattle.std.proofs.Common.{◌≡◌, ◌≢◌, ℕ, zero, suc, ◌+◌, ◌<◌, ◌≤◌, ◌==◌, Bool, true, false, List, [], ◌∷◌}
use Rattle.std.proofs.Common.{length, map, Option, Some, None, refl, sym, ap, ◌∙◌, subst, arith, inl, inr}
use Rattle.std.proofs.Common.{if◌then◌else◌}
use Rattle.std.specs.Prelude.{slice_get, nat_lt, ◌⊎◌}
use Rattle.std.proofs.lemmas.Bool.{cases_lt, ltb-false, le-ltb}
use Rattle.std.proofs.lemmas.Bool.Decides.{nat_tests}
use Rattle.std.proofs.lemmas.Option.{slice_get_within}
use Rattle.ck_base.specs.declared.positions.Pos.{Pos}
use Rattle.c_tree.specs.Layout.{bare}
use Rattle.c_tree.specs.Views.{IsOrdered}
use Rattle.c_tree.specs.WellTyped.{type_in}
use Rattle.c_tree.specs.declared.typed.CType.{CType}
use Rattle.c_tree.specs.declared.typed.CType.TheVariants as types
use Rattle.c_tree.specs.declared.typed.FunDef.{FunDef}
use Rattle.c_tree.specs.declared.typed.Typed.{Typed}
use Rattle.c_tree.specs.declared.typed.VarDef.{VarDef}
use Rattle.cheri_c_sem.specs.Programs.{lengths_of, parameter_of}
use Rattle.cheri_c_sem.specs.Tree.{Parameter, In_variable, In_object}
use Rattle.cheri_c_sem.specs.Types as meant
use Rattle.cheri_c_sem.specs.Types.{is_simple, objects_before, type_of_var}
use Rattle.tac_ir.specs.Effects.{kind_of}
use Rattle.tac_ir.specs.WellFormed.{type_of_param}
use Rattle.tac_ir.specs.declared.code.TacKind.{TacKind}
use Rattle.tac_lower.specs.declared.context.Home as places
use Rattle.tac_lower.specs.declared.context.Home.TheVariants as home
use Rattle.tac_lower.specs.declared.writes.Written.{Written}
use Rattle.lower_runs.specs.Functions.{with_home, AreTaken, none, variable, object}
use Rattle.lower_runs.specs.Operating.{Code}
use Rattle.lower_runs.specs.States.{Home, Scene, IsScene}
use Rattle.lower_runs.specs.Statements.{with_spot}
use Rattle.tac_lower.specs.Nodes.{kept_as, or_int}
use Rattle.tac_lower.specs.Programs.{AreHomes, taken_code, taking}
use Rattle.tac_lower.specs.Signed.{kept_parameter}
use Rattle.tac_lower.specs.Stating.{Points}
use Rattle.tac_lower.specs.Tables.{kept_by}
use Rattle.tac_lower.specs.Trees.{Setting}
use Rattle.tac_lower.proofs.Homed.{before_is}
use Rattle.tac_lower.proofs.Homes.{objects_within}
use Rattle.tac_lower.proofs.Typings.{kept_is}

-- ---- kinds of parameters

kind_is : (c : Option CType) → meant.kind_of c ≡ kind_of (or_int (kept_by c))
kind_is (Some (types.Int k n)) = refl
kind_is (Some (types.Cap s)) = refl
kind_is (Some (types.Pointer t)) = refl
kind_is None = refl
kind_is (Some c) = refl

type_is : (v : Option VarDef) → type_of_var v ≡ type_of_param v
type_is None = refl
type_is (Some v) = refl

some_var : (v : Option VarDef) → is_simple v ≡ false → (u : VarDef) × (v ≡ Some u) × (u.simple ≡ false)
some_var None h = absurd cc
some_var (Some u) h = (u, refl, h)

-- where the code has a variable's value
abbrev home_by : Option places.Home → Option Home
home_by (Some (home.Temp t k)) = Some (record { temp = t; kind = k })
home_by h = None

home_back : (o : Option places.Home) (u : Home) → home_by o ≡ Some u → o ≡ Some (home.Temp u.temp u.kind)
home_back (Some (home.Temp t k)) u e =
    let v : Home = record { temp = t; kind = k } in
    let same : v ≡ u = cc in ap (λ (z : Home). Some (home.Temp z.temp z.kind)) same
home_back (Some (home.Object n t)) u e = absurd cc
home_back None u e = absurd cc

module _ (p : Typed) (d : FunDef) (writes : List Written) (homes : List places.Home) (fixed : ℕ)
    (h : AreHomes p d homes fixed) (many : length homes ≡ length d.vars) where
  abbrev pub s : Setting
  s = record { program = p; vars = d.vars; writes = writes; homes = homes; fixed = fixed }

  abbrev params : ℕ
  params = length d.params

  -- the first i parameters have been taken
  pub record Stage (i size limit : ℕ) (g : Scene) : Type 0 where
    pub fixed_is : g.fixed ≡ fixed
    pub size_is : g.size ≡ size
    pub limited : g.limit ≡ limit
    pub count : g.count ≡ length d.vars
    pub objects : g.objects ≡ length (lengths_of p d.vars)
    pub held : (x : ℕ) (u : Home) → g.home x ≡ Some u → slice_get homes x ≡ Some (home.Temp u.temp u.kind)
    pub behind : (x : ℕ) (u : Home) → g.home x ≡ Some u → (x < i) ⊎ (params ≤ x)
    pub there : (x t : ℕ) (k : TacKind) → slice_get homes x ≡ Some (home.Temp t k) → (x < i) ⊎ (params ≤ x) →
        g.home x ≡ Some (record { temp = t; kind = k })
    pub spot : (n t : ℕ) → g.spot n ≡ Some t → (x : ℕ) × Points s x n t × (x < i)
    pub reached : (x n t : ℕ) → Points s x n t → x < i → g.spot n ≡ Some t

  -- ---- homes of their own

  same_home : {x y : ℕ} {f i : places.Home} → x ≡ y → slice_get homes x ≡ Some f → slice_get homes y ≡ Some i → f ≡ i
  same_home {f = f} {i = i} e q r =
      let both : Some f ≡ Some i = sym q ∙ ap (slice_get homes) e ∙ r in cc

  pub points_below : (x n t : ℕ) → Points s x n t → t < fixed
  points_below x n t q = h.below x (home.Object n t) q

  pub points_counted : (x n t : ℕ) → Points s x n t → n < length (lengths_of p d.vars)
  points_counted x n t q =
      let o = h.object x n t q in
      let v = some_var (slice_get d.vars x) o.0 in
      let within = objects_within p d.vars x v.0 v.1 v.2 in
      omega (arith, o.1, before_is p d.vars x, within)

  pub points_own : (x y m n t : ℕ) → Points s x m t → Points s y n t → m ≡ n
  points_own x y m n t q r =
      let same = h.differ x y (home.Object m t) (home.Object n t) q r refl in
      let e : home.Object m t ≡ home.Object n t = same_home same q r in cc

  -- more objects are before a later one
  before_more : (vs : List VarDef) (x y : ℕ) → x < y → is_simple (slice_get vs x) ≡ false →
      objects_before vs x < objects_before vs y
  before_more [] x y l e = absurd cc
  before_more (v ∷ vs) x zero l e = absurd (omega arith)
  before_more (v ∷ vs) zero (suc y) l e =
      let simple : v.simple ≡ false = e in
      let q : ◌≡◌ {A = ℕ} (if v.simple then 0 else 1) 1 = ap {B = ℕ} (λ b. if b then 0 else 1) simple in
      omega (arith, q)
  before_more (v ∷ vs) (suc x) (suc y) l e = omega (arith, before_more vs x y (omega arith) e)

  pub points_one : (x y n t u : ℕ) → Points s x n t → Points s y n u → t ≡ u
  points_one x y n t u q r = by (cases_lt x y) (cases_lt y x)
    where
      by : (x < y) ⊎ (y ≤ x) → (y < x) ⊎ (x ≤ y) → t ≡ u
      by (inl l) b = let o = h.object x n t q in let i = h.object y n u r in
          absurd (omega (arith, before_more d.vars x y l o.0, o.1, i.1))
      by (inr l) (inl m) = let o = h.object x n t q in let i = h.object y n u r in
          absurd (omega (arith, before_more d.vars y x m i.0, o.1, i.1))
      by (inr l) (inr m) =
          let e : x ≡ y = omega arith in
          let f : home.Object n t ≡ home.Object n u = same_home e q r in cc

  apart_by : (x y n t : ℕ) (k : TacKind) (u : ℕ) → Points s x n t → slice_get homes y ≡ Some (home.Temp u k) → t ≢ u
  apart_by x y n t k u q r e =
      let same = h.differ x y (home.Object n t) (home.Temp u k) q r e in
      let f : home.Object n t ≡ home.Temp u k = same_home same q r in cc

  -- ---- a stage is a scene

  module _ (i size limit : ℕ) (g : Scene) (st : Stage i size limit g) (room : fixed ≤ size) where
    pub stage_scene : IsScene g
    stage_scene = record {
      room = omega (arith, st.fixed_is, st.size_is, room);
      home_below = λ x u e. let l = h.below x (home.Temp u.temp u.kind) (st.held x u e) in
          omega (arith, l, st.fixed_is);
      home_counted = λ x u e. let l = slice_get_within homes x _ (st.held x u e) in omega (arith, l, many, st.count);
      homes_differ = λ x y u v e f same. h.differ x y (home.Temp u.temp u.kind) (home.Temp v.temp v.kind)
          (st.held x u e) (st.held y v f) same;
      spot_below = λ n t e. let q = st.spot n t e in let l = points_below q.0 n t q.1 in omega (arith, l, st.fixed_is);
      spot_counted = λ n t e. let q = st.spot n t e in let l = points_counted q.0 n t q.1 in
          omega (arith, l, st.objects);
      spots_differ = λ m n t u e f same. let q = st.spot m t e in let r = st.spot n u f in
          points_own q.0 r.0 m n u (subst (λ z. Points s q.0 m z) same q.1) r.1;
      apart = λ x n t u e f. let q = st.spot n t f in apart_by q.0 x n t u.kind u.temp q.1 (st.held x u e);
    }

    pub stage_apart : (x n t y : ℕ) (u : Home) → Points s x n t → g.home y ≡ Some u → t ≢ u.temp
    stage_apart x n t y u q e = apart_by x y n t u.kind u.temp q (st.held y u e)

  -- ---- the entry

  abbrev pub entry : (size limit : ℕ) → Scene
  entry size limit = record {
    size = size;
    fixed = fixed;
    count = length d.vars;
    objects = length (lengths_of p d.vars);
    limit = limit;
    home = λ x. if nat_lt x params then None else home_by (slice_get homes x);
    spot = λ n. None;
  }

  pub entry_stage : (size limit : ℕ) → Stage 0 size limit (entry size limit)
  entry_stage size limit = record {
    fixed_is = refl;
    size_is = refl;
    limited = refl;
    count = refl;
    objects = refl;
    held = λ x u e. by x u (nat_lt x params) e;
    behind = λ x u e. later x u (nat_lt x params) refl e;
    there = λ x t k e o. at x t k e o;
    spot = λ n t e. absurd cc;
    reached = λ x n t e l. absurd (omega arith);
  }
    where
      by : (x : ℕ) (u : Home) (b : Bool) → (if b then None else home_by (slice_get homes x)) ≡ Some u →
          slice_get homes x ≡ Some (home.Temp u.temp u.kind)
      by x u true e = absurd cc
      by x u false e = home_back (slice_get homes x) u e

      later : (x : ℕ) (u : Home) (b : Bool) → nat_lt x params ≡ b →
          (if b then None else home_by (slice_get homes x)) ≡ Some u → (x < 0) ⊎ (params ≤ x)
      later x u true q e = absurd cc
      later x u false q e = inr (ltb-false x params q)

      at : (x t : ℕ) (k : TacKind) → slice_get homes x ≡ Some (home.Temp t k) → (x < 0) ⊎ (params ≤ x) →
          (if nat_lt x params then None else home_by (slice_get homes x)) ≡ Some (record { temp = t; kind = k })
      at x t k e (inl l) = absurd (omega arith)
      at x t k e (inr l) = rw (le-ltb x params l) (ap home_by e)

  -- ---- one parameter more

  at_own : (i t : ℕ) (k : TacKind) → i < params → slice_get homes i ≡ Some (home.Temp t k) → t ≡ i
  at_own i t k l q = by (h.placed i (home.Temp t k) q)
    where
      by : ((i < params) × (t ≡ i)) ⊎ ((params ≤ i) × (params ≤ t)) → t ≡ i
      by (inl a) = a.1
      by (inr a) = absurd (omega (arith, a.0))

  up : {x i : ℕ} → (x < i) ⊎ (params ≤ x) → (x < i + 1) ⊎ (params ≤ x)
  up (inl l) = inl (omega arith)
  up (inr l) = inr l

  differs : {x i : ℕ} → (x == i) ≡ false → (x < i + 1) ⊎ (params ≤ x) → (x < i) ⊎ (params ≤ x)
  differs {x = x} {i = i} e (inl l) = inl (grind (arith, nat_tests))
  differs e (inr l) = inr l

  equal : {x i : ℕ} → (x == i) ≡ true → x ≡ i
  equal e = grind (arith, nat_tests)

  module _ (i size limit : ℕ) (g : Scene) (st : Stage i size limit g) where
    pub next_value : (k : TacKind) → slice_get homes i ≡ Some (home.Temp i k) →
        Stage (i + 1) size limit (with_home i (record { temp = i; kind = k }) g)
    next_value k q = record {
      fixed_is = st.fixed_is;
      size_is = st.size_is;
      limited = st.limited;
      count = st.count;
      objects = st.objects;
      held = λ x u e. held x u (x == i) refl e;
      behind = λ x u e. behind x u (x == i) refl e;
      there = λ x t j e o. there x t j (x == i) refl e o;
      spot = λ n t e. let z = st.spot n t e in let l = z.2 in (z.0, z.1, omega arith);
      reached = λ x n t e l. reached x n t (x == i) refl e l;
    }
      where
        new : Home
        new = record { temp = i; kind = k }

        held : (x : ℕ) (u : Home) (b : Bool) → (x == i) ≡ b → (if b then Some new else g.home x) ≡ Some u →
            slice_get homes x ≡ Some (home.Temp u.temp u.kind)
        held x u true e f =
            let same : new ≡ u = cc in
            ap (slice_get homes) (equal e) ∙ q ∙ ap (λ (z : Home). Some (home.Temp z.temp z.kind)) same
        held x u false e f = st.held x u f

        behind : (x : ℕ) (u : Home) (b : Bool) → (x == i) ≡ b → (if b then Some new else g.home x) ≡ Some u →
            (x < i + 1) ⊎ (params ≤ x)
        behind x u true e f = let same = equal {x = x} {i = i} e in inl (omega (arith, same))
        behind x u false e f = up (st.behind x u f)

        there : (x t : ℕ) (j : TacKind) (b : Bool) → (x == i) ≡ b → slice_get homes x ≡ Some (home.Temp t j) →
            (x < i + 1) ⊎ (params ≤ x) → (if b then Some new else g.home x) ≡ Some (record { temp = t; kind = j })
        there x t j true e f o =
            let both : home.Temp i k ≡ home.Temp t j = same_home (sym (equal {x = x} {i = i} e)) q f in
            let temp : i ≡ t = cc in
            let kind : k ≡ j = cc in
            ap (λ z. Some (record { temp = z; kind = k })) temp ∙ ap (λ z. Some (record { temp = t; kind = z })) kind
        there x t j false e f o = st.there x t j f (differs e o)

        reached : (x n t : ℕ) (b : Bool) → (x == i) ≡ b → Points s x n t → x < i + 1 → g.spot n ≡ Some t
        reached x n t true e f l =
            absurd (let both : home.Temp i k ≡ home.Object n t = same_home (sym (equal {x = x} {i = i} e)) q f in cc)
        reached x n t false e f l = st.reached x n t f (grind (arith, nat_tests))

    pub next_object : (n at : ℕ) → Points s i n at → Stage (i + 1) size limit (with_spot n at g)
    next_object n at q = record {
      fixed_is = st.fixed_is;
      size_is = st.size_is;
      limited = st.limited;
      count = st.count;
      objects = st.objects;
      held = st.held;
      behind = λ x u e. up (st.behind x u e);
      there = λ x t j e o. there x t j (x == i) refl e o;
      spot = λ m t e. spot m t (m == n) refl e;
      reached = λ x m t e l. reached x m t (m == n) refl e l;
    }
      where
        there : (x t : ℕ) (j : TacKind) (b : Bool) → (x == i) ≡ b → slice_get homes x ≡ Some (home.Temp t j) →
            (x < i + 1) ⊎ (params ≤ x) → g.home x ≡ Some (record { temp = t; kind = j })
        there x t j true e f o =
            absurd (let both : home.Object n at ≡ home.Temp t j = same_home (sym (equal {x = x} {i = i} e)) q f in cc)
        there x t j false e f o = st.there x t j f (differs e o)

        spot : (m t : ℕ) (b : Bool) → (m == n) ≡ b → (if b then Some at else g.spot m) ≡ Some t →
            (x : ℕ) × Points s x m t × (x < i + 1)
        spot m t true e f =
            let temp : at ≡ t = cc in
            let own = subst (λ z. Points s i z t) (sym (equal {x = m} {i = n} e))
            (subst (λ z. Points s i n z) temp q) in
            (i, own, omega arith)
        spot m t false e f = let z = st.spot m t f in let l = z.2 in (z.0, z.1, omega arith)

        reached : (x m t : ℕ) (b : Bool) → (m == n) ≡ b → Points s x m t → x < i + 1 →
            (if b then Some at else g.spot m) ≡ Some t
        reached x m t true e f l =
            ap Some (points_one i x n at t q (subst (λ z. Points s x z t) (equal {x = m} {i = n} e) f))
        reached x m t false e f l = earlier (x == i) refl
          where
            earlier : (b : Bool) → (x == i) ≡ b → g.spot m ≡ Some t
            earlier true r =
                let both : home.Object n at ≡ home.Object m t = same_home (sym (equal {x = x} {i = i} r)) q f in
                let number : n ≡ m = cc in
                absurd (grind (arith, nat_tests))
            earlier false r = st.reached x m t f (grind (arith, nat_tests))

  -- ---- all parameters

  abbrev kept : ℕ → TacKind
  kept = kept_parameter p d

  pub record TakenFrom (i size limit : ℕ) (xs : List ℕ) (g : Scene) : Type 0 where
    pub inner : Scene
    pub is : AreTaken d.pos g i (map (parameter_of p d.vars) xs) (map kept xs) inner (taking homes kept d.pos xs i)
    pub stage : Stage params size limit inner

  recast : {q : Pos} {g inner : Scene} {i : ℕ} {ps : List Parameter} {ks : List TacKind} {a b : Parameter}
      {j k : TacKind} {c e : Code} → a ≡ b → j ≡ k → c ≡ e → AreTaken q g i (a ∷ ps) (j ∷ ks) inner c →
      AreTaken q g i (b ∷ ps) (k ∷ ks) inner e
  recast {q = q} {g = g} {inner = inner} {i = i} {ps = ps} {ks = ks} {b = b} {j = j} {k = k} {c = c} e f r t =
      subst (λ z. AreTaken q g i (b ∷ ps) (k ∷ ks) inner z) r
      (subst (λ z. AreTaken q g i (b ∷ ps) (z ∷ ks) inner c) f
      (subst (λ z. AreTaken q g i (z ∷ ps) (j ∷ ks) inner c) e t))

  length_kept : (xs : List ℕ) → length (map kept xs) ≡ length xs
  length_kept [] = refl
  length_kept (x ∷ xs) = ap suc (length_kept xs)

  module _ (o : IsOrdered p) (size limit : ℕ) (room : fixed ≤ size) (few : params ≤ length d.vars) where
    meant_kind : (x : ℕ) → meant.kind_of (bare p.types (type_of_var (slice_get d.vars x))) ≡ kind_of (kept x)
    meant_kind x = ap (λ t. meant.kind_of (bare p.types t)) (type_is (slice_get d.vars x))
        ∙ kind_is (bare p.types (type_of_param (slice_get d.vars x)))
        ∙ ap (λ z. kind_of (or_int z)) (kept_is p o (type_of_param (slice_get d.vars x)))

    kept_at : (x t : ℕ) (k : TacKind) → slice_get homes x ≡ Some (home.Temp t k) → x < length d.vars → kept x ≡ k
    kept_at x t k q l = by (slice_get d.vars x) refl
      where
        by : (v : Option VarDef) → slice_get d.vars x ≡ v → kept x ≡ k
        by (Some v) e = ap (λ z. or_int (kept_as (type_in p (type_of_param z)))) e ∙ (h.value x t k q).1 v e
        by None e = absurd (past d.vars x l e)
          where
            past : (vs : List VarDef) (x : ℕ) → x < length vs → slice_get vs x ≡ None → ⊥
            past [] x l e = omega arith
            past (v ∷ vs) zero l e = cc
            past (v ∷ vs) (suc x) l e = past vs x (omega arith) e

    no_home : (hs : List places.Home) (x : ℕ) → x < length hs → slice_get hs x ≡ None → ⊥
    no_home [] x l e = omega arith
    no_home (v ∷ hs) zero l e = cc
    no_home (v ∷ hs) (suc x) l e = no_home hs x (omega arith) e

    pub taken_from : (xs : List ℕ) (i : ℕ) (g : Scene) → Stage i size limit g →
        ((j x : ℕ) → slice_get xs j ≡ Some x → x ≡ i + j) → i + length xs ≡ params → TakenFrom i size limit xs g
    taken_from [] i g st at all = record {
      inner = g;
      is = none;
      stage = let e : i ≡ params = omega arith in subst (λ z. Stage z size limit g) e st;
    }
    taken_from (x ∷ xs) i g st at all = by (slice_get homes i) refl
        (λ z w. taken_from xs (i + 1) z w (λ j y e. let n = at (suc j) y e in omega arith) (omega arith))
      where
        same : x ≡ i
        same = let n = at 0 x refl in omega arith

        within : i < params
        within = omega arith

        by : (o : Option places.Home) → slice_get homes i ≡ o → ((z : Scene) → Stage (i + 1) size limit z →
            TakenFrom (i + 1) size limit xs z) → TakenFrom i size limit (x ∷ xs) g
        by None e go = absurd (no_home homes i (omega (arith, many)) e)
        by (Some (home.Temp t k)) e go =
            let own = at_own i t k within e in
            let there = subst (λ z. slice_get homes i ≡ Some (home.Temp z k)) own e in
            let next = next_value i size limit g st k there in
            let rest = go (with_home i (record { temp = i; kind = k }) g) next in
            let here : slice_get homes x ≡ Some (home.Temp t k) = ap (slice_get homes) same ∙ e in
            let param : In_variable i ≡ parameter_of p d.vars x =
            ap In_variable (sym same) ∙ sym (ap (λ b. if b then In_variable x else In_object (objects_before d.vars x)
            (meant.kind_of (bare p.types (type_of_var (slice_get d.vars x))))) (h.value x t k here).0) in
            record {
              inner = rest.inner;
              is = recast param (sym (kept_at x t k here (omega (arith, same, few))))
                  (ap (λ z. λ r. taken_code z i (kept x) d.pos (taking homes kept d.pos xs (i + 1) r)) (sym here))
                  (variable (stage_scene (i + 1) size limit _ next room) rest.is);
              stage = rest.stage;
            }
        by (Some (home.Object n to)) e go =
            let next = next_object i size limit g st n to e in
            let rest = go (with_spot n to g) next in
            let here : slice_get homes x ≡ Some (home.Object n to) = ap (slice_get homes) same ∙ e in
            let ob = h.object x n to here in
            let behind : params ≤ to = h.placed i (home.Object n to) e in
            let param : In_object n (kind_of (kept x)) ≡ parameter_of p d.vars x =
            ap (λ m. In_object m (kind_of (kept x))) (sym ob.1) ∙ ap (In_object (objects_before d.vars x))
            (sym (meant_kind x)) ∙ sym (ap (λ b. if b then In_variable x else In_object (objects_before d.vars x)
            (meant.kind_of (bare p.types (type_of_var (slice_get d.vars x))))) ob.0) in
            record {
              inner = rest.inner;
              is = recast param refl
                  (ap (λ z. λ r. taken_code z i (kept x) d.pos (taking homes kept d.pos xs (i + 1) r)) (sym here))
                  (object (stage_scene (i + 1) size limit _ next room) (omega (arith, length_kept xs, behind)) rest.is);
              stage = rest.stage;
            }
