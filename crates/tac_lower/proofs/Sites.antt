-- Blocks are entered, and each of their objects has a place in the scene then.
use Rattle.std.proofs.Common.{◌≡◌, ℕ, zero, suc, ◌<◌, ◌==◌, Bool, true, false, List, [], ◌∷◌, ◌++◌}
use Rattle.std.proofs.Common.{length}
use Rattle.std.proofs.Common.{Some, None, refl, sym, ap, ◌∙◌, subst, arith, inl, inr, if◌then◌else◌}
use Rattle.std.specs.Prelude.{slice_get, ◌⊎◌}
use Rattle.std.proofs.lemmas.Bool.Decides.{nat_tests}
use Rattle.c_tree.specs.declared.typed.FunDef.{FunDef}
use Rattle.c_tree.specs.declared.typed.Typed.{Typed}
use Rattle.c_tree.specs.declared.typed.VarDef.{VarDef}
use Rattle.cheri_c_sem.specs.Programs.{declared}
use Rattle.cheri_c_sem.specs.Tree.{Declared, Simple, Objects}
use Rattle.cheri_c_sem.specs.Types.{is_simple, objects_before}
use Rattle.tac_ir.specs.declared.code.TacInstr.TheVariants as instr
use Rattle.tac_ir.specs.declared.code.TacKind.{TacKind}
use Rattle.tac_lower.specs.declared.context.Home as places
use Rattle.tac_lower.specs.declared.context.Home.TheVariants as home
use Rattle.tac_emit.specs.declared.emitter.Emitter.{Emitter}
use Rattle.lower_runs.specs.Operating.{Code}
use Rattle.lower_runs.specs.States.{Scene}
use Rattle.lower_runs.specs.Statements.{with_spot, IsEntered, nothing, simple, whole}
use Rattle.tac_emit.specs.Emitted.{Entered}
use Rattle.tac_lower.specs.Scenes.{Housed}
use Rattle.tac_emit.specs.Adding.{Emits, one}
use Rattle.tac_lower.specs.Trees.{Setting}
use Rattle.lower_runs.specs.Trees.{IsInner}
use Rattle.tac_lower.specs.Stating.{Routine, Points, Sited, Enters, ShowsEntered, AreInner, declared_in}
use Rattle.tac_emit.proofs.Emitting.{added_then, one_emits}
use Rattle.tac_emit.proofs.Wells.{keeps_same, keeps_then}

-- ---- a place for an object more

spot_by : (g : Scene) (n t m v : ℕ) → (with_spot n t g).spot m ≡ Some v →
    ((m ≡ n) × (v ≡ t)) ⊎ (g.spot m ≡ Some v)
spot_by g n t m v h = by (m == n) refl h
  where
    by : (b : Bool) → (m == n) ≡ b → (if b then Some t else g.spot m) ≡ Some v →
        ((m ≡ n) × (v ≡ t)) ⊎ (g.spot m ≡ Some v)
    by true e h = inl (grind (arith, nat_tests), let q : Some t ≡ Some v = h in cc)
    by false e h = inr h

module _ (s : Setting) (g : Scene) (h : Sited s g) (x n t : ℕ) (p : Points s x n t) where
  abbrev more : Scene
  more = with_spot n t g

  one_spot : (y m u v : ℕ) → Points s y m u → more.spot m ≡ Some v → v ≡ u
  one_spot y m u v q e = by (spot_by g n t m v e)
    where
      by : ((m ≡ n) × (v ≡ t)) ⊎ (g.spot m ≡ Some v) → v ≡ u
      by (inl c) = c.1 ∙ h.one x y n t u p (subst (λ z. Points s y z u) c.0 q)
      by (inr c) = (h.suits.object y m u q).2 v c

  spot_at : (m v : ℕ) → more.spot m ≡ Some v → (y : ℕ) × Points s y m v
  spot_at m v e = by (spot_by g n t m v e)
    where
      by : ((m ≡ n) × (v ≡ t)) ⊎ (g.spot m ≡ Some v) → (y : ℕ) × Points s y m v
      by (inl c) = (x, subst (λ z. Points s x z v) (sym c.0) (subst (λ z. Points s x n z) (sym c.1) p))
      by (inr c) = h.spots m v c

  pub sited_more : Sited s more
  sited_more = record {
    suits = record {
      fixed = h.suits.fixed;
      written = h.suits.written;
      value = h.suits.value;
      calls = h.suits.calls;
      types = h.suits.types;
      small = h.suits.small;
      located = h.suits.located;
      handed = h.suits.handed;
      records = h.suits.records;
      passed = h.suits.passed;
      placed = h.suits.placed;
      object = λ y m u q. let old = h.suits.object y m u q in (old.0, old.1, λ v e. one_spot y m u v q e);
    };
    scene = record {
      room = h.scene.room;
      home_below = h.scene.home_below;
      home_counted = h.scene.home_counted;
      homes_differ = h.scene.homes_differ;
      spot_below = λ m v e. let q = spot_at m v e in h.below q.0 m v q.1;
      spot_counted = λ m v e. let q = spot_at m v e in h.counted q.0 m v q.1;
      spots_differ = λ m i u v f e same. let q = spot_at m u f in let r = spot_at i v e in
          h.own q.0 r.0 m i v (subst (λ z. Points s q.0 m z) same q.1) r.1;
      apart = λ y m v k f e. let q = spot_at m v e in h.apart q.0 m v y k q.1 f;
    };
    below = h.below;
    counted = h.counted;
    own = h.own;
    one = h.one;
    apart = h.apart;
    spots = spot_at;
    initial = h.initial;
  }

-- ---- one variable

-- more objects are before a later variable, if this is one
before_grows : (vs : List VarDef) (x n : ℕ) → x < n → is_simple (slice_get vs x) ≡ false →
    objects_before vs x < objects_before vs n
before_grows [] x n l h = absurd cc
before_grows (v ∷ vs) x zero l h = absurd (omega arith)
before_grows (v ∷ vs) zero (suc n) l h =
    let e : v.simple ≡ false = h in
    let q : ◌≡◌ {A = ℕ} (if v.simple then 0 else 1) 1 = ap {B = ℕ} (λ b. if b then 0 else 1) e in omega (arith, q)
before_grows (v ∷ vs) (suc x) (suc n) l h = omega (arith, before_grows vs x n (omega arith) h)

module _ (r : Routine) where
  abbrev s : Setting
  s = r.setting

  -- a parameter is not declared in a block
  pub entered_parameter : {x : ℕ} (a : Emitter) → x < r.params → ShowsEntered r (x ∷ []) a a
  entered_parameter {x = x} a l = record {
    code = λ q. q;
    added = record { is = λ q. refl };
    keeps = keeps_same a.kinds.items a.kinds.items refl;
    temps = omega arith;
    labels = refl;
    enters = λ g sited inner. absurd (by (is_simple (slice_get s.vars x)) refl inner.0);
  }
    where
      by : (b : Bool) → is_simple (slice_get s.vars x) ≡ b →
          IsInner r.setting.vars r.params (if b then Simple x else Objects (objects_before s.vars x)) → ⊥
      by true e h = omega arith
      by false e h = omega (arith, before_grows s.vars x r.params l e)

  pub entered_value : {x t : ℕ} {k : TacKind} {a b : Emitter} → slice_get s.homes x ≡ Some (home.Temp t k) →
      Emits a b 0 (one (instr.Const t k 0)) → ShowsEntered r (x ∷ []) a b
  entered_value {x = x} {t = t} {k = k} at f = record {
    code = one (instr.Const t k 0);
    added = f.added;
    keeps = f.keeps;
    temps = omega (arith, f.temps);
    labels = f.labels;
    enters = λ g sited inner.
        let v = sited.suits.value x t k at in
        let ds : declared_in s (x ∷ []) ≡ Simple x ∷ [] =
        ap (λ b. (if b then Simple x else Objects (objects_before s.vars x)) ∷ []) v.0 in
        subst (λ z. Enters s g z (one (instr.Const t k 0))) (sym ds)
        (record { inner = g; is = simple v.1 nothing; sited = sited });
  }

  pub entered_object : {x n t : ℕ} {a b : Emitter} → Points s x n t → Entered a b t n → ShowsEntered r (x ∷ []) a b
  entered_object {x = x} {n = n} {t = t} {a = a} {b = b} at f =
      let c : Code = λ q. instr.Zero n ∷ instr.Local t n ∷ q in
      record {
        code = c;
        added = added_then (one_emits a f.middle (instr.Zero n) refl f.zero).added
            (one_emits f.middle b (instr.Local t n) refl f.points).added;
        keeps = keeps_same a.kinds.items b.kinds.items (f.points.kinds ∙ f.zero.kinds);
        temps = omega (arith, ap length (f.points.kinds ∙ f.zero.kinds));
        labels = f.points.labels ∙ f.zero.labels;
        enters = λ g sited inner.
            let v = sited.suits.object x n t at in
            let ds : declared_in s (x ∷ []) ≡ Objects (objects_before s.vars x) ∷ [] =
            ap (λ b. (if b then Simple x else Objects (objects_before s.vars x)) ∷ []) v.0 in
            let es : Objects (objects_before s.vars x) ∷ [] ≡ Objects n ∷ [] = ap (λ m. Objects m ∷ []) v.1 in
            let more = sited_more s g sited x n t at in
            subst (λ z. Enters s g z c) (sym (ds ∙ es))
            (record { inner = with_spot n t g; is = whole more.scene v.2 nothing; sited = more });
      }

  -- ---- one more

  entered_behind : {g h i : Scene} {ds es : List Declared} {c d : Code} → IsEntered g ds h c → IsEntered h es i d →
      IsEntered g (ds ++ es) i (λ q. c (d q))
  entered_behind nothing f = f
  entered_behind (simple h e) f = simple h (entered_behind e f)
  entered_behind (whole h i e) f = whole h i (entered_behind e f)

  inner_both : (ds es : List Declared) → AreInner r (ds ++ es) → AreInner r ds × AreInner r es
  inner_both [] es h = (tt, h)
  inner_both (d ∷ ds) es h = let b = inner_both ds es h.1 in ((h.0, b.0), b.1)

  declared_both : (xs ys : List ℕ) → declared_in s (xs ++ ys) ≡ declared_in s xs ++ declared_in s ys
  declared_both [] ys = refl
  declared_both (x ∷ xs) ys = ap (λ z. declared s.program s.vars x ∷ z) (declared_both xs ys)

  pub entered_none : (a : Emitter) → ShowsEntered r [] a a
  entered_none a = record {
    code = λ q. q;
    added = record { is = λ q. refl };
    keeps = keeps_same a.kinds.items a.kinds.items refl;
    temps = omega arith;
    labels = refl;
    enters = λ g sited inner. record { inner = g; is = nothing; sited = sited };
  }

  pub entered_same : {xs zs : List ℕ} {a b : Emitter} → xs ≡ zs → ShowsEntered r xs a b → ShowsEntered r zs a b
  entered_same {a = a} {b = b} e h = subst (λ z. ShowsEntered r z a b) e h

  pub entered_more : {xs ys zs : List ℕ} {a b c : Emitter} → zs ≡ xs ++ ys → ShowsEntered r xs a b →
      ShowsEntered r ys b c → ShowsEntered r zs a c
  entered_more {xs = xs} {ys = ys} {zs = zs} {a = a} {b = b} {c = c} e f h =
      subst (λ z. ShowsEntered r z a c) (sym e) (record {
        code = λ q. f.code (h.code q);
        added = added_then f.added h.added;
        keeps = keeps_then a.kinds.items b.kinds.items c.kinds.items f.keeps h.keeps;
        temps = omega (arith, f.temps, h.temps);
        labels = h.labels ∙ f.labels;
        enters = λ g sited inner.
            let ds = declared_in s xs in
            let es = declared_in s ys in
            let both = inner_both ds es (subst (λ z. AreInner r z) (declared_both xs ys) inner) in
            let one = f.enters g sited both.0 in
            let two = h.enters one.inner one.sited both.1 in
            subst (λ z. Enters s g z (λ q. f.code (h.code q))) (sym (declared_both xs ys))
            (record { inner = two.inner; is = entered_behind one.is two.is; sited = two.sited });
      })

-- each variable has its place
get_there : {X A : Type 0} (xs : List X) (k : ℕ) → k < length xs → slice_get xs k ≡ None → A
get_there [] k l h = absurd (omega arith)
get_there (x ∷ xs) zero l h = absurd cc
get_there (x ∷ xs) (suc k) l h = get_there xs k (omega arith) h

pub no_home : {p : Typed} {d : FunDef} {homes : List places.Home} {e : Emitter} {A : Type 0} (x : ℕ) →
    Housed p d homes e → x < length d.vars → slice_get homes x ≡ None → A
no_home {homes = homes} x h l none = let lt : x < length homes = omega (arith, h.many) in get_there homes x lt none
