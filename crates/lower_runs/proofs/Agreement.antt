-- How states and temps go on agreeing.
use Rattle.std.proofs.Common.{◌≡◌, ◌≢◌, ℕ, zero, suc, ◌+◌, ◌≤◌, ◌<◌, Bool, true, false, List, [], ◌∷◌, length, get_or}
use Rattle.std.proofs.Common.{Option, Some, None, refl, sym, ap, subst, ◌∙◌, arith, ⊎_elim, length-set}
use Rattle.std.specs.Prelude.{slice_get, slice_set, ◌&&◌}
use Rattle.std.proofs.lemmas.Bool.{cases_eq}
use Rattle.std.proofs.lemmas.Option.{slice_get-get_or}
use Rattle.cap_ops.specs.Permissions.{data_permissions}
use Rattle.obj_mem.specs.Values.{Value}
use Rattle.cheri_c_sem.specs.Modes.{Store}
use Rattle.cheri_c_sem.specs.Operations.{Operations}
use Rattle.cheri_c_sem.specs.Steps.{State}
use Rattle.cheri_c_sem.specs.Tree.{Exs}
use Rattle.tac_ir.specs.Effects.{kind_of}
use Rattle.tac_ir.specs.declared.code.TacKind.{TacKind}
use Rattle.lower_runs.specs.States.{Home, Scene, IsScene, IsFree, IsOf, IsApart, IsOnward, Agrees, Went, or_zero}
use Rattle.lower_runs.specs.Expressions.{Mark, labelled, spare}
use Rattle.lower_runs.specs.Simulation.{Stays, own, variable, object, Done, Valued}

-- ---- lists

pub get_set_same : {A : Type 0} (xs : List A) (i : ℕ) (v : A) → i < length xs → slice_get (slice_set xs i v) i ≡ Some v
get_set_same [] i v lt = absurd (omega arith)
get_set_same (x ∷ xs) zero v lt = refl
get_set_same (x ∷ xs) (suc i) v lt = get_set_same xs i v (omega arith)

pub get_set_other : {A : Type 0} (xs : List A) (i j : ℕ) (v : A) → j ≢ i →
    slice_get (slice_set xs i v) j ≡ slice_get xs j
get_set_other [] i j v ne = refl
get_set_other (x ∷ xs) zero zero v ne = absurd (ne refl)
get_set_other (x ∷ xs) zero (suc j) v ne = refl
get_set_other (x ∷ xs) (suc i) zero v ne = refl
get_set_other (x ∷ xs) (suc i) (suc j) v ne = get_set_other xs i j v (λ e. ne (ap suc e))

some_same : {A : Type 0} (x y : A) → Some x ≡ Some y → x ≡ y
some_same x y e = cc

pub set_there : {A : Type 0} (xs : List A) (i : ℕ) (v : A) → slice_get xs i ≡ Some v → slice_set xs i v ≡ xs
set_there [] i v e = refl
set_there (x ∷ xs) zero v e = ap (λ z. z ∷ xs) (some_same v x (sym e))
set_there (x ∷ xs) (suc i) v e = ap (λ z. x ∷ z) (set_there xs i v e)

-- ---- truth values

pub and_left : (a b : Bool) → (a && b) ≡ true → a ≡ true
and_left true b h = refl
and_left false b h = h

pub and_right : (a b : Bool) → (a && b) ≡ true → b ≡ true
and_right true b h = h
and_right false b h = absurd cc

module _ (ops : Operations Store) where
  -- ---- memories

  pub onward_same : (m : Store) → IsOnward ops m m
  onward_same m = record { sound = λ i. i; count = omega arith; whole = λ x q lt. refl }

  pub onward_then : (a b c : Store) → IsOnward ops a b → IsOnward ops b c → IsOnward ops a c
  onward_then a b c f h = record {
    sound = λ i. h.sound (f.sound i);
    count = let x = f.count in let y = h.count in omega arith;
    whole = λ x q lt. h.whole x q (let z = f.count in omega arith) ∙ f.whole x q lt;
  }

  module _ (g : Scene) (scene : IsScene g) where
    pub free_own : (j : ℕ) → g.fixed ≤ j → IsFree g j
    free_own j le n s e q = let lt = scene.spot_below n s e in absurd (omega arith)

    -- ---- what a part leaves as it is

    pub went_nowhere : (keeps : ℕ → Bool) (below : ℕ) (s : State Store) (ts : List (Option Value)) →
        Went ops g keeps below None s ts s ts
    went_nowhere keeps below s ts =
        record {
          left = omega arith;
          first = refl;
          frame = refl;
          onward = onward_same s.mem;
          spared = λ x e. refl;
          kept = λ j ge lt h. refl;
        }

    pub went_then : (f h k : ℕ → Bool) (m n : ℕ) (but : Option ℕ) (s u v : State Store)
        (ts us vs : List (Option Value)) →
        ((x : ℕ) → k x ≡ true → f x ≡ true) → ((x : ℕ) → k x ≡ true → h x ≡ true) → m ≤ n
        → Went ops g f m None s ts u us → Went ops g h n but u us v vs → Went ops g k m but s ts v vs
    went_then f h k m n but s u v ts us vs kf kh le a b = record {
      left = let x = a.left in let y = b.left in omega arith;
      first = b.first ∙ a.first;
      frame = b.frame ∙ a.frame;
      onward = onward_then s.mem u.mem v.mem a.onward b.onward;
      spared = λ x e. b.spared x (kh x e) ∙ a.spared x (kf x e);
      kept = λ j ge lt z. b.kept j ge (omega arith) z ∙ a.kept j ge lt tt;
    }

    -- temps change that are not kept
    pub went_set : (f k : ℕ → Bool) (m n : ℕ) (b c : Option ℕ) (s u : State Store) (ts us : List (Option Value)) (j : ℕ)
        (v : Option Value) → ((x : ℕ) → k x ≡ true → f x ≡ true) → m ≤ n
        → ((i : ℕ) → i < m → IsApart c i → IsApart b i × (i ≢ j)) → Went ops g f n b s ts u us →
        Went ops g k m c s ts u (slice_set us j v)
    went_set f k m n b c s u ts us j v kf le away a = record {
      left = a.left;
      first = a.first;
      frame = a.frame;
      onward = a.onward;
      spared = λ x e. a.spared x (kf x e);
      kept = λ i ge lt z. get_set_other us j i v (away i lt z).1 ∙ a.kept i ge (omega arith) (away i lt z).0;
    }

    -- the same way, of which less is asked
    pub went_less : (f k : ℕ → Bool) (m n : ℕ) (b c : Option ℕ) (s u : State Store) (ts us : List (Option Value)) →
        ((x : ℕ) → k x ≡ true → f x ≡ true) → m ≤ n
        → ((i : ℕ) → i < m → IsApart c i → IsApart b i) → Went ops g f n b s ts u us → Went ops g k m c s ts u us
    went_less f k m n b c s u ts us kf le away a = record {
      left = a.left;
      first = a.first;
      frame = a.frame;
      onward = a.onward;
      spared = λ x e. a.spared x (kf x e);
      kept = λ i ge lt z. a.kept i ge (omega arith) (away i lt z);
    }

    -- ---- agreement

    pub agrees_set : (b c : Option ℕ) (s : State Store) (ts : List (Option Value)) (j : ℕ) (v : Option Value) →
        IsFree g j
        → ((x : ℕ) (h : Home) → g.home x ≡ Some h → IsApart c h.temp → IsApart b h.temp × (h.temp ≢ j)) →
        Agrees ops g b s ts → Agrees ops g c s (slice_set ts j v)
    agrees_set b c s ts j v free away a = record {
      room = length-set ts j v ∙ a.room;
      count = a.count;
      variable = λ x h e z o q. get_set_other ts j h.temp v (away x h e z).1 ∙ a.variable x h e (away x h e z).0 o q;
      typed = a.typed;
      object = λ n t e. get_set_other ts j t v (free n t e) ∙ a.object n t e;
      there = a.there;
      sound = a.sound;
      within = a.within;
      high = a.high;
    }

    pub agrees_any : (c : Option ℕ) (s : State Store) (ts : List (Option Value)) → Agrees ops g None s ts →
        Agrees ops g c s ts
    agrees_any c s ts a = record {
      room = a.room;
      count = a.count;
      variable = λ x h e z o q. a.variable x h e tt o q;
      typed = a.typed;
      object = a.object;
      there = a.there;
      sound = a.sound;
      within = a.within;
      high = a.high;
    }

    -- the temp that is left out is no variable's
    pub agrees_own : (j : ℕ) (s : State Store) (ts : List (Option Value)) → g.fixed ≤ j → Agrees ops g (Some j) s ts →
        Agrees ops g None s ts
    agrees_own j s ts le a = record {
      room = a.room;
      count = a.count;
      variable = λ x h e z o q. a.variable x h e (λ i. let lt = scene.home_below x h e in absurd (omega arith)) o q;
      typed = a.typed;
      object = a.object;
      there = a.there;
      sound = a.sound;
      within = a.within;
      high = a.high;
    }

    -- a temp of an expression changes
    pub agrees_scratch : (s : State Store) (ts : List (Option Value)) (j : ℕ) (v : Option Value) → g.fixed ≤ j →
        Agrees ops g None s ts → Agrees ops g None s (slice_set ts j v)
    agrees_scratch s ts j v le a =
        agrees_set None None s ts j v (free_own j le)
        (λ x h e z. (tt, λ i. let lt = scene.home_below x h e in absurd (omega arith))) a

    -- memory goes on
    pub agrees_memory : (b : Option ℕ) (s : State Store) (ts : List (Option Value)) (m : Store) → IsOnward ops s.mem m →
        Agrees ops g b s ts → Agrees ops g b (record s { mem = m }) ts
    agrees_memory b s ts m on a = record {
      room = a.room;
      count = a.count;
      variable = a.variable;
      typed = a.typed;
      object = λ n t e. a.object n t e
          ∙ ap (λ z. Some (Some z)) (sym (on.whole (s.first + n) data_permissions
          (let all = a.there in let lt = scene.spot_counted n t e in omega arith)));
      there = let all = a.there in let le = on.count in omega arith;
      sound = on.sound a.sound;
      within = a.within;
      high = a.high;
    }

    pub went_memory : (f : ℕ → Bool) (n : ℕ) (b : Option ℕ) (s u : State Store) (ts us : List (Option Value))
        (m : Store) →
        IsOnward ops u.mem m → Went ops g f n b s ts u us → Went ops g f n b s ts (record u { mem = m }) us
    went_memory f n b s u ts us m on a =
        record {
          left = a.left;
          first = a.first;
          frame = a.frame;
          onward = onward_then s.mem u.mem m a.onward on;
          spared = a.spared;
          kept = a.kept;
        }

    -- a variable gets the value that stands in its home already
    pub agrees_variable : (x : ℕ) (h : Home) (s : State Store) (ts : List (Option Value)) (v : Value) →
        g.home x ≡ Some h →
        slice_get ts h.temp ≡ Some (Some v) → IsOf (kind_of h.kind) v
        → Agrees ops g (Some h.temp) s ts → Agrees ops g None (record s { vars = slice_set s.vars x (Some v) }) ts
    agrees_variable x h s ts v home value typed a = record {
      room = a.room;
      count = length-set s.vars x (Some v) ∙ a.count;
      variable = λ y i e z o q. ⊎_elim
          (λ same. let e1 : g.home x ≡ Some i = ap g.home (sym same) ∙ e in
          let hi : h ≡ i = some_same h i (sym home ∙ e1) in
          let here : Some (Some v) ≡ Some o =
          sym (get_set_same s.vars x (Some v) lt)
          ∙ ap (λ k. slice_get (slice_set s.vars x (Some v)) k) (sym same) ∙ q in
          let vo : Some v ≡ o = some_same (Some v) o here in
          ap (λ k. slice_get ts k.temp) (sym hi) ∙ value ∙ ap (λ k. Some (Some (or_zero i.kind k))) vo)
          (λ other. a.variable y i e (λ t. other (scene.homes_differ y x i h e home t)) o
          (sym (get_set_other s.vars x y (Some v) other) ∙ q)) (cases_eq y x);
      typed = λ y i e o q. ⊎_elim
          (λ same. let e1 : g.home x ≡ Some i = ap g.home (sym same) ∙ e in
          let hi : h ≡ i = some_same h i (sym home ∙ e1) in
          let here : Some (Some v) ≡ Some (Some o) =
          sym (get_set_same s.vars x (Some v) lt)
          ∙ ap (λ k. slice_get (slice_set s.vars x (Some v)) k) (sym same) ∙ q in
          let vo : v ≡ o = some_same v o (some_same (Some v) (Some o) here) in
          subst (λ k. IsOf (kind_of k.kind) o) hi (subst (IsOf (kind_of h.kind)) vo typed))
          (λ other. a.typed y i e o (sym (get_set_other s.vars x y (Some v) other) ∙ q)) (cases_eq y x);
      object = a.object;
      there = a.there;
      sound = a.sound;
      within = a.within;
      high = a.high;
    }
      where
        lt : x < length s.vars
        lt = let below = scene.home_counted x h home in let is = a.count in omega arith

    -- ---- a temp that stays

    pub stays : (later : Exs) (f : ℕ → Bool) (from n at : ℕ) (b : Option ℕ) (u v : State Store)
        (us vs : List (Option Value)) (x : Value) → g.fixed ≤ from → Stays g later from n at →
        ((i : ℕ) → spare i later ≡ true → f i ≡ true)
        → ((i : ℕ) → from ≤ i → i < n → IsApart b i) → Agrees ops g None u us → Agrees ops g None v vs →
        Went ops g f n b u us v vs → slice_get us at ≡ Some (Some x) → slice_get vs at ≡ Some (Some x)
    stays later f from n at b u v us vs x le (own ge lt) sp away au av went e =
        went.kept at (omega arith) lt (away at ge lt) ∙ e
    stays later f from n at b u v us vs x le (variable {x = i} {h = h} home z) sp away au av went e =
        let o = get_or u.vars i None in
        let there : slice_get u.vars i ≡ Some o = slice_get-get_or u.vars i None (let below = scene.home_counted i h
        home in let is = au.count in omega arith) in
        av.variable i h home tt o (went.spared i (sp i z) ∙ there) ∙ sym (au.variable i h home tt o there) ∙ e
    stays later f from n at b u v us vs x le (object {o = o} spot) sp away au av went e =
        av.object o at spot ∙ ap (λ z. Some (Some z))
        (ap (λ z. ops.whole v.mem (z + o) data_permissions) went.first
        ∙ went.onward.whole (u.first + o) data_permissions
        (let all = au.there in let lt = scene.spot_counted o at spot in omega arith)) ∙ sym (au.object o at spot)
        ∙ e

    pub stays_below : (later : Exs) (from n at : ℕ) → g.fixed ≤ n → Stays g later from n at → at < n
    stays_below later from n at le (own ge lt) = lt
    stays_below later from n at le (variable {x = x} {h = h} home z) = let lt = scene.home_below x h home in omega arith
    stays_below later from n at le (object {o = o} {t = t} spot) = let lt = scene.spot_below o t spot in omega arith

    -- ---- ways one behind the other

    pub done_start : (f : ℕ → Bool) (m : Mark) (s : State Store) (ts : List (Option Value)) → Agrees ops g None s ts →
        Done ops g f m s ts s ts
    done_start f m s ts a = record { agrees = a; went = went_nowhere f m.temps s ts }

    pub done_less : (f k : ℕ → Bool) (m n : Mark) (s u : State Store) (ts us : List (Option Value)) →
        ((x : ℕ) → k x ≡ true → f x ≡ true) → m.temps ≤ n.temps → Done ops g f n s ts u us → Done ops g k m s ts u us
    done_less f k m n s u ts us kf le a =
        record {
          agrees = a.agrees;
          went = went_less f k m.temps n.temps None None s u ts us kf le (λ i lt z. tt) a.went;
        }

    pub done_then : (f h k : ℕ → Bool) (m n : Mark) (s u v : State Store) (ts us vs : List (Option Value)) →
        ((x : ℕ) → k x ≡ true → f x ≡ true) → ((x : ℕ) → k x ≡ true → h x ≡ true) → m.temps ≤ n.temps
        → Done ops g f m s ts u us → Done ops g h n u us v vs → Done ops g k m s ts v vs
    done_then f h k m n s u v ts us vs kf kh le a b =
        record { agrees = b.agrees; went = went_then f h k m.temps n.temps None s u v ts us vs kf kh le a.went b.went }

    pub done_valued : (k : TacKind) (f h i : ℕ → Bool) (to : ℕ) (m n : Mark) (s u z : State Store)
        (ts us zs : List (Option Value)) (v : Value) → ((x : ℕ) → i x ≡ true → f x ≡ true) →
        ((x : ℕ) → i x ≡ true → h x ≡ true) → m.temps ≤ n.temps
        → Done ops g f m s ts u us → Valued ops g k h to n u us v z zs → Valued ops g k i to m s ts v z zs
    done_valued k f h i to m n s u z ts us zs v kf kh le a b =
        record {
          agrees = b.agrees;
          went = went_then f h i m.temps n.temps (Some to) s u z ts us zs kf kh le a.went b.went;
          value =
              b.value;
          typed = b.typed;
        }

    pub done_labelled : (f : ℕ → Bool) (n : ℕ) (m : Mark) (s u : State Store) (ts us : List (Option Value)) →
        Done ops g f (labelled n m) s ts u us → Done ops g f m s ts u us
    done_labelled f n m s u ts us a = record { agrees = a.agrees; went = a.went }
