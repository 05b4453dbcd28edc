-- Uses and addresses that are taken: what changes in the state, and what stands for it.
use Rattle.std.proofs.Common.{◌≡◌, ℕ, zero, suc, ◌+◌, ◌<◌, ◌⊎◌, inl, inr, ⊎_elim, Bool, true, false, List, [], ◌∷◌}
use Rattle.std.proofs.Common.{◌++◌, length, map, Option, Some, None, refl, sym, ap, subst, ◌∙◌, arith}
use Rattle.std.proofs.lemmas.Bool.{eq-eqb, ne_eqb}
use Rattle.std.proofs.Math.Bool.{or-false, or-true}
use Rattle.std.specs.Prelude.{slice_get, slice_set, ◌==◌, ◌&&◌, ◌||◌, bytes_eq, if◌then◌else◌}
use Rattle.std.specs.Global.{Vec}
use Rattle.ck_base.specs.declared.positions.Pos.{Pos}
use Rattle.c_tree.specs.declared.typed.Typed.{Typed}
use Rattle.c_tree.specs.Types as types
use Rattle.c_tree.specs.Types.{Ty, Void, Pointer}
use Rattle.c_tree.specs.Terms.{Global, Fun, Var, Address, Term, term, step}
use Rattle.c_tree.specs.Conversions as meant
use Rattle.c_tree.specs.Conversions.{operand_type, is_place}
use Rattle.c_tree.specs.Expressions.{gives, static_type, routine_type, address, taken}
use Rattle.c_expressions.specs.Facts.{local_of}
use Rattle.c_operators.specs.Rules.{address_of}
use Rattle.c_elaborator.specs.Rules.{giving_leaf, using_object, using_function}
use Rattle.c_elaborator.proofs.Growing.{begins_same}
use Rattle.c_tree.specs.Scopes.{StaticState, LocalState, RoutineState, State, need, change, ◌>>◌, or_else, first_use}
use Rattle.c_tree.specs.Scopes.{with_changed, changed_at, use_static, use_routine, take_address}
use Rattle.c_tree.specs.Declarations.{linked_from}
use Rattle.c_tree.specs.Views.{types_of, actions_of}
use Rattle.c_types.specs.declared.scopes.Scopes.{Scopes}
use Rattle.c_types.specs.Stands.{Stands, object_of, static_seen, routine_seen, local_seen, tag_seen}
use Rattle.c_types.proofs.Looking.{seen_length}
use Rattle.c_types.proofs.Records.{push_cases, slice_get-slice_set}
use Rattle.c_elaborator.specs.declared.work.Used.{Used}
use Rattle.c_elaborator.specs.declared.work.Used.TheVariants as used
use Rattle.c_elaborator.specs.declared.work.Use.{Use}
use Rattle.c_elaborator.specs.declared.work.Work.{Work}
use Rattle.c_elaborator.specs.Work.{Shows, UseIsThere, filling_of, definition_of, option_seen, body_seen, seen_of}
use Rattle.c_elaborator.specs.Work.{is_object}
use Rattle.c_elaborator.specs.Work.{is_function, is_among, first_place}
use Rattle.c_elaborator.specs.Answers.{Quiet, Still, unused_static, unused_routine, untaken_local}

-- ---- lists

-- what a view does not see may change
through : {A B : Type 0} (f : A → B) (h : A → A) (xs : List A) → ((a : A) → f (h a) ≡ f a) → map f (map h xs) ≡ map f xs
through f h [] e = refl
through f h (x ∷ xs) e = ap (λ y. y ∷ map f (map h xs)) (e x) ∙ ap (λ ys. f x ∷ ys) (through f h xs e)

same_through : {A B : Type 0} (f : A → B) (h : A → A) (xs ys : List A) → ((a : A) → f (h a) ≡ f a) →
    map h ys ≡ map h xs → map f ys ≡ map f xs
same_through f h xs ys e q = sym (through f h ys e) ∙ ap (map f) q ∙ through f h xs e

map_set : {A B : Type 0} (h : A → B) (xs : List A) (k : ℕ) (x y : A) → slice_get xs k ≡ Some x → h y ≡ h x →
    map h (slice_set xs k y) ≡ map h xs
map_set h [] k x y e q = absurd cc
map_set h (z ∷ xs) zero x y e q = let i : z ≡ x = cc in ap (λ b. b ∷ map h xs) (q ∙ ap h (sym i))
map_set h (z ∷ xs) (suc k) x y e q = ap (λ bs. h z ∷ bs) (map_set h xs k x y e q)

map_changed : {A B : Type 0} (h : A → B) (f : A → A) (xs : List A) (k : ℕ) (o : Option A) → slice_get xs k ≡ o →
    ((a : A) → h (f a) ≡ h a) → map h (with_changed f o xs k) ≡ map h xs
map_changed h f xs k None e q = refl
map_changed h f xs k (Some x) e q = map_set h xs k x (f x) e (q x)

pub changed_same : {A B : Type 0} (h : A → B) (f : A → A) (xs : List A) (k : ℕ) → ((a : A) → h (f a) ≡ h a) →
    map h (changed_at f xs k) ≡ map h xs
changed_same h f xs k q = map_changed h f xs k (slice_get xs k) refl q

pub set_at : {A : Type 0} (xs : List A) (k j : ℕ) (y z : A) → slice_get (slice_set xs k y) j ≡ Some z →
    ((j ≡ k) × (y ≡ z)) ⊎ ((j ≡ k → ⊥) × (slice_get xs j ≡ Some z))
set_at [] k j y z e = absurd cc
set_at (x ∷ xs) zero zero y z e = inl (refl, cc)
set_at (x ∷ xs) zero (suc j) y z e = inr ((λ q. absurd (omega arith)), e)
set_at (x ∷ xs) (suc k) zero y z e = inr ((λ q. absurd (omega arith)), e)
set_at (x ∷ xs) (suc k) (suc j) y z e =
    ⊎_elim (λ a. inl (ap suc a.0, a.1)) (λ b. inr ((λ q. b.0 (omega arith)), b.1)) (set_at xs k j y z e)

-- what each of the items is is so of a changed one too
each_set : {A : Type 0} (P : ℕ → A → Type 0) (xs : List A) (k : ℕ) (y : A) →
    ((j : ℕ) (x : A) → slice_get xs j ≡ Some x → P j x) → P k y → (j : ℕ) (x : A) →
    slice_get (slice_set xs k y) j ≡ Some x → P j x
each_set {A} P xs k y h q j x e =
    ⊎_elim (λ a. subst (λ (i : ℕ). P i x) (sym a.0) (subst (λ (z : A). P k z) a.1 q)) (λ b. h j x b.1)
    (set_at xs k j y x e)

-- ---- uses

push_place : (test : Used → Bool) (us : List Use) (u : Use) →
    first_place test (us ++ u ∷ []) ≡ or_else (first_place test us) (if test u.what then Some u.pos else None)
push_place test [] u = refl
push_place test (v ∷ us) u =
    elim (test v.what) as (λ b. (if b then Some v.pos else first_place test (us ++ u ∷ []))
    ≡ or_else (if b then Some v.pos else first_place test us) (if test u.what then Some u.pos else None))
    [ true ↦ refl | false ↦ push_place test us u ]

or_none : {A : Type 0} (o : Option A) → o ≡ or_else o None
or_none None = refl
or_none (Some a) = refl

first_is : (o : Option Pos) (p : Pos) → first_use o p ≡ or_else o (Some p)
first_is None p = refl
first_is (Some q) p = refl

pub other_use : (test : Used → Bool) (us : List Use) (u : Use) (o : Option Pos) → test u.what ≡ false →
    o ≡ first_place test us → o ≡ first_place test (us ++ u ∷ [])
other_use test us u o f e =
    let g : (if test u.what then Some u.pos else None) ≡ None = ap (λ b. if b then Some u.pos else None) f in
    e ∙ or_none (first_place test us) ∙ ap (or_else (first_place test us)) (sym g) ∙ sym (push_place test us u)

pub this_use : (test : Used → Bool) (us : List Use) (u : Use) (o : Option Pos) → test u.what ≡ true →
    o ≡ first_place test us → first_use o u.pos ≡ first_place test (us ++ u ∷ [])
this_use test us u o f e =
    let g : (if test u.what then Some u.pos else None) ≡ Some u.pos = ap (λ b. if b then Some u.pos else None) f in
    first_is o u.pos ∙ ap (λ x. or_else x (Some u.pos)) e ∙ ap (or_else (first_place test us)) (sym g)
    ∙ sym (push_place test us u)

same_number : (k : ℕ) → (k == k) ≡ true
same_number k = eq-eqb k k refl

other_number : (k j : ℕ) → (j ≡ k → ⊥) → (k == j) ≡ false
other_number k j h = ne_eqb k j (λ e. h (sym e))

pub uses_set : {G : Type 0} (of : G → Option Pos) (f : G → G) (xs : List G) (k : ℕ) (g : G) (test : ℕ → Used → Bool)
    (us : List Use) (u : Use) → slice_get xs k ≡ Some g → of (f g) ≡ first_use (of g) u.pos →
    ((j : ℕ) → test j u.what ≡ (k == j)) →
    ((j : ℕ) (x : G) → slice_get xs j ≡ Some x → of x ≡ first_place (test j) us) → (j : ℕ) (x : G) →
    slice_get (slice_set xs k (f g)) j ≡ Some x → of x ≡ first_place (test j) (us ++ u ∷ [])
uses_set {G} of f xs k g test us u e q t h j x i =
    ⊎_elim
    (λ a. subst (λ (n : ℕ). of x ≡ first_place (test n) (us ++ u ∷ [])) (sym a.0)
    (ap of (sym a.1) ∙ q ∙ this_use (test k) us u (of g) (t k ∙ same_number k) (h k g e)))
    (λ b. other_use (test j) us u (of x) (t j ∙ other_number k j b.0) (h j x b.1))
    (set_at xs k j (f g) x i)

-- ---- what is declared does not look at uses and addresses

linked_through : (k : ℕ) (xs : List StaticState) (n : List ℕ) →
    linked_from k (map unused_static xs) n ≡ linked_from k xs n
linked_through k [] n = refl
linked_through k (g ∷ gs) n =
    ap (λ o. if g.linked && bytes_eq g.name.text n then Some k else o) (linked_through (k + 1) gs n)

linked_same : (xs ys : List StaticState) (n : List ℕ) → map unused_static ys ≡ map unused_static xs →
    linked_from 0 ys n ≡ linked_from 0 xs n
linked_same xs ys n e = sym (linked_through 0 ys n) ∙ ap (λ zs. linked_from 0 zs n) e ∙ linked_through 0 xs n

pub stands_still : (sc : Scopes) (p : Typed) (s t : State) → Still s t → t.scopes ≡ s.scopes → t.tags ≡ s.tags →
    Stands sc p s → Stands sc p t
stands_still sc p s t q a b h = record {
  scopes = rw a h.scopes;
  tags = h.tags ∙ ap (map tag_seen) (sym b);
  tag_types = h.tag_types;
  kinds = h.kinds;
  tagged = h.tagged;
  members = rw b h.members;
  objects = h.objects ∙ sym (same_through object_of unused_static s.statics t.statics (λ g. refl) q.statics);
  globals = h.globals ∙ sym (same_through static_seen unused_static s.statics t.statics (λ g. refl) q.statics);
  begun = h.begun ∙ sym (same_through (λ (f : RoutineState). f.begun) unused_routine s.routines t.routines
      (λ g. refl) q.routines);
  routines = h.routines ∙ sym (same_through routine_seen unused_routine s.routines t.routines (λ g. refl) q.routines);
  locals = h.locals ∙ sym (same_through local_seen untaken_local s.locals t.locals (λ g. refl) q.locals);
  int = h.int;
  linked = λ n. h.linked n ∙ sym (linked_same s.statics t.statics n q.statics);
}

-- ---- a use of an object

pub still_static : (k : ℕ) (p : Pos) (s : State) → Still s (use_static k p s)
still_static k p s = record {
  tags = omega arith;
  kinds = λ n j h. h;
  statics = changed_same unused_static (λ (g : StaticState). record g { used = first_use g.used p }) s.statics k
      (λ g. refl);
  routines = refl;
  locals = refl;
  pending = refl;
}

pub still_routine : (k : ℕ) (p : Pos) (s : State) → Still s (use_routine k p s)
still_routine k p s = record {
  tags = omega arith;
  kinds = λ n j h. h;
  statics = refl;
  routines = changed_same unused_routine (λ (g : RoutineState). record g { used = first_use g.used p }) s.routines k
      (λ g. refl);
  locals = refl;
  pending = refl;
}

pub still_local : (k : ℕ) (s : State) → Still s (take_address k s)
still_local k s = record {
  tags = omega arith;
  kinds = λ n j h. h;
  statics = refl;
  routines = refl;
  locals = changed_same untaken_local (λ (v : LocalState). record v { addressed = true }) s.locals k (λ g. refl);
  pending = refl;
}

-- something is at a place of a list
below : {A : Type 0} (xs : List A) (k : ℕ) (x : A) → slice_get xs k ≡ Some x → k < length xs
below [] k x e = absurd cc
below (y ∷ xs) zero x e = omega arith
below (y ∷ xs) (suc k) x e = let h = below xs k x e in omega arith

pushed_use : (objects functions : ℕ) (us : List Use) (u : Use) →
    ((j : ℕ) (v : Use) → slice_get us j ≡ Some v → UseIsThere objects functions v.what) →
    UseIsThere objects functions u.what → (j : ℕ) (v : Use) → slice_get (us ++ u ∷ []) j ≡ Some v →
    UseIsThere objects functions v.what
pushed_use objects functions us u h q j v e =
    ⊎_elim (λ a. h j v a) (λ b. subst (λ (x : Use). UseIsThere objects functions x.what) b.1 q) (push_cases us u v j e)

pub shows_object : (w : Work) (us : Vec Use) (k : ℕ) (p : Pos) (s : State) (g : StaticState) →
    us.items ≡ w.uses.items ++ record { what = used.Object k; pos = p } ∷ [] → slice_get s.statics k ≡ Some g →
    Shows w s → Shows (record w { uses = us }) (use_static k p s)
shows_object w us k p s g q e h =
    let f : StaticState → StaticState = λ x. record x { used = first_use x.used p } in
    let t = use_static k p s in
    let still = still_static k p s in
    let set : t.statics ≡ slice_set s.statics k (f g) =
    ap (λ (o : Option StaticState). with_changed f o s.statics k) e in
    let count : length t.statics ≡ length s.statics =
    seen_length unused_static unused_static t.statics s.statics still.statics in
    let u : Use = record { what = used.Object k; pos = p } in
    record {
      stands = stands_still w.nodes.scopes w.nodes.p s t still refl refl h.stands;
      texts = h.texts;
      used_objects = λ j x i. rw q (uses_set (λ (y : StaticState). y.used) f s.statics k g is_object w.uses.items u e
          refl (λ n. refl) h.used_objects j x (rw set at i));
      used_functions = λ j x i. rw q (other_use (is_function j) w.uses.items u x.used refl (h.used_functions j x i));
      addressed = h.addressed;
      fillings = λ j x i. each_set (λ n (y : StaticState). y.initial ≡ filling_of n w.fillings.items) s.statics k
          (f g) h.fillings (h.fillings k g e) j x (rw set at i);
      definitions = h.definitions;
      waiting = h.waiting;
      closed = record {
        file = h.closed.file;
        members = h.closed.members;
        values = h.closed.values;
        uses = λ j v i. rw count (pushed_use (length s.statics) (length s.routines) w.uses.items u h.closed.uses
            (below s.statics k g e) j v (rw q at i));
        addressed = h.closed.addressed;
        fillings = λ j v i. rw count (h.closed.fillings j v i);
        definitions = λ j d i. let there = h.closed.definitions j d i in
            record { function = there.function; body = there.body; vars = there.vars };
      };
    }

pub shows_function : (w : Work) (us : Vec Use) (k : ℕ) (p : Pos) (s : State) (g : RoutineState) →
    us.items ≡ w.uses.items ++ record { what = used.Function k; pos = p } ∷ [] → slice_get s.routines k ≡ Some g →
    Shows w s → Shows (record w { uses = us }) (use_routine k p s)
shows_function w us k p s g q e h =
    let f : RoutineState → RoutineState = λ x. record x { used = first_use x.used p } in
    let t = use_routine k p s in
    let still = still_routine k p s in
    let set : t.routines ≡ slice_set s.routines k (f g) =
    ap (λ (o : Option RoutineState). with_changed f o s.routines k) e in
    let count : length t.routines ≡ length s.routines =
    seen_length unused_routine unused_routine t.routines s.routines still.routines in
    let u : Use = record { what = used.Function k; pos = p } in
    record {
      stands = stands_still w.nodes.scopes w.nodes.p s t still refl refl h.stands;
      texts = h.texts;
      used_objects = λ j x i. rw q (other_use (is_object j) w.uses.items u x.used refl (h.used_objects j x i));
      used_functions = λ j x i. rw q (uses_set
          (λ (y : RoutineState). y.used) f s.routines k g is_function w.uses.items u e refl
          (λ n. refl) h.used_functions j x (rw set at i));
      addressed = h.addressed;
      fillings = h.fillings;
      definitions = λ j x i.
          each_set (λ n (y : RoutineState). option_seen body_seen y.body
          ≡ option_seen (seen_of (types_of w.nodes.p.types) (actions_of w.nodes.p))
          (definition_of n w.definitions.items))
          s.routines k (f g) h.definitions (h.definitions k g e) j x (rw set at i);
      waiting = h.waiting;
      closed = record {
        file = h.closed.file;
        members = h.closed.members;
        values = h.closed.values;
        uses = λ j v i. rw count (pushed_use (length s.statics) (length s.routines) w.uses.items u h.closed.uses
            (below s.routines k g e) j v (rw q at i));
        addressed = h.closed.addressed;
        fillings = h.closed.fillings;
        definitions = λ j d i. let there = h.closed.definitions j d i in
            record { function = rw count there.function; body = there.body; vars = there.vars };
      };
    }

-- ---- the address of a local

push_among : (j : ℕ) (ks : List ℕ) (k : ℕ) → is_among j (ks ++ k ∷ []) ≡ (is_among j ks || (k == j))
push_among j [] k = or-false (k == j)
push_among j (i ∷ ks) k =
    elim (i == j) as (λ b. (b || is_among j (ks ++ k ∷ [])) ≡ ((b || is_among j ks) || (k == j)))
    [ true ↦ refl | false ↦ push_among j ks k ]

pub shows_address : (w : Work) (ks : Vec ℕ) (k : ℕ) (s : State) (v : LocalState) →
    ks.items ≡ w.addressed.items ++ k ∷ [] → slice_get s.locals k ≡ Some v → Shows w s →
    Shows (record w { addressed = ks }) (take_address k s)
shows_address w ks k s v q e h =
    let f : LocalState → LocalState = λ x. record x { addressed = true } in
    let t = take_address k s in
    let still = still_local k s in
    let set : t.locals ≡ slice_set s.locals k (f v) = ap (λ (o : Option LocalState). with_changed f o s.locals k) e in
    let count : length t.locals ≡ length s.locals =
    seen_length untaken_local untaken_local t.locals s.locals still.locals in
    let old = w.addressed.items in
    record {
      stands = stands_still w.nodes.scopes w.nodes.p s t still refl refl h.stands;
      texts = h.texts;
      used_objects = h.used_objects;
      used_functions = h.used_functions;
      addressed = λ j x i. rw q
          (⊎_elim
          (λ a. subst (λ (n : ℕ). x.addressed ≡ is_among n (old ++ k ∷ [])) (sym a.0)
          (ap (λ (y : LocalState). y.addressed) (sym a.1)
          ∙ sym (push_among k old k ∙ ap (λ b. is_among k old || b) (same_number k)
          ∙ or-true (is_among k old))))
          (λ b. h.addressed j x b.1
          ∙ sym (push_among j old k ∙ ap (λ c. is_among j old || c) (other_number k j b.0)
          ∙ or-false (is_among j old)))
          (set_at s.locals k j (f v) x (rw set at i)));
      fillings = h.fillings;
      definitions = h.definitions;
      waiting = h.waiting;
      closed = record {
        file = h.closed.file;
        members = h.closed.members;
        values = h.closed.values;
        uses = h.closed.uses;
        addressed = λ j i x. rw count (⊎_elim (λ a. h.closed.addressed j i a)
            (λ b. subst (λ (n : ℕ). n < length s.locals) b.1 (below s.locals k v e))
            (push_cases old k i j (rw q at x)));
        fillings = h.closed.fillings;
        definitions = λ j d i. let there = h.closed.definitions j d i in
            record { function = there.function; body = there.body; vars = there.vars };
      };
    }

-- ---- what the steps are

pub object_is : (k : ℕ) (p : Pos) (u : Ty) (s : State) (g : StaticState) → slice_get s.statics k ≡ Some g → u ≡ g.of →
    using_object k p s ≡ giving_leaf (Global k) u p (use_static k p s)
object_is k p u s g e q =
    let f : StaticState → StaticState = λ x. record x { used = first_use x.used p } in
    let set : (use_static k p s).statics ≡ slice_set s.statics k (f g) =
    ap (λ (o : Option StaticState). with_changed f o s.statics k) e in
    ap (λ (o : Option StaticState). giving_leaf (Global k) (static_type o) p (use_static k p s))
    (ap (λ xs. slice_get xs k) set ∙ slice_get-slice_set s.statics k g (f g) e)
    ∙ ap (λ (t : Ty). giving_leaf (Global k) t p (use_static k p s)) (sym q)

-- no use of what is not there
pub no_object_is : (k : ℕ) (p : Pos) (u : Ty) (s : State) → slice_get s.statics k ≡ None → u ≡ Void →
    using_object k p s ≡ giving_leaf (Global k) u p s
no_object_is k p u s e q =
    let f : StaticState → StaticState = λ x. record x { used = first_use x.used p } in
    let same : use_static k p s ≡ s =
    ap (λ (o : Option StaticState). record s { statics = with_changed f o s.statics k }) e in
    ap (λ (t : State). giving_leaf (Global k) (static_type (slice_get t.statics k)) p t) same
    ∙ ap (λ (o : Option StaticState). giving_leaf (Global k) (static_type o) p s) e
    ∙ ap (λ (t : Ty). giving_leaf (Global k) t p s) (sym q)

pub no_function_is : (k : ℕ) (p : Pos) (u : Ty) (s : State) → slice_get s.routines k ≡ None → u ≡ Void →
    using_function k p s ≡ giving_leaf (Fun k) u p s
no_function_is k p u s e q =
    let f : RoutineState → RoutineState = λ x. record x { used = first_use x.used p } in
    let same : use_routine k p s ≡ s =
    ap (λ (o : Option RoutineState). record s { routines = with_changed f o s.routines k }) e in
    ap (λ (t : State). giving_leaf (Fun k) (routine_type (slice_get t.routines k)) p t) same
    ∙ ap (λ (o : Option RoutineState). giving_leaf (Fun k) (routine_type o) p s) e
    ∙ ap (λ (t : Ty). giving_leaf (Fun k) t p s) (sym q)

pub function_is : (k : ℕ) (p : Pos) (u : Ty) (s : State) (g : RoutineState) → slice_get s.routines k ≡ Some g →
    u ≡ g.of → using_function k p s ≡ giving_leaf (Fun k) u p (use_routine k p s)
function_is k p u s g e q =
    let f : RoutineState → RoutineState = λ x. record x { used = first_use x.used p } in
    let set : (use_routine k p s).routines ≡ slice_set s.routines k (f g) =
    ap (λ (o : Option RoutineState). with_changed f o s.routines k) e in
    ap (λ (o : Option RoutineState). giving_leaf (Fun k) (routine_type o) p (use_routine k p s))
    (ap (λ xs. slice_get xs k) set ∙ slice_get-slice_set s.routines k g (f g) e)
    ∙ ap (λ (t : Ty). giving_leaf (Fun k) t p (use_routine k p s)) (sym q)

pub uses_quiet : (w : Work) (us : Vec Use) (more : List Use) → us.items ≡ w.uses.items ++ more →
    Quiet w (record w { uses = us })
uses_quiet w us more e = record {
  keeps = record {
    more_types = omega arith;
    more_terms = omega arith;
    more_actions = omega arith;
    types = λ k h. refl;
    terms = λ k h. refl;
    values = λ v. v;
    actions = λ v k h. refl;
    file = refl;
    tree = refl;
  };
  literals = begins_same w.nodes.p.literals;
  uses = (more, e);
  addressed = begins_same w.addressed.items;
  fillings = refl;
  definitions = refl;
  waiting = refl;
}

pub addressed_quiet : (w : Work) (ks : Vec ℕ) (more : List ℕ) → ks.items ≡ w.addressed.items ++ more →
    Quiet w (record w { addressed = ks })
addressed_quiet w ks more e = record {
  keeps = record {
    more_types = omega arith;
    more_terms = omega arith;
    more_actions = omega arith;
    types = λ k h. refl;
    terms = λ k h. refl;
    values = λ v. v;
    actions = λ v k h. refl;
    file = refl;
    tree = refl;
  };
  literals = begins_same w.nodes.p.literals;
  uses = begins_same w.uses.items;
  addressed = (more, e);
  fillings = refl;
  definitions = refl;
  waiting = refl;
}

pub address_is : (a : meant.Operand) (p : Pos) (s : State) → address a p s ≡ address_of a p (taken a.is s)
address_is a p s =
    elim (is_place a.is || types.is_function (operand_type a)) as
    (λ b. (need b 133 p >> change (taken a.is) >> gives (step Address a.is (Pointer (operand_type a)) p) p) s
    ≡ (need b 133 p >> gives (step Address a.is (Pointer (operand_type a)) p) p) (taken a.is s))
    [ true ↦ refl | false ↦ refl ]

pub taken_local : (x : Term) (k : ℕ) (s : State) → local_of x ≡ Some k → taken x s ≡ take_address k s
taken_local (term (Var j) xs t p) k s e = let i : j ≡ k = cc in ap (λ n. take_address n s) i
taken_local (term _ xs t p) k s e = absurd cc

-- the address of a local that is not there
pub taken_same : (x : Term) (k : ℕ) (s : State) → local_of x ≡ Some k → slice_get s.locals k ≡ None → taken x s ≡ s
taken_same x k s e h =
    let f : LocalState → LocalState = λ v. record v { addressed = true } in
    taken_local x k s e ∙ ap (λ (o : Option LocalState). record s { locals = with_changed f o s.locals k }) h

pub taken_none : (x : Term) (s : State) → local_of x ≡ None → taken x s ≡ s
taken_none (term (Var j) xs t p) s e = absurd cc
taken_none (term _ xs t p) s e = refl
