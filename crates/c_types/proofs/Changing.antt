-- Objects and functions that change.
use Rattle.std.proofs.Common.{◌≡◌, ℕ, zero, suc, ◌+◌, ◌<◌, Bool, cond, List, [], ◌∷◌, length, set, map, Option, Some}
use Rattle.std.proofs.Common.{None, refl, sym, ap, ◌∙◌}
use Rattle.std.specs.Prelude.{slice_get, ◌&&◌, bytes_eq}
use Rattle.std.proofs.lemmas.Option.{slice_get-get_or}
use Rattle.std.specs.Global.{Vec}
use Rattle.c_tree.specs.declared.typed.Typed.{Typed}
use Rattle.c_tree.specs.declared.typed.GlobalDef.{GlobalDef}
use Rattle.c_tree.specs.declared.typed.FunDef.{FunDef}
use Rattle.c_tree.specs.Views.{types_of}
use Rattle.c_tree.specs.Scopes.{State, StaticState, RoutineState, changed_at, with_changed, change_static}
use Rattle.c_tree.specs.Scopes.{change_routine}
use Rattle.c_tree.specs.Declarations.{linked_from}
use Rattle.c_types.specs.declared.scopes.Scopes.{Scopes}
use Rattle.c_types.specs.declared.scopes.ObjectInfo.{ObjectInfo}
use Rattle.c_types.specs.Stands.{Stands, object_of, static_seen, global_kept, routine_seen, fun_kept}

-- ---- lists in which one item changes

pub changed_cons : {A : Type 0} (f : A → A) (x : A) (xs : List A) (k : ℕ) →
    changed_at f (x ∷ xs) (suc k) ≡ x ∷ changed_at f xs k
changed_cons {A} f x xs k = by_item (slice_get xs k)
  where
    by_item : (o : Option A) → with_changed f o (x ∷ xs) (suc k) ≡ x ∷ with_changed f o xs k
    by_item None = refl
    by_item (Some y) = refl

pub changed_same : {A : Type 0} (xs : List A) (k : ℕ) → changed_at (λ (x : A). x) xs k ≡ xs
changed_same [] k = refl
changed_same (x ∷ xs) zero = refl
changed_same {A} (x ∷ xs) (suc k) = changed_cons (λ (y : A). y) x xs k ∙ ap (λ ys. x ∷ ys) (changed_same xs k)

pub changed_const : {A : Type 0} (xs : List A) (k : ℕ) (a : A) → k < length xs →
    set xs k a ≡ changed_at (λ (x : A). a) xs k
changed_const {A} xs k a lt = sym (ap (λ o. with_changed (λ (x : A). a) o xs k) (slice_get-get_or xs k a lt))

pub changed_seen : {A B C : Type 0} (f : A → C) (g : B → C) (a : A → A) (b : B → B) (xs : List A) (ys : List B)
    (k : ℕ) → map f xs ≡ map g ys →
    ((x : A) (y : B) → slice_get xs k ≡ Some x → slice_get ys k ≡ Some y → f x ≡ g y → f (a x) ≡ g (b y)) →
    map f (changed_at a xs k) ≡ map g (changed_at b ys k)
changed_seen f g a b [] [] k e h = refl
changed_seen f g a b [] (y ∷ ys) k e h = absurd cc
changed_seen f g a b (x ∷ xs) [] k e h = absurd cc
changed_seen f g a b (x ∷ xs) (y ∷ ys) zero e h =
    let i : f x ≡ g y = cc in
    let j : map f xs ≡ map g ys = cc in
    let m = h x y refl refl i in
    cc
changed_seen f g a b (x ∷ xs) (y ∷ ys) (suc k) e h =
    let i : f x ≡ g y = cc in
    let j : map f xs ≡ map g ys = cc in
    let m = changed_seen f g a b xs ys k j h in
    ap (map f) (changed_cons a x xs k) ∙ both _ _ _ _ i m ∙ sym (ap (map g) (changed_cons b y ys k))
  where
    both : {X : Type 0} (u v : X) (us vs : List X) → u ≡ v → us ≡ vs → u ∷ us ≡ v ∷ vs
    both u v us vs d f = cc

pub changed_list : {A B : Type 0} (g : B → A) (a : A → A) (b : B → B) (ys : List B) (k : ℕ) →
    ((y : B) → a (g y) ≡ g (b y)) → changed_at a (map g ys) k ≡ map g (changed_at b ys k)
changed_list g a b [] k h = refl
changed_list g a b (y ∷ ys) zero h = ap (λ z. z ∷ map g ys) (h y)
changed_list g a b (y ∷ ys) (suc k) h =
    changed_cons a (g y) (map g ys) k ∙ ap (λ zs. g y ∷ zs) (changed_list g a b ys k h)
    ∙ sym (ap (map g) (changed_cons b y ys k))

-- ---- objects

linked_changed : (b : StaticState → StaticState) (j k : ℕ) (gs : List StaticState) (n : List ℕ) →
    ((y : StaticState) → (b y).linked ≡ y.linked) → ((y : StaticState) → (b y).name ≡ y.name) →
    linked_from j (changed_at b gs k) n ≡ linked_from j gs n
linked_changed b j k [] n u v = refl
linked_changed b j zero (g ∷ gs) n u v = rw (u g, v g) refl
linked_changed b j (suc k) (g ∷ gs) n u v =
    ap (λ xs. linked_from j xs n) (changed_cons b g gs k)
    ∙ ap (λ r. cond (g.linked && bytes_eq g.name.text n) (Some j) r) (linked_changed b (j + 1) k gs n u v)

pub statics_changed : (sc : Scopes) (v : Vec ObjectInfo) (p : Typed) (gs : List GlobalDef) (s : State) (k : ℕ)
    (a : ObjectInfo → ObjectInfo) (h : GlobalDef → GlobalDef) (b : StaticState → StaticState) → Stands sc p s →
    v.items ≡ changed_at a sc.objects.items k → gs ≡ changed_at h p.globals k →
    ((y : StaticState) → (b y).linked ≡ y.linked) → ((y : StaticState) → (b y).name ≡ y.name) →
    ((y : StaticState) → a (object_of y) ≡ object_of (b y)) →
    ((x : GlobalDef) (y : StaticState) → slice_get p.globals k ≡ Some x → slice_get s.statics k ≡ Some y →
    global_kept sc.file.now (types_of p.types) x ≡ static_seen y →
    global_kept sc.file.now (types_of p.types) (h x) ≡ static_seen (b y)) →
    Stands (record sc { objects = v }) (record p { globals = gs }) (change_static k b s)
statics_changed sc v p gs s k a h b st e f u w o g = record {
  scopes = st.scopes;
  tags = st.tags;
  tag_types = st.tag_types;
  kinds = st.kinds;
  tagged = st.tagged;
  members = st.members;
  objects = e ∙ ap (λ xs. changed_at a xs k) st.objects ∙ changed_list object_of a b s.statics k o;
  globals = rw f (changed_seen (global_kept sc.file.now (types_of p.types)) static_seen h b p.globals s.statics k
      st.globals g);
  begun = st.begun;
  routines = st.routines;
  locals = st.locals;
  int = st.int;
  linked = λ n. st.linked n ∙ sym (linked_changed b 0 k s.statics n u w);
}

-- ---- functions

pub routines_changed : (sc : Scopes) (v : Vec Bool) (p : Typed) (fs : List FunDef) (s : State) (k : ℕ) (a : Bool → Bool)
    (h : FunDef → FunDef) (b : RoutineState → RoutineState) → Stands sc p s → v.items ≡ changed_at a sc.begun.items k →
    fs ≡ changed_at h p.funs k → ((y : RoutineState) → a y.begun ≡ (b y).begun) →
    ((x : FunDef) (y : RoutineState) → slice_get p.funs k ≡ Some x → slice_get s.routines k ≡ Some y →
    fun_kept sc.file.now (types_of p.types) x ≡ routine_seen y →
    fun_kept sc.file.now (types_of p.types) (h x) ≡ routine_seen (b y)) →
    Stands (record sc { begun = v }) (record p { funs = fs }) (change_routine k b s)
routines_changed sc v p fs s k a h b st e f o g = record {
  scopes = st.scopes;
  tags = st.tags;
  tag_types = st.tag_types;
  kinds = st.kinds;
  tagged = st.tagged;
  members = st.members;
  objects = st.objects;
  globals = st.globals;
  begun = e ∙ ap (λ xs. changed_at a xs k) st.begun ∙ changed_list (λ (y : RoutineState). y.begun) a b s.routines k o;
  routines = rw f (changed_seen (fun_kept sc.file.now (types_of p.types)) routine_seen h b p.funs s.routines k
      st.routines g);
  locals = st.locals;
  int = st.int;
  linked = st.linked;
}
