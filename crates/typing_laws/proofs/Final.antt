-- The objects and functions of a typed program fit, and so does `main`.
use Rattle.std.proofs.Common.{◌≡◌, ℕ, zero, suc, ◌+◌, ◌<◌, ◌≤◌, Bool, true, false, cond, List, [], ◌∷◌, ◌++◌, length}
use Rattle.std.proofs.Common.{Option, Some, None, refl, sym, ap, subst, ◌∙◌, inl, inr, ◌⊎◌, ⊎_elim, arith}
use Rattle.std.proofs.Math.Nat.{zero-mod}
use Rattle.std.proofs.lemmas.Int.{ints}
use Rattle.std.specs.Prelude.{ℤ, pos, ◌+ℤ◌, ◌-ℤ◌, int_lt, ◌%◌, ◌^◌, slice_get, map, option_map, flat_map, if◌then◌else◌}
use Rattle.std.specs.Prelude.{◌&&◌, ◌||◌, ◌==◌, not, bytes_eq, codes}
use Rattle.std.specs.List.{position_or_len}
use Rattle.std.proofs.lemmas.Bool.{false≢true, not-true, and_parts, and_from, or_cases, or_left, or_right, eqb-true}
use Rattle.std.proofs.lemmas.Bool.{eq-eqb}
use Rattle.std.proofs.lemmas.Option.{none-some, same_Some, slice_get_within, slice_get-map}
use Rattle.ck_int.specs.declared.kinds.IntKind.{IntKind}
use Rattle.c_tree.specs.declared.typed.GlobalDef.{GlobalDef}
use Rattle.c_tree.specs.declared.typed.Link.{Link}
use Rattle.c_tree.specs.declared.typed.Target.{Target}
use Rattle.c_tree.specs.declared.typed.Target.TheVariants as targets
use Rattle.c_tree.specs.declared.typed.VarDef.{VarDef}
use Rattle.c_tree.specs.declared.typed.FunDef.{FunDef}
use Rattle.c_tree.specs.declared.typed.Typed.{Typed}
use Rattle.c_tree.specs.Types.{Ty, Void, Int, Cap, Pointer, Array, Tagged, Function, Const, Tys, no_types, also, int}
use Rattle.c_tree.specs.Types.{bare, in_signature, is_scalar, agree, all_agree, compatible, same, same_kind, same_truth}
use Rattle.c_tree.specs.Types.{count}
use Rattle.c_tree.specs.Terms.{Aim, To_global, To_literal, To_function, Pointing, Object, Variable, Routine, Text}
use Rattle.c_tree.specs.Terms.{numbers_from}
use Rattle.c_tree.specs.Scopes.{Reach, All, Within, Aiming, StaticState, LocalState, RoutineState, Body, State}
use Rattle.c_tree.specs.Scopes.{type_extent}
use Rattle.c_tree.specs.Layout.{Extent, size_limit}
use Rattle.c_tree.proofs.Sizes.{fitting_same}
use Rattle.cap_concentrate.specs.Rounding.{least_base, least_top, alignment, owned}
use Rattle.cap_concentrate.proofs.Laws.{owned_exact, owned_small}
use Rattle.c_tree.specs.Statics.{is_exact, is_near, aim_length, static_length, text_length}
use Rattle.typing_laws.proofs.Divides.{Multiple}
use Rattle.typing_laws.proofs.Placed.{Awaits, Reaches, Aims, AimingOk, AllAim, InitialOk, length_of_static}
use Rattle.c_tree.specs.Programs.{is_there, numbers_of, aim_with, count_before, term_with, action_with, is_main}
use Rattle.c_tree.specs.Programs.{has_main, program_of, typing}
use Rattle.c_tree.specs.Programs as programs
use Rattle.c_tree.specs.Views.{types_of, type_at, actions_of, action_at, no_action, IsOrdered, Shows, times_in}
use Rattle.c_tree.specs.Views as views
use Rattle.c_tree.specs.Typing.{Sound}
use Rattle.c_tree.specs.WellTyped.{holds, type_in, IsComplete, ParametersFit, FunctionFits, MainFits, OwnsBytes}
use Rattle.c_tree.specs.WellTyped.{LinkFits, GlobalFits, WellTyped, ActionFits, outside, declared}
use Rattle.typing_laws.specs.Fitting.{IsFit}
use Rattle.typing_laws.proofs.Agreeing.{refines, same_is, kinds_are, truths_are, agree_self}
use Rattle.typing_laws.proofs.Facts.{Sized, TypeOk, IsUsed, Inv}
use Rattle.typing_laws.proofs.Numbers.{extent_within_limit}
use Rattle.typing_laws.proofs.Wholes.{ParamsFit}
use Rattle.typing_laws.proofs.Ended.{typed_end}
use Rattle.typing_laws.proofs.Standing.{BodyStands, Standing}
use Rattle.typing_laws.proofs.Acts.{between, between_in, between_under}
use Rattle.typing_laws.proofs.PassedStates.{passed_state}
use Rattle.typing_laws.proofs.PassingState.{passed_stands}
use Rattle.typing_laws.proofs.PassingShown.{passed_shown}
use Rattle.typing_laws.proofs.Shown.{extent_at, has_extent, sized_there, ActionThere, action_there}
use Rattle.typing_laws.proofs.Numbered.{filtered_at, declared_with}
use Rattle.typing_laws.proofs.Fits.{Linked, action_fits}

-- ---- types that are refined, read the other way

kind_self : (k : IntKind) → same_kind k k ≡ true
kind_self k = (and_parts (same_kind k k) (0 == 0) (agree_self (λ m n. m == n) (λ n. eq-eqb n n refl) (Int k 0))).0

truth_self : (b : Bool) → same_truth b b ≡ true
truth_self true = refl
truth_self false = refl

module _ (f g : ℕ → ℕ → Bool) (h : (m n : ℕ) → f m n ≡ true → g n m ≡ true) where
  mutual
    agree_back : (s t : Ty) → agree f s t ≡ true → agree g t s ≡ true
    agree_back Void Void e = refl
    agree_back (Int j m) (Int k n) e =
        let p = and_parts (same_kind j k) (m == n) e in
        let a = kinds_are j k p.0 in let b = eqb-true m n p.1 in
        and_from (same_kind k j) (n == m) (ap (same_kind k) a ∙ kind_self k) (eq-eqb n m (sym b))
    agree_back (Cap a) (Cap b) e = ap (same_truth b) (truths_are a b e) ∙ truth_self b
    agree_back (Pointer s) (Pointer t) e = agree_back s t e
    agree_back (Array s m) (Array t n) e =
        let p = and_parts (agree f s t) (f m n) e in and_from (agree g t s) (g n m) (agree_back s t p.0) (h m n p.1)
    agree_back (Tagged m) (Tagged n) e = let b = eqb-true m n e in eq-eqb n m (sym b)
    agree_back (Function r ps) (Function s qs) e =
        let p = and_parts (agree f r s) (all_agree f ps qs) e in
        and_from (agree g s r) (all_agree g qs ps) (agree_back r s p.0) (all_back ps qs p.1)
    agree_back (Const s) (Const t) e = agree_back s t e
    agree_back s t e = absurd (false≢true e)

    all_back : (ps qs : Tys) → all_agree f ps qs ≡ true → all_agree g qs ps ≡ true
    all_back no_types no_types e = refl
    all_back (also s ss) (also t ts) e =
        let p = and_parts (agree f s t) (all_agree f ss ts) e in
        and_from (agree g t s) (all_agree g ts ss) (agree_back s t p.0) (all_back ss ts p.1)
    all_back ss ts e = absurd (false≢true e)

-- what is refined is compatible both ways
refined_back : (s t : Ty) → refines s t ≡ true → compatible t s ≡ true
refined_back s t e =
    agree_back (λ m n. m == n || m == 0) (λ m n. m == n || m == 0 || n == 0)
    (λ m n q. ⊎_elim (λ a. or_left (n == m || n == 0) (m == 0)
    (or_left (n == m) (n == 0) (eq-eqb n m (sym (eqb-true m n a)))))
    (λ a. or_right (n == m || n == 0) (m == 0) a) (or_cases (m == n) (m == 0) q)) s t e

-- ---- bounds and addresses of initial pointers

-- what an object owns has exact bounds, since it stands at a multiple of its alignment
whole_exact : (n : ℕ) → n ≤ size_limit → is_exact 0 (owned n) ≡ true
whole_exact n l =
    let small : owned n ≤ 2 ^ 26 = owned_small n l in
    let e = owned_exact 0 n (omega (arith, small)) (zero-mod (alignment n)) in
    and_from (least_base 0 (0 + owned n) == 0) (least_top 0 (0 + owned n) == 0 + owned n)
    (eq-eqb (least_base 0 (0 + owned n)) 0 e.0) (eq-eqb (least_top 0 (0 + owned n)) (0 + owned n) e.1)

no_bytes_exact : is_exact 0 0 ≡ true
unfolding least_base least_top
no_bytes_exact = refl

-- what is near no bytes is near more
near_more : (n : ℕ) (z : ℤ) → is_near 0 0 z ≡ true → is_near 0 n z ≡ true
near_more n z e =
    let p = and_parts (int_lt (pos 0) (z +ℤ pos 1024)) (int_lt z (pos (0 + 0 + 1024))) e in
    and_from (int_lt (pos 0) (z +ℤ pos 1024)) (int_lt z (pos (0 + n + 1024))) p.0
    (let q = p.1 in grind (arith, ints, q))

-- an address that was asked for is near the length that was found
near_asked : (n : ℕ) (z : ℤ) → int_lt (pos 0) (z +ℤ pos 1024) ≡ true → not (int_lt (pos n) (z -ℤ pos 1023)) ≡ true →
    is_near 0 n z ≡ true
near_asked n z e f =
    let q = not-true (int_lt (pos n) (z -ℤ pos 1023)) f in
    and_from (int_lt (pos 0) (z +ℤ pos 1024)) (int_lt z (pos (0 + n + 1024))) e (grind (arith, ints, q))

-- ---- lists

mapped_at : {A B : Type 0} (v : A → B) (xs : List A) (k : ℕ) (y : B) → slice_get (map v xs) k ≡ Some y →
    (x : A) × (slice_get xs k ≡ Some x) × (v x ≡ y)
mapped_at v [] k y e = absurd cc
mapped_at v (x ∷ xs) zero y e = (x, refl, same_Some (v x) y e)
mapped_at v (x ∷ xs) (suc k) y e = mapped_at v xs k y e

append_from : {A : Type 0} (xs ys : List A) (k : ℕ) (y : A) → slice_get (xs ++ ys) k ≡ Some y →
    ((i : ℕ) × (slice_get xs i ≡ Some y)) ⊎ ((i : ℕ) × (slice_get ys i ≡ Some y))
append_from [] ys k y e = inr (k, e)
append_from (x ∷ xs) ys zero y e = inl (0, e)
append_from (x ∷ xs) ys (suc k) y e = ⊎_elim (λ a. inl (suc a.0, a.1)) (λ a. inr a) (append_from xs ys k y e)

flat_from : {A B : Type 0} (f : A → List B) (xs : List A) (k : ℕ) (y : B) → slice_get (flat_map f xs) k ≡ Some y →
    (j : ℕ) × (x : A) × (slice_get xs j ≡ Some x) × ((i : ℕ) × (slice_get (f x) i ≡ Some y))
flat_from f [] k y e = absurd cc
flat_from f (x ∷ xs) k y e =
    ⊎_elim (λ a. (0, x, refl, a)) (λ a. let r = flat_from f xs a.0 y a.1 in (suc r.0, r.1, r.2, r.3))
    (append_from (f x) (flat_map f xs) k y e)

numbers_at : (a n k : ℕ) → k < n → slice_get (numbers_from a n) k ≡ Some (a + k)
numbers_at a zero k l = absurd (omega (arith, l))
numbers_at a (suc n) zero l = ap Some (omega arith)
numbers_at a (suc n) (suc k) l = numbers_at (a + 1) n k (omega (arith, l)) ∙ ap Some (omega arith)

numbers_length : (a n : ℕ) → length (numbers_from a n) ≡ n
numbers_length a zero = refl
numbers_length a (suc n) = ap suc (numbers_length (a + 1) n)

length_map : {A B : Type 0} (v : A → B) (xs : List A) → length (map v xs) ≡ length xs
length_map v [] = refl
length_map v (x ∷ xs) = ap suc (length_map v xs)

-- ---- objects and functions by their numbers

-- a function with its body
abbrev shown_body : State → RoutineState → Option Body → Routine
shown_body s f None = record {
  name = f.name.span;
  place = f.name.pos;
  of = f.of;
  params = [];
  vars = [];
  body = no_action;
}
shown_body s f (Some b) =
    record {
      name = f.name.span;
      place = f.name.pos;
      of = f.of;
      params = b.params;
      vars = map programs.variable_of b.vars;
      body = action_with (numbers_of s) b.action;
    }

body_shown : (s : State) (f : RoutineState) (o : Option Body) → is_there o ≡ true →
    programs.with_body s f o ≡ shown_body s f o ∷ []
body_shown s f None e = absurd (false≢true e)
body_shown s f (Some b) e = refl

body_gone : (s : State) (f : RoutineState) (o : Option Body) → is_there o ≡ false → programs.with_body s f o ≡ []
body_gone s f None e = refl
body_gone s f (Some b) e = absurd (false≢true (sym e))

body_at : (s : State) (f : RoutineState) (o : Option Body) (i : ℕ) (r : Routine) →
    slice_get (programs.with_body s f o) i ≡ Some r → (b : Body) × (o ≡ Some b) × (shown_body s f (Some b) ≡ r)
body_at s f None i r e = absurd cc
body_at s f (Some b) zero r e = (b, refl, same_Some (shown_body s f (Some b)) r e)
body_at s f (Some b) (suc i) r e = absurd cc

abbrev shown_object : State → StaticState → Object
shown_object s g = let i = programs.initial_of s g.initial in
    record { name = g.name.span; place = g.name.pos; of = g.of; bytes = i.0; links = i.1 }

main_found : (fs : List RoutineState) → has_main fs ≡ true →
    (f : RoutineState) × (slice_get fs (position_or_len is_main fs) ≡ Some f) × (is_main f ≡ true)
main_found [] e = absurd (false≢true e)
main_found (f ∷ fs) e = main_by (is_main f) f fs refl e (λ h. main_found fs h)
  where
    main_by : (b : Bool) (f : RoutineState) (fs : List RoutineState) → is_main f ≡ b →
        (is_main f || has_main fs) ≡ true →
        (has_main fs ≡ true → (f : RoutineState) × (slice_get fs (position_or_len is_main fs) ≡ Some f) ×
        (is_main f ≡ true)) →
        (g : RoutineState) × (slice_get (f ∷ fs) (position_or_len is_main (f ∷ fs)) ≡ Some g) × (is_main g ≡ true)
    main_by true f fs i e r = (f, ap (λ b. slice_get (f ∷ fs) (cond (not b) (1 + position_or_len is_main fs) 0)) i, i)
    main_by false f fs i e r =
        let q = r (ap (λ b. b || has_main fs) (sym i) ∙ e) in
        let n : 1 + position_or_len is_main fs ≡ suc (position_or_len is_main fs) = omega arith in (
          q.0,
          ap (λ b. slice_get (f ∷ fs) (cond (not b) (1 + position_or_len is_main fs) 0)) i
              ∙ ap (slice_get (f ∷ fs)) n ∙ q.1,
          q.2,
        )

module _ (p : Typed) (s : State) (o : IsOrdered p) (sh : Shows p (program_of s)) (e : Standing s) where
  abbrev inv : Inv true s
  inv = e.inv

  shown_objects : map (views.object_of (types_of p.types)) p.globals ≡ flat_map (programs.object_of s) s.statics
  unfolding program_of
  shown_objects = sh.objects

  shown_routines : map (views.routine_of (types_of p.types) (actions_of p)) p.funs
      ≡ flat_map (programs.routine_of s) s.routines
  unfolding program_of
  shown_routines = sh.routines

  shown_texts : map views.text_of p.literals ≡ s.texts
  unfolding program_of
  shown_texts = sh.texts

  shown_main : p.main ≡ (numbers_of s).1 (position_or_len is_main s.routines)
  unfolding program_of
  shown_main = sh.main

  global_there : (k : ℕ) (g : StaticState) → slice_get s.statics k ≡ Some g → IsUsed g.used →
      (h : GlobalDef) × (slice_get p.globals ((numbers_of s).0 k) ≡ Some h) × (type_in p h.of ≡ g.of)
  global_there k g there used =
      let d = (e.statics k g there).1 used in
      let a = filtered_at (λ (g : StaticState). g.defined) (programs.object_of s) (shown_object s)
      (λ x t. ap (λ b. if b then shown_object s x ∷ [] else []) t)
      (λ x t. ap (λ b. if b then shown_object s x ∷ [] else []) t) s.statics k g there d in
      let h = mapped_at (views.object_of (types_of p.types)) p.globals ((numbers_of s).0 k) (shown_object s g)
      (ap (λ xs. slice_get xs ((numbers_of s).0 k)) shown_objects ∙ a) in
      (h.0, h.1, ap (λ (x : Object). x.of) h.2)

  routine_there : (k : ℕ) (f : RoutineState) → slice_get s.routines k ≡ Some f → is_there f.body ≡ true →
      (h : FunDef) × (slice_get p.funs ((numbers_of s).1 k) ≡ Some h) × (type_in p h.of ≡ f.of)
  routine_there k f there d =
      let a = filtered_at (λ (f : RoutineState). is_there f.body) (programs.routine_of s) (λ f. shown_body s f f.body)
      (λ x t. body_shown s x x.body t) (λ x t. body_gone s x x.body t) s.routines k f there d in
      let h = mapped_at (views.routine_of (types_of p.types) (actions_of p)) p.funs ((numbers_of s).1 k)
      (shown_body s f f.body) (ap (λ xs. slice_get xs ((numbers_of s).1 k)) shown_routines ∙ a) in
      (h.0, h.1, ap (λ (x : Routine). x.of) h.2 ∙ of_shown f f.body)
    where
      of_shown : (f : RoutineState) (o : Option Body) → (shown_body s f o).of ≡ f.of
      of_shown f None = refl
      of_shown f (Some b) = refl

  -- ---- a function

  -- a function of the program, with the function and the body of the state
  pub record Behind (k : ℕ) (f : FunDef) : Type 0 where
    pub number : ℕ
    pub routine : RoutineState
    pub body : Body
    pub there : slice_get s.routines number ≡ Some routine
    pub has : routine.body ≡ Some body
    pub same : shown_body s routine (Some body) ≡ views.routine_of (types_of p.types) (actions_of p) f

  behind : (k : ℕ) (f : FunDef) → slice_get p.funs k ≡ Some f → Behind k f
  behind k f there =
      let r = views.routine_of (types_of p.types) (actions_of p) f in
      let a : slice_get (flat_map (programs.routine_of s) s.routines) k ≡ Some r =
      ap (λ xs. slice_get xs k) (sym shown_routines)
      ∙ slice_get-map (views.routine_of (types_of p.types) (actions_of p)) p.funs k
      ∙ ap (option_map (views.routine_of (types_of p.types) (actions_of p))) there in
      let b = flat_from (programs.routine_of s) s.routines k r a in
      let c = body_at s b.1 b.1.body b.3.0 r b.3.1 in
      record { number = b.0; routine = b.1; body = c.0; there = b.2; has = c.1; same = c.2 }

  module _ (k : ℕ) (f : FunDef) (there : slice_get p.funs k ≡ Some f) (z : Behind k f) where
    abbrev ok : BodyStands s z.routine.of z.body
    ok = e.bodies z.number z.routine z.body z.there z.has

    type_same : type_in p f.of ≡ z.routine.of
    type_same = ap (λ (r : Routine). r.of) (sym z.same)

    params_same : f.params ≡ z.body.params
    params_same = ap (λ (r : Routine). r.params) (sym z.same)

    vars_same : map (views.variable_of (types_of p.types)) f.vars ≡ map programs.variable_of z.body.vars
    vars_same = ap (λ (r : Routine). r.vars) (sym z.same)

    action_same : action_at (actions_of p) f.body ≡ action_with (numbers_of s) z.body.action
    action_same = ap (λ (r : Routine). r.body) (sym z.same)

    count_same : length f.vars ≡ length z.body.vars
    count_same = sym (length_map (views.variable_of (types_of p.types)) f.vars) ∙ ap length vars_same
        ∙ length_map programs.variable_of z.body.vars

    -- a variable of the program behind one of the state, and the other way
    var_to : (j : ℕ) (v : LocalState) → slice_get z.body.vars j ≡ Some v →
        (w : VarDef) × (slice_get f.vars j ≡ Some w) × (views.variable_of (types_of p.types) w ≡ programs.variable_of v)
    var_to j v h = mapped_at (views.variable_of (types_of p.types)) f.vars j (programs.variable_of v)
        (ap (λ xs. slice_get xs j) vars_same ∙ slice_get-map programs.variable_of z.body.vars j
        ∙ ap (option_map programs.variable_of) h)

    var_from : (j : ℕ) (w : VarDef) → slice_get f.vars j ≡ Some w →
        (v : LocalState) × (slice_get z.body.vars j ≡ Some v) ×
        (programs.variable_of v ≡ views.variable_of (types_of p.types) w)
    var_from j w h = mapped_at programs.variable_of z.body.vars j (views.variable_of (types_of p.types) w)
        (ap (λ xs. slice_get xs j) (sym vars_same) ∙ slice_get-map (views.variable_of (types_of p.types)) f.vars j
        ∙ ap (option_map (views.variable_of (types_of p.types))) h)

    sized : (j : ℕ) (v : LocalState) → slice_get z.body.vars j ≡ Some v → Sized s.tags v.of
    sized j v h = ok.sized j v h

    simple_scalar : (j : ℕ) (w : VarDef) → slice_get f.vars j ≡ Some w → w.simple ≡ true →
        is_scalar (bare (type_in p w.of)) ≡ true
    simple_scalar j w h simple =
        let v = var_from j w h in
        let t : v.0.of ≡ type_in p w.of = ap (λ (x : Variable). x.of) v.2 in
        subst (λ u. is_scalar (bare u) ≡ true) t
        (and_parts (is_scalar (bare v.0.of)) (not v.0.addressed) (ap (λ (x : Variable). x.simple) v.2 ∙ simple)).0

    linked : Linked p s z.body.vars (numbers_of s) f.vars
    linked = record {
      vars = λ j v h. let w = var_to j v h in let t = ap (λ (x : Variable). x.of) w.2 in
          (w.0, w.1, t, (w.0.of, o.vars k j f w.0 there w.1, t), sized j v h);
      simple = simple_scalar;
      globals = global_there;
      funs = λ j g h u. routine_there j g h (e.routines j g h u);
      literals = λ j x h. let l = mapped_at views.text_of p.literals j x (ap (λ xs. slice_get xs j) shown_texts ∙ h) in
          (l.0, l.1, ap (λ (t : Text). length t.bytes) l.2);
      statics = λ j g h. (e.statics j g h).0;
      count = count_same;
    }

    parameters_by : (ts : Tys) (vs : List LocalState) (ws : List VarDef) →
        ((j : ℕ) (v : LocalState) → slice_get vs j ≡ Some v →
        (w : VarDef) × (slice_get ws j ≡ Some w) × (type_in p w.of ≡ v.of)) → ParamsFit ts vs → ParametersFit p ts ws
    parameters_by no_types vs ws g h = tt
    parameters_by (also t ts) [] ws g h = absurd h
    parameters_by (also t ts) (v ∷ vs) [] g h = absurd (let w = g 0 v refl in none-some w.0 w.1)
    parameters_by (also t ts) (v ∷ vs) (w ∷ ws) g h =
        let x = g 0 v refl in
        let same : type_in p w.of ≡ v.of = ap (λ (w : VarDef). type_in p w.of) (same_Some w x.0 x.1) ∙ x.2 in (
          ap (λ u. compatible t (in_signature u)) same ∙ refined_back (in_signature v.of) t h.0,
          parameters_by ts vs ws (λ j v q. g (suc j) v q) h.1,
        )

    declared_times : (j : ℕ) → times_in j (declared (action_at (actions_of p) f.body))
        ≡ between (count ok.takes) (length z.body.vars) j
    declared_times j = ap (λ a. times_in j (declared a)) action_same
        ∙ ap (times_in j) (declared_with (numbers_of s) z.body.action) ∙ ok.once j

    pub function_fits : FunctionFits p f
    function_fits =
        let tu : TypeOk s.tags (Function ok.result ok.takes) =
        subst (TypeOk s.tags) ok.is (inv.routines z.number z.routine z.there).0 in
        let len : length f.params ≡ count ok.takes =
        ap length (params_same ∙ ok.params) ∙ numbers_length 0 (count ok.takes) in
        record {
          result = ok.result;
          takes = ok.takes;
          type_is = type_same ∙ ok.is;
          params_first = λ j l. ap (λ xs. slice_get xs j) (params_same ∙ ok.params)
              ∙ numbers_at 0 (count ok.takes) j (omega (arith, l, len)) ∙ ap Some (omega arith);
          params_count = len;
          params_fit = parameters_by ok.takes z.body.vars f.vars
              (λ j v h. let w = var_to j v h in (w.0, w.1, ap (λ (x : Variable). x.of) w.2)) ok.fit;
          vars_complete = λ j w h.
              let v = var_from j w h in
              let t : v.0.of ≡ type_in p w.of = ap (λ (x : Variable). x.of) v.2 in
              subst (IsComplete p) t (sized_there p s o sh inv v.0.of (w.of, o.vars k j f w there h, sym t)
              (sized j v.0 v.1));
          simple_scalar = simple_scalar;
          params_apart = λ j l. declared_times j
              ∙ between_under (count ok.takes) (length z.body.vars) j (omega (arith, l, len));
          declared_once = λ j l m. declared_times j ∙ between_in (count ok.takes) (length z.body.vars) j
              (omega (arith, l, len)) (omega (arith, m, count_same));
          body = subst (ActionFits (record { program = p; vars = f.vars; gives = bare ok.result }) outside)
              (sym action_same)
              (action_fits p s o sh inv z.body.vars (numbers_of s) f.vars
              (bare ok.result) linked ok.gives ok.refined outside z.body.action ok.body
              (subst (ActionThere p) action_same (action_there p o f.body (o.funs k f there).1)));
        }

  pub functions_fit : (k : ℕ) (f : FunDef) → slice_get p.funs k ≡ Some f → FunctionFits p f
  functions_fit k f there = function_fits k f there (behind k f there)

  pub main_fits : MainFits p
  main_fits =
      let m = main_found s.routines e.main in
      let b = and_parts (is_there m.0.body && bytes_eq m.0.name.text (codes "main"))
      (same m.0.of (Function int no_types)) m.2 in
      let c = and_parts (is_there m.0.body) (bytes_eq m.0.name.text (codes "main")) b.0 in
      let h = routine_there (position_or_len is_main s.routines) m.0 m.1 c.0 in
      record {
        main = h.0;
        there = ap (slice_get p.funs) shown_main ∙ h.1;
        type_is = h.2
            ∙ same_is m.0.of (Function int no_types) b.1;
      }

  -- ---- an object

  object_at : (g : StaticState) (b : Bool) (i : ℕ) (r : Object) →
      slice_get (if b then shown_object s g ∷ [] else []) i ≡ Some r → shown_object s g ≡ r
  object_at g true zero r e = same_Some (shown_object s g) r e
  object_at g true (suc i) r e = absurd cc
  object_at g false i r e = absurd cc

  -- an object of the program, with the one of the state
  object_behind : (k : ℕ) (h : GlobalDef) → slice_get p.globals k ≡ Some h →
      (j : ℕ) × (g : StaticState) × (slice_get s.statics j ≡ Some g) ×
      (shown_object s g ≡ views.object_of (types_of p.types) h)
  object_behind k h there =
      let r = views.object_of (types_of p.types) h in
      let a : slice_get (flat_map (programs.object_of s) s.statics) k ≡ Some r =
      ap (λ xs. slice_get xs k) (sym shown_objects)
      ∙ slice_get-map (views.object_of (types_of p.types)) p.globals k
      ∙ ap (option_map (views.object_of (types_of p.types))) there in
      let b = flat_from (programs.object_of s) s.statics k r a in
      (b.0, b.1, b.2, object_at b.1 b.1.defined b.3.0 r b.3.1)

  pos_below : (n m : ℕ) → not (int_lt (pos n) (pos m)) ≡ true → m ≤ n
  pos_below n m e = let f = not-true (int_lt (pos n) (pos m)) e in grind (arith, ints, f)

  awaited : (a : Aim) (n m : ℕ) → aim_length s a ≡ Some n → Awaits s.pending a (pos m) → m ≤ n
  awaited (To_global k) n m q w = pos_below n m (ap (λ o. programs.reaches o (pos m)) (sym q) ∙ e.reached k (pos m) w)
  awaited (To_literal k) n m q w = absurd w
  awaited (To_function k) n m q w = absurd w

  near_awaited : (a : Aim) (n : ℕ) (z : ℤ) → aim_length s a ≡ Some n → int_lt (pos 0) (z +ℤ pos 1024) ≡ true →
      Awaits s.pending a (z -ℤ pos 1023) → is_near 0 n z ≡ true
  near_awaited (To_global k) n z q l w =
      near_asked n z l (ap (λ o. programs.reaches o (z -ℤ pos 1023)) (sym q) ∙ e.reached k (z -ℤ pos 1023) w)
  near_awaited (To_literal k) n z q l w = absurd w
  near_awaited (To_function k) n z q l w = absurd w

  -- Bounds lie in n bytes and are exact, and an address is near them
  abbrev Pair : ℕ → ℕ × ℕ → ℤ → Type 0
  Pair n r z = (r.0 + r.1 ≤ n) × holds (is_exact r.0 r.1) × holds (is_near r.0 r.1 z)

  -- those of a target are so in what it owns
  reach_in : (a : Aim) (r : Reach) (z : ℤ) (size n : ℕ) → n ≡ owned size → size ≤ size_limit → aim_length s a ≡ Some n →
      Reaches s a r z → Pair n (programs.reach_of (Some n) r) z
  reach_in a All z size n own small q h = (
    omega arith,
    subst (λ m. is_exact 0 m ≡ true) (sym own) (whole_exact size small),
    ⊎_elim (λ w. near_more n z w) (λ k. ⊎_elim
        (λ w. subst (λ m. is_near 0 m z ≡ true) (same_Some w.0 n (sym w.1 ∙ q)) w.2)
        (λ w. near_awaited a n z q w.0 w.1) k) h,
  )
  reach_in a (Within low m) z size n own small q h = (
    ⊎_elim (λ w. let v : n ≡ h.2.0 = same_Some n h.2.0 (sym q ∙ w) in omega (arith, v, h.2.1))
        (λ w. let v = awaited a n h.2.0 q w in omega (arith, v, h.2.1)) h.2.2,
    h.0,
    h.1,
  )

  same_global : (k m : ℕ) → To_global k ≡ To_global m → k ≡ m
  same_global k m q = cc

  same_literal : (k m : ℕ) → To_literal k ≡ To_literal m → k ≡ m
  same_literal k m q = cc

  same_function : (k m : ℕ) → To_function k ≡ To_function m → k ≡ m
  same_function k m q = cc

  target_fits : (t : Target) (a : Aim) (r : Reach) (z : ℤ) → aim_with (numbers_of s) a ≡ views.aim_of t → Aims s a r z →
      (n : ℕ) × OwnsBytes p t n × Pair n (programs.reach_of (aim_length s a) r) z
  target_fits (targets.Global m) (To_global k) r z q h =
      let g = h.0.0 in
      let w = global_there k g h.0.1 h.0.2 in
      let x = (e.statics k g h.0.1).0 in
      let there = ap (slice_get p.globals) (sym (same_global ((numbers_of s).0 k) m q)) ∙ w.1 in
      let small = extent_within_limit s.tags inv.tags g.of x.0 (inv.statics k g h.0.1) x.1 in
      let l = ap (static_length s) h.0.1 ∙ length_of_static s g x.0 x.1
      ∙ ap (λ n. Some (owned n)) (fitting_same x.0.size small) in
      let ext = has_extent p s o sh inv (type_in p w.0.of) (w.0.of, o.globals m w.0 there, refl) x.0
      (ap (type_extent s.tags) w.2 ∙ x.1) small in (
        owned x.0.size,
        (w.0, x.0, there, ext, refl),
        subst (λ c. Pair (owned x.0.size) (programs.reach_of c r) z) (sym l)
            (reach_in (To_global k) r z x.0.size (owned x.0.size) refl small l h.1),
      )
  target_fits (targets.Literal m) (To_literal k) r z q h =
      let x = h.0.0 in
      let w = mapped_at views.text_of p.literals k x (ap (λ xs. slice_get xs k) shown_texts ∙ h.0.1) in
      let l = ap text_length h.0.1 ∙ ap (λ n. Some (owned n)) (fitting_same (length x.bytes) h.0.2) in
      let there = ap (slice_get p.literals) (sym (same_literal k m q)) ∙ w.1 in (
        owned (length x.bytes),
        (w.0, there, ap owned (sym (ap (λ (t : Text). length t.bytes) w.2))),
        subst (λ c. Pair (owned (length x.bytes)) (programs.reach_of c r) z) (sym l)
            (reach_in (To_literal k) r z (length x.bytes) (owned (length x.bytes)) refl h.0.2 l h.1),
      )
  target_fits (targets.Fun m) (To_function k) r z q h =
      let w = routine_there k h.2 h.3 (e.routines k h.2 h.3 h.4) in
      let there = ap (slice_get p.funs) (sym (same_function ((numbers_of s).1 k) m q)) ∙ w.1 in (
        0,
        (slice_get_within p.funs m w.0 there, refl),
        subst (λ r. Pair 0 (programs.reach_of None r) z) (sym h.0)
            (subst (λ y. Pair 0 (0, 0) y) (sym h.1) (omega arith, no_bytes_exact, refl)),
      )
  target_fits (targets.Global m) (To_literal k) r z q h = absurd cc
  target_fits (targets.Global m) (To_function k) r z q h = absurd cc
  target_fits (targets.Literal m) (To_global k) r z q h = absurd cc
  target_fits (targets.Literal m) (To_function k) r z q h = absurd cc
  target_fits (targets.Fun m) (To_global k) r z q h = absurd cc
  target_fits (targets.Fun m) (To_literal k) r z q h = absurd cc

  link_fits : (n : ℕ) (a : Aiming) (l : Link) → programs.pointing_of s a ≡ views.pointing_of l → AimingOk s n a →
      LinkFits p n l
  link_fits n a l q h =
      let at : a.at ≡ l.at = ap (λ (x : Pointing). x.at) q in
      let t = target_fits l.target a.aim a.reach a.offset (ap (λ (x : Pointing). x.aim) q) h.aims in
      let pair : Pair t.0 (l.low, l.length) l.offset =
      subst (λ z. Pair t.0 (l.low, l.length) z) (ap (λ (x : Pointing). x.offset) q)
      (subst (λ r. Pair t.0 r a.offset) (ap (λ (x : Pointing). let r : ℕ × ℕ = (x.low, x.length) in r) q) t.2) in
      record {
        inside = subst (λ m. m + 16 ≤ n) at h.inside;
        aligned = ap (λ m. m % 16) (sym at) ∙ divided a.at h.aligned;
        target = t.0;
        owns = t.1;
        bounds = pair.0;
        exact = pair.1;
        near = pair.2;
      }
    where
      divided : (m : ℕ) → Multiple m 16 → m % 16 ≡ 0
      divided m c = let q = c.1 in omega (arith, q)

  aim_at : (n : ℕ) (ls : List Aiming) (k : ℕ) (a : Aiming) → AllAim s n ls → slice_get ls k ≡ Some a → AimingOk s n a
  aim_at n [] k a h q = absurd cc
  aim_at n (b ∷ ls) zero a h q = subst (AimingOk s n) (same_Some b a q) h.0
  aim_at n (b ∷ ls) (suc k) a h q = aim_at n ls k a h.1 q

  -- what an object begins with, by whether it has an initializer
  record Starts (n : ℕ) (h : GlobalDef) : Type 0 where
    pub bytes : length h.bytes ≤ n
    pub links : (k : ℕ) (l : Link) → slice_get h.links k ≡ Some l → LinkFits p n l

  starts : (n : ℕ) (h : GlobalDef) (i : Option (List ℕ × List Aiming)) → (programs.initial_of s i).0 ≡ h.bytes →
      (programs.initial_of s i).1 ≡ map views.pointing_of h.links →
      ((j : List ℕ × List Aiming) → i ≡ Some j → InitialOk s n j) → Starts n h
  starts n h None b l f = record {
    bytes = subst (λ xs. length xs ≤ n) b (omega arith);
    links = λ k x q. absurd (none-some (views.pointing_of x)
        (ap (λ xs. slice_get xs k) l ∙ slice_get-map views.pointing_of h.links k
        ∙ ap (option_map views.pointing_of) q));
  }
  starts n h (Some j) b l f =
      let z = f j refl in
      record {
        bytes = subst (λ xs. length xs ≤ n) b z.bytes;
        links = λ k x q.
            let a = mapped_at (programs.pointing_of s) j.1 k (views.pointing_of x)
            (ap (λ xs. slice_get xs k) l ∙ slice_get-map views.pointing_of h.links k
            ∙ ap (option_map views.pointing_of) q) in
            link_fits n a.0 x a.2 (aim_at n j.1 k a.0 z.links a.1);
      }

  pub globals_fit : (k : ℕ) (h : GlobalDef) → slice_get p.globals k ≡ Some h → GlobalFits p h
  globals_fit k h there =
      let b = object_behind k h there in
      let g = b.1 in
      let x = (e.statics b.0 g b.2).0 in
      let t : g.of ≡ type_in p h.of = ap (λ (x : Object). x.of) b.3 in
      let st = starts x.0.size h g.initial (ap (λ (x : Object). x.bytes) b.3) (ap (λ (x : Object). x.links) b.3)
      (λ j q. let y = e.begins b.0 g j b.2 q in
      subst (λ (z : Extent). InitialOk s z.size j) (same_Some y.0 x.0 (sym y.1 ∙ x.1)) y.2) in
      record {
        extent = x.0;
        complete = has_extent p s o sh inv (type_in p h.of) (h.of, o.globals k h there, refl) x.0
            (ap (type_extent s.tags) (sym t) ∙ x.1)
            (extent_within_limit s.tags inv.tags g.of x.0 (inv.statics b.0 g b.2) x.1);
        own = extent_at p s o sh inv h.of (o.globals k h there) x.0 (ap (type_extent s.tags) (sym t) ∙ x.1);
        bytes = st.bytes;
        links = st.links;
      }

-- What typing gives is well typed
pub sound_well_typed : (p : Typed) (h : Sound p) → IsFit h.types.syntax → WellTyped p
sound_well_typed p h fit =
    let t = h.types.types in
    let e = typed_end h.types.syntax t.program fit t.given in
    let s = passed_state e.0 e.1 in
    let sh = subst (Shows p) (sym (passed_shown e.0 e.1 ∙ e.3)) t.shows in
    let z = passed_stands e.0 e.1 e.2 in
    record {
      ordered = t.ordered;
      globals = globals_fit p s t.ordered sh z;
      funs = functions_fit p s t.ordered sh z;
      main = main_fits p s t.ordered sh z;
    }
