-- The state that stands for a program as it is run is one whose program is well typed, where the written one is.
use Rattle.std.proofs.Common.{◌≡◌, ℕ, suc, ◌+◌, ◌≤◌, Bool, true, false, List, [], ◌∷◌, length, Option, Some, None}
use Rattle.std.proofs.Common.{refl, sym, ap, subst, ◌∙◌, ⊎_elim, arith}
use Rattle.std.specs.Prelude.{ℤ, slice_get, map, option_map, ◌&&◌, ◌||◌, ◌==◌, if◌then◌else◌, bytes_eq, codes}
use Rattle.std.proofs.lemmas.Bool.{false≢true, and_parts, and_from, or_cases, or_left, or_right}
use Rattle.std.proofs.lemmas.Option.{none-some, same_Some, slice_get-map}
use Rattle.cap_concentrate.specs.Rounding.{owned}
use Rattle.c_tree.specs.Types.{Ty, Void, Pointer, Function, Tys, no_types, also, int, bare, is_function, is_tagged}
use Rattle.c_tree.specs.Types.{same, count}
use Rattle.c_tree.specs.Terms.{Aim, To_global, To_literal, To_function, Block, action, no_terms, Variable, Routine}
use Rattle.c_tree.specs.Terms.{numbers_from}
use Rattle.c_tree.specs.Scopes.{Reach, Aiming, TagState, StaticState, LocalState, RoutineState, Body, State}
use Rattle.c_tree.specs.Scopes.{type_extent, has_extent}
use Rattle.c_tree.specs.Layout.{size_of}
use Rattle.c_tree.specs.Statics.{aim_length, static_length}
use Rattle.c_tree.specs.Programs.{variable_of, is_there, is_main, has_main, reaches}
use Rattle.c_tree.specs.WellTyped.{outside}
use Rattle.c_tree.specs.Passed.{Names, by_pointer, passed, hidden_of, passed_variable, written_params, result_variable}
use Rattle.c_tree.specs.Passed.{result_pointer, copied_params, named_variables, variable_number, passing, passed_action}
use Rattle.c_tree.specs.Passed.{param_copies, opened, passed_body, passed_routine}
use Rattle.typing_laws.proofs.Agreeing.{refines, same_is}
use Rattle.typing_laws.proofs.Facts.{Complete, Sized, TypeOk, TypesOk, LocalOk, IsUsed, TagOk, Inv}
use Rattle.typing_laws.proofs.Scalars.{bare_bare}
use Rattle.typing_laws.proofs.Numbers.{extent_within_limit}
use Rattle.typing_laws.proofs.Started.{reached_on}
use Rattle.typing_laws.proofs.Acts.{between, ActionOk}
use Rattle.typing_laws.proofs.Placed.{Awaits, Aims, AllAim, Begins}
use Rattle.typing_laws.proofs.Wholes.{ParamsFit, with_locals, BodyOk, mapped_from}
use Rattle.typing_laws.proofs.Ended.{AtEnd}
use Rattle.typing_laws.proofs.Standing.{BodyStands, Standing}
use Rattle.typing_laws.proofs.Pointers.{passed_result, passed_takes, pointer_agrees}
use Rattle.typing_laws.proofs.PassingTypes.{bare_passed, functions_passed, passed_record, passed_records, extent_passed}
use Rattle.typing_laws.proofs.PassingTypes.{complete_passed, sized_passed, type_passed, tag_passed, passed_refines}
use Rattle.typing_laws.proofs.PassingTerms.{value_bare}
use Rattle.typing_laws.proofs.PassingExpressions.{run, local_there}
use Rattle.typing_laws.proofs.PassingActions.{pointer_sized, action_calls, body_passes}
use Rattle.typing_laws.proofs.PassedHidden.{Holds}
use Rattle.typing_laws.proofs.PassedVariables.{from_take, holds_body, variable_there, opened_below, result_there}
use Rattle.typing_laws.proofs.PassedVariables.{passed_complete}
use Rattle.typing_laws.proofs.PassedDeclared.{passed_once}
use Rattle.typing_laws.proofs.PassedParameters.{all_copies_hold, VariablesFit, AllBare, Written, written_count}
use Rattle.typing_laws.proofs.PassedParameters.{written_enough, passed_type, passed_fit, passed_count, passed_params}
use Rattle.typing_laws.proofs.PassedStates.{as_local, passed_static, written, passed_whole, passed_function}
use Rattle.typing_laws.proofs.PassedStates.{passed_state}

-- ---- lists

length_map : {A B : Type 0} (v : A → B) (xs : List A) → length (map v xs) ≡ length xs
length_map v [] = refl
length_map v (x ∷ xs) = ap suc (length_map v xs)

option_from : {A B : Type 0} (v : A → B) (o : Option A) (y : B) → option_map v o ≡ Some y →
    (x : A) × (o ≡ Some x) × (v x ≡ y)
option_from v None y e = absurd cc
option_from v (Some x) y e = (x, refl, same_Some (v x) y e)

-- ---- functions as they are written

as_variables : (ts : Tys) (vs : List LocalState) → ParamsFit ts vs → VariablesFit ts (map variable_of vs)
as_variables no_types vs h = tt
as_variables (also t ts) (v ∷ vs) h = (h.0, as_variables ts vs h.1)
as_variables (also t ts) [] h = absurd h

as_locals : (ts : Tys) (vs : List Variable) → VariablesFit ts vs → ParamsFit ts (map as_local vs)
as_locals no_types vs h = tt
as_locals (also t ts) (v ∷ vs) h = (h.0, as_locals ts vs h.1)
as_locals (also t ts) [] h = absurd h

all_bare : (tags : List TagState) (ts : Tys) → TypesOk tags ts → AllBare ts
all_bare tags no_types h = tt
all_bare tags (also t ts) h = (h.1, all_bare tags ts h.2)

-- what a function gives as it is run
refined_result : (b c : Bool) (t r : Ty) → b ≡ c → refines t (bare r) ≡ true →
    refines (if b then Void else passed t) (bare (if c then Void else passed r)) ≡ true
refined_result true true t r e h = refl
refined_result false false t r e h = ap (refines (passed t)) (bare_passed r) ∙ passed_refines t (bare r) h
refined_result true false t r e h = absurd (false≢true (sym e))
refined_result false true t r e h = absurd (false≢true e)

module _ (names : Names) (s : State) (i : Inv true s) (f : RoutineState) (b : Body) (ok : BodyOk s f.of b)
    (typed : TypeOk s.tags f.of) where
  abbrev now : State
  now = passed_state names s

  abbrev whole : Routine
  whole = written f b

  abbrev vars : List Variable
  vars = (passed_routine names whole).vars

  signature : TypeOk s.tags (Function ok.result ok.takes)
  signature = subst (TypeOk s.tags) ok.is typed

  as_written : Written whole ok.result ok.takes
  as_written = record {
    is = ok.is;
    params = ok.params;
    fit = as_variables ok.takes b.vars ok.fit;
    bare = all_bare s.tags ok.takes signature.2;
  }

  enough : length whole.params ≤ length whole.vars
  enough = written_enough whole ok.result ok.takes as_written

  variable_is : (k : ℕ) (v : LocalState) → slice_get b.vars k ≡ Some v →
      (w : Variable) × (slice_get vars (variable_number whole k) ≡ Some w) × (w.of ≡ passed v.of)
  variable_is k v e = (
    passed_variable (variable_of v),
    variable_there names whole enough k (variable_of v)
        (slice_get-map variable_of b.vars k ∙ ap (option_map variable_of) e),
    refl,
  )

  same_pointer : by_pointer ok.gives ≡ by_pointer ok.result
  same_pointer = pointer_agrees (λ m n. m == n || m == 0) ok.gives (bare ok.result) ok.refined
      ∙ ap is_tagged (bare_bare s.tags ok.result signature.0)

  result_is : by_pointer ok.gives ≡ true →
      LocalOk (run names s b.vars vars (variable_number whole) variable_is) 0 (Pointer (bare ok.gives))
  result_is e =
      let p : by_pointer ok.result ≡ true = sym same_pointer ∙ e in
      local_there names s b.vars vars (variable_number whole) variable_is 0
      (result_variable whole (Pointer (bare ok.result))) (Pointer (bare ok.gives))
      (result_there names whole ok.result ok.takes ok.is p)
      (ap (λ t. refines t (bare ok.result)) (value_bare s.tags ok.gives ok.value) ∙ ok.refined)

  variables_sized : (k : ℕ) (v : Variable) → slice_get vars k ≡ Some v → Sized (passed_records s.tags) v.of
  variables_sized =
      passed_complete (Sized (passed_records s.tags)) names whole (λ t. (_, refl, omega arith))
      (λ k v e.
      let l = mapped_from variable_of b.vars k v e in
      let c = ok.complete k l.0 l.1 in
      subst (λ (v : Variable). Sized (passed_records s.tags) (passed v.of)) l.2
      (sized_passed s.tags l.0.of (c.0.0, c.0.1, extent_within_limit s.tags i.tags l.0.of c.0.0 c.1 c.0.1)))
      (action_calls s (Sized (passed_records s.tags)) (pointer_sized s i.tags) b.vars ok.gives outside b.action
      ok.body)

  params_complete : (k : ℕ) (v : Variable) → slice_get (written_params whole) k ≡ Some v → Complete s.tags v.of
  params_complete k v e =
      let l = mapped_from variable_of b.vars k v (from_take (length whole.params) whole.vars k v e) in
      subst (λ (v : Variable). Complete s.tags v.of) l.2 (ok.complete k l.0 l.1).0

  count_vars : length whole.vars ≡ length b.vars
  count_vars = length_map variable_of b.vars

  body_is : ActionOk (with_locals now (map as_local vars)) (passed_result ok.gives) outside (passed_body names whole)
  body_is =
      let bs = ok.block.0 in let ys = ok.block.1 in let p = ok.block.2 in
      let first = length (result_pointer whole) in
      let copied = numbers_from (first + length whole.params) (length (copied_params whole)) in
      let n = length (named_variables whole) in
      let hidden = numbers_from n (length (hidden_of names b.action)) in
      let old : ActionOk (with_locals s b.vars) ok.gives outside (action (Block bs) no_terms ys p) =
      subst (ActionOk (with_locals s b.vars) ok.gives outside) ok.block.3 ok.body in
      let holds : Holds vars n (hidden_of names (action (Block bs) no_terms ys p)) =
      subst (λ x. Holds vars n (hidden_of names x)) ok.block.3 (holds_body names whole enough) in
      let below = opened_below names whole enough bs (λ j k e. let l = old.1 j k e in omega (arith, l, count_vars)) in
      subst (λ x. ActionOk (with_locals now (map as_local vars)) (passed_result ok.gives) outside
      (opened copied hidden (param_copies first (first + length whole.params) (written_params whole))
      (passed_action (passing names whole) n x))) (sym ok.block.3)
      (body_passes names s b.vars vars (variable_number whole) variable_is ok.gives ok.value i.tags result_is outside n
      copied hidden first (first + length whole.params) (written_params whole) bs ys p
      (λ j k e. let l = below j k e in let c = length_map as_local vars in omega (arith, l, c))
      (all_copies_hold names whole enough) params_complete old holds)

  body_stands : BodyStands now (passed f.of) (passed_whole names f b)
  body_stands = record {
    result = passed_result ok.result;
    takes = passed_takes ok.result ok.takes;
    is = passed_type whole ok.result ok.takes as_written;
    params = passed_params names whole ok.result ok.takes as_written;
    fit = as_locals (passed_takes ok.result ok.takes) vars (passed_fit names whole ok.result ok.takes as_written);
    sized = λ k v e. let w = mapped_from as_local vars k v e in
        subst (λ (v : LocalState). Sized (passed_records s.tags) v.of) w.2 (variables_sized k w.0 w.1);
    once = λ k.
        passed_once names whole enough ok.block.0 no_terms ok.block.1 ok.block.2 ok.block.3
        (λ j. ok.once j ∙ ap (λ n. between n (length b.vars) j)
        (sym (written_count whole ok.result ok.takes as_written))
        ∙ ap (λ n. between (length whole.params) n j) (sym count_vars)) k
        ∙ ap (λ n. between n (length vars) k) (sym (passed_count whole ok.result ok.takes as_written))
        ∙ ap (λ n. between (count (passed_takes ok.result ok.takes)) n k) (sym (length_map as_local vars));
    gives = passed_result ok.gives;
    refined = refined_result (by_pointer ok.gives) (by_pointer ok.result) ok.gives ok.result same_pointer ok.refined;
    body = body_is;
  }

-- ---- the state

there_still : (g : Body → Body) (o : Option Body) → is_there (option_map g o) ≡ is_there o
there_still g None = refl
there_still g (Some b) = refl

module _ (names : Names) (s : State) (a : AtEnd s) where
  abbrev next : State
  next = passed_state names s

  inv : Inv true s
  inv = a.outside.inv

  static_from : (k : ℕ) (h : StaticState) → slice_get next.statics k ≡ Some h →
      (g : StaticState) × (slice_get s.statics k ≡ Some g) × (passed_static g ≡ h)
  static_from k h e = mapped_from passed_static s.statics k h e

  routine_from : (k : ℕ) (h : RoutineState) → slice_get next.routines k ≡ Some h →
      (g : RoutineState) × (slice_get s.routines k ≡ Some g) × (passed_function names g ≡ h)
  routine_from k h e = mapped_from (passed_function names) s.routines k h e

  inv_passed : Inv true next
  inv_passed = record {
    tags = λ k t e. let g = mapped_from passed_record s.tags k t e in
        subst (TagOk (passed_records s.tags) k) g.2 (tag_passed s.tags k g.0 (inv.tags k g.0 g.1));
    names = tt;
    statics = λ k h e. let g = static_from k h e in
        subst (λ (h : StaticState). TypeOk (passed_records s.tags) h.of) g.2
        (type_passed s.tags g.0.of (inv.statics k g.0 g.1));
    routines = λ k h e.
        let g = routine_from k h e in
        let t = inv.routines k g.0 g.1 in
        subst (λ (h : RoutineState). TypeOk (passed_records s.tags) h.of × (is_function h.of ≡ true)) g.2
        (type_passed s.tags g.0.of t.0, functions_passed g.0.of ∙ t.1);
    locals = λ k v e. absurd (none-some v e);
  }

  -- ---- initial pointers

  static_length_passed : (o : Option StaticState) → static_length next (option_map passed_static o) ≡ static_length s o
  static_length_passed None = refl
  static_length_passed (Some g) =
      ap (λ o. if has_extent o then Some (owned (size_of o)) else None) (extent_passed s.tags g.of)

  aim_passed : (t : Aim) → aim_length next t ≡ aim_length s t
  aim_passed (To_global k) =
      ap (static_length next) (slice_get-map passed_static s.statics k) ∙ static_length_passed (slice_get s.statics k)
  aim_passed (To_literal k) = refl
  aim_passed (To_function k) = refl

  aims_passed : (t : Aim) (w : Reach) (z : ℤ) → Aims s t w z → Aims next t w z
  aims_passed (To_global k) w z h = (
    (passed_static h.0.0, slice_get-map passed_static s.statics k ∙ ap (option_map passed_static) h.0.1, h.0.2),
    reached_on s next (Awaits s.pending (To_global k)) (Awaits s.pending (To_global k)) (To_global k) w z
        (λ n e. aim_passed (To_global k) ∙ e) (λ y q. q) h.1,
  )
  aims_passed (To_literal k) w z h = (
    h.0,
    reached_on s next (Awaits s.pending (To_literal k)) (Awaits s.pending (To_literal k)) (To_literal k) w z
        (λ n e. e) (λ y q. q) h.1,
  )
  aims_passed (To_function k) w z h = (
    h.0,
    h.1,
    passed_function names h.2,
    slice_get-map (passed_function names) s.routines k
        ∙ ap (option_map (passed_function names)) h.3,
    h.4,
  )

  all_aim_passed : (n : ℕ) (ls : List Aiming) → AllAim s n ls → AllAim next n ls
  all_aim_passed n [] h = tt
  all_aim_passed n (l ∷ ls) h = (
    record { inside = h.0.inside; aligned = h.0.aligned; aims = aims_passed l.aim l.reach l.offset h.0.aims },
    all_aim_passed n ls h.1,
  )

  begins_passed : Begins next
  begins_passed k h j e q =
      let g = static_from k h e in
      let b = a.outside.strict.begins k g.0 j g.1 (ap (λ (h : StaticState). h.initial) g.2 ∙ q) in (
        b.0,
        ap (type_extent (passed_records s.tags)) (ap (λ (h : StaticState). h.of) (sym g.2))
            ∙ extent_passed s.tags g.0.of ∙ b.1,
        record { bytes = b.2.bytes; links = all_aim_passed b.0.size j.1 b.2.links },
      )

  -- ---- `main`

  main_passed : (g : RoutineState) → is_main g ≡ true → is_main (passed_function names g) ≡ true
  main_passed g e =
      let p = and_parts (is_there g.body && bytes_eq g.name.text (codes "main"))
      (same g.of (Function int no_types)) e in
      let q = and_parts (is_there g.body) (bytes_eq g.name.text (codes "main")) p.0 in
      let t : passed g.of ≡ g.of =
      ap passed (same_is g.of (Function int no_types) p.1) ∙ sym (same_is g.of (Function int no_types) p.1) in
      and_from (is_there (option_map (passed_whole names g) g.body) && bytes_eq g.name.text (codes "main"))
      (same (passed g.of) (Function int no_types))
      (and_from (is_there (option_map (passed_whole names g) g.body)) (bytes_eq g.name.text (codes "main"))
      (there_still (passed_whole names g) g.body ∙ q.0) q.1)
      (ap (λ t. same t (Function int no_types)) t ∙ p.1)

  has_main_passed : (fs : List RoutineState) → has_main fs ≡ true → has_main (map (passed_function names) fs) ≡ true
  has_main_passed [] e = e
  has_main_passed (g ∷ fs) e =
      ⊎_elim (λ m. or_left (is_main (passed_function names g)) (has_main (map (passed_function names) fs))
      (main_passed g m))
      (λ m. or_right (is_main (passed_function names g)) (has_main (map (passed_function names) fs))
      (has_main_passed fs m)) (or_cases (is_main g) (has_main fs) e)

  -- ---- all of it

  bodies_stand : (k : ℕ) (h : RoutineState) (c : Body) → slice_get next.routines k ≡ Some h → h.body ≡ Some c →
      BodyStands next h.of c
  bodies_stand k h c e q =
      let g = routine_from k h e in
      let b = option_from (passed_whole names g.0) g.0.body c (ap (λ (h : RoutineState). h.body) g.2 ∙ q) in
      let ok = a.outside.strict.bodies k g.0 b.0 g.1 b.1 in
      let z = body_stands names s inv g.0 b.0 ok (inv.routines k g.0 g.1).0 in
      subst (BodyStands next h.of) b.2 (subst (λ (h : RoutineState). BodyStands next h.of (passed_whole names g.0 b.0))
      g.2 z)

  pub passed_stands : Standing next
  passed_stands = record {
    inv = inv_passed;
    bodies = bodies_stand;
    begins = begins_passed;
    statics = λ k h e.
        let g = static_from k h e in
        let c = a.statics k g.0 g.1 in
        subst (λ (h : StaticState). Complete (passed_records s.tags) h.of × (IsUsed h.used → h.defined ≡ true)) g.2
        (complete_passed s.tags g.0.of c.0, c.1);
    routines = λ k h e u.
        let g = routine_from k h e in
        subst (λ (h : RoutineState). IsUsed h.used → is_there h.body ≡ true) g.2
        (λ u. there_still (passed_whole names g.0) g.0.body ∙ a.routines k g.0 g.1 u) u;
    reached = λ k z w. ap (λ o. reaches o z) (aim_passed (To_global k)) ∙ a.reached k z w;
    main = has_main_passed s.routines a.main;
  }
