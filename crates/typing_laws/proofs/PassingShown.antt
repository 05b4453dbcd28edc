-- The state of a program as it is run shows that program.
use Rattle.std.proofs.Common.{◌≡◌, ℕ, zero, suc, ◌+◌, Bool, true, false, cond, List, [], ◌∷◌, ◌++◌, length, Option}
use Rattle.std.proofs.Common.{Some, None, refl, sym, ap, ◌∙◌}
use Rattle.std.proofs.Math.Path.{fun_ext}
use Rattle.std.specs.Prelude.{slice_get, map, option_map, flat_map, not, ◌&&◌, ◌==◌, bytes_eq, codes, if◌then◌else◌}
use Rattle.std.specs.List.{position_or_len}
use Rattle.std.proofs.lemmas.Bool.{false≢true, and_parts}
use Rattle.std.proofs.lemmas.List.{map-append}
use Rattle.std.proofs.lemmas.Option.{slice_get-map}
use Rattle.cap_concentrate.specs.Rounding.{owned}
use Rattle.c_tree.specs.Types.{Ty, Void, Pointer, Tagged, Function, Const, Tys, no_types, also, int, bare, is_scalar}
use Rattle.c_tree.specs.Types.{same, all_agree}
use Rattle.c_tree.specs.Terms.{Action, Aim, To_global, To_literal, To_function, Pointing, Object, Variable, Routine}
use Rattle.c_tree.specs.Terms.{Program, numbers_from}
use Rattle.c_tree.specs.Scopes.{Aiming, StaticState, RoutineState, Body, State, has_extent}
use Rattle.c_tree.specs.Layout.{size_of}
use Rattle.c_tree.specs.Statics.{aim_length, static_length}
use Rattle.c_tree.specs.Programs.{count_before, Numbers, numbers_of, action_with, aim_with, reach_of, pointing_of}
use Rattle.c_tree.specs.Programs.{initial_of, object_of, variable_of, with_body, routine_of, tag_of, is_there, is_main}
use Rattle.c_tree.specs.Programs.{program_of}
use Rattle.c_tree.specs.Passed.{Names, by_pointer, passed, all_passed, hidden_of, result_pointer, written_params}
use Rattle.c_tree.specs.Passed.{copied_params, named_variables, passing, param_copies, passed_action, opened}
use Rattle.c_tree.specs.Passed.{passed_body, passed_routine, passed_object, passed_tag, passed_program}
use Rattle.typing_laws.proofs.PassingTypes.{extent_passed, tags_shown}
use Rattle.typing_laws.proofs.PassedStates.{as_local, passed_static, written, passed_whole, passed_function}
use Rattle.typing_laws.proofs.PassedStates.{passed_state}
use Rattle.typing_laws.proofs.Pointers as pointers
use Rattle.typing_laws.proofs.PassedVariables.{Each, each_map, passed_simple}
use Rattle.typing_laws.proofs.PassingNumbers.{statement_hidden_with, statement_with, opened_with}

-- ---- lists

module _ {A : Type 0} (v : A → A) (test : A → Bool) (h : (x : A) → test (v x) ≡ test x) where
  count_moved : (xs : List A) (k : ℕ) → count_before test (map v xs) k ≡ count_before test xs k
  count_moved [] k = refl
  count_moved (x ∷ xs) zero = refl
  count_moved (x ∷ xs) (suc k) =
      ap (λ n. if test (v x) then n + 1 else n) (count_moved xs k)
      ∙ ap (λ b. if b then count_before test xs k + 1 else count_before test xs k) (h x)

  place_moved : (xs : List A) → position_or_len test (map v xs) ≡ position_or_len test xs
  place_moved [] = refl
  place_moved (x ∷ xs) = ap (λ n. cond (not (test (v x))) (1 + n) 0) (place_moved xs)
      ∙ ap (λ b. cond (not b) (1 + position_or_len test xs) 0) (h x)

flat_moved : {A B : Type 0} (v : A → A) (w : B → B) (f g : A → List B) → ((x : A) → f (v x) ≡ map w (g x)) →
    (xs : List A) → flat_map f (map v xs) ≡ map w (flat_map g xs)
flat_moved v w f g h [] = refl
flat_moved v w f g h (x ∷ xs) =
    ap (λ ys. ys ++ flat_map f (map v xs)) (h x) ∙ ap (λ ys. map w (g x) ++ ys) (flat_moved v w f g h xs)
    ∙ sym (map-append w (g x) (flat_map g xs))

map_same : {A B : Type 0} (f g : A → B) → ((x : A) → f x ≡ g x) → (xs : List A) → map f xs ≡ map g xs
map_same f g h [] = refl
map_same f g h (x ∷ xs) = ap (λ y. y ∷ map f xs) (h x) ∙ ap (λ ys. g x ∷ ys) (map_same f g h xs)

-- ---- the type of `main`

pointer_not_int : (r : Ty) → by_pointer r ≡ true → same r int ≡ false
pointer_not_int (Tagged n) e = refl
pointer_not_int (Const (Tagged n)) e = refl
pointer_not_int r e = absurd (false≢true e)

int_passed : (r : Ty) → same (passed r) int ≡ same r int
int_passed (Function r ps) = ap (λ t. same t int) (pointers.passed_function r ps)
int_passed r = refl

nothing_passed : (ps : Tys) → all_agree (λ m n. m == n) (all_passed ps) no_types ≡ all_agree (λ m n. m == n) ps no_types
nothing_passed no_types = refl
nothing_passed (also t ts) = refl

main_type : (t : Ty) → same (passed t) (Function int no_types) ≡ same t (Function int no_types)
main_type (Function r ps) = by (by_pointer r) refl
  where
    by : (b : Bool) → by_pointer r ≡ b →
        same (if b then Function Void (also (Pointer (bare r)) (all_passed ps))
        else Function (passed r) (all_passed ps)) (Function int no_types)
        ≡ same (Function r ps) (Function int no_types)
    by true e = ap (λ b. b && all_agree (λ m n. m == n) ps no_types) (sym (pointer_not_int r e))
    by false e = ap (λ b. b && all_agree (λ m n. m == n) (all_passed ps) no_types) (int_passed r)
        ∙ ap (λ b. same r int && b) (nothing_passed ps)
main_type t = refl

-- ---- variables

plain_same : (b c : Bool) → (b ≡ true → c ≡ true) → (c && not (not b)) ≡ b
plain_same true c h = ap (λ c. c && true) (h refl)
plain_same false true h = refl
plain_same false false h = refl

local_shown : (v : Variable) → (v.simple ≡ true → is_scalar (bare v.of) ≡ true) → variable_of (as_local v) ≡ v
local_shown v h = ap (λ b. let w : Variable = record { name = v.name; place = v.place; of = v.of; simple = b } in w)
    (plain_same v.simple (is_scalar (bare v.of)) h)

locals_shown : (vs : List Variable) → Each (λ v. v.simple ≡ true → is_scalar (bare v.of) ≡ true) vs →
    map variable_of (map as_local vs) ≡ vs
locals_shown [] h = refl
locals_shown (v ∷ vs) h =
    ap (λ w. w ∷ map variable_of (map as_local vs)) (local_shown v (h 0 v refl))
    ∙ ap (λ ws. v ∷ ws) (locals_shown vs (λ k v e. h (suc k) v e))

-- ---- the program

there_same : {A B : Type 0} (f : A → B) (o : Option A) → is_there (option_map f o) ≡ is_there o
there_same f None = refl
there_same f (Some x) = refl

module _ (names : Names) (s : State) where
  abbrev run : State
  run = passed_state names s

  main_same : (f : RoutineState) → is_main (passed_function names f) ≡ is_main f
  main_same f =
      ap (λ b. b && bytes_eq f.name.text (codes "main") && same (passed f.of) (Function int no_types))
      (there_same (passed_whole names f) f.body)
      ∙ ap (λ b. is_there f.body && bytes_eq f.name.text (codes "main") && b) (main_type f.of)

  numbers_same : numbers_of run ≡ numbers_of s
  numbers_same =
      let statics = fun_ext (count_moved passed_static (λ (g : StaticState). g.defined) (λ g. refl) s.statics) in
      let routines = fun_ext (count_moved (passed_function names) (λ (f : RoutineState). is_there f.body)
      (λ f. there_same (passed_whole names f) f.body) s.routines) in
      ap (λ m. let n : Numbers = (m, (numbers_of run).1) in n) statics
      ∙ ap (λ m. let n : Numbers = ((numbers_of s).0, m) in n) routines

  -- ---- objects

  static_same : (o : Option StaticState) → static_length run (option_map passed_static o) ≡ static_length s o
  static_same None = refl
  static_same (Some g) = ap (λ x. if has_extent x then Some (owned (size_of x)) else None)
      (extent_passed s.tags g.of)

  aim_same : (a : Aim) → aim_length run a ≡ aim_length s a
  aim_same (To_global k) = ap (static_length run) (slice_get-map passed_static s.statics k)
      ∙ static_same (slice_get s.statics k)
  aim_same (To_literal k) = refl
  aim_same (To_function k) = refl

  pointing_same : (a : Aiming) → pointing_of run a ≡ pointing_of s a
  pointing_same a =
      ap (λ o. let r = reach_of o a.reach in
      let p : Pointing =
      record { at = a.at; aim = aim_with (numbers_of run) a.aim; low = r.0; length = r.1; offset = a.offset }
      in p) (aim_same a.aim)
      ∙ ap (λ n. let r = reach_of (aim_length s a.aim) a.reach in
      let p : Pointing = record { at = a.at; aim = aim_with n a.aim; low = r.0; length = r.1; offset = a.offset }
      in p) numbers_same

  initial_same : (i : Option (List ℕ × List Aiming)) → initial_of run i ≡ initial_of s i
  initial_same None = refl
  initial_same (Some i) = ap (λ ls. let r : List ℕ × List Pointing = (i.0, ls) in r)
      (map_same (pointing_of run) (pointing_of s) pointing_same i.1)

  object_shown : (g : StaticState) → object_of run (passed_static g) ≡ map passed_object (object_of s g)
  object_shown g =
      let at : List ℕ × List Pointing → Object =
      λ i. record { name = g.name.span; place = g.name.pos; of = passed g.of; bytes = i.0; links = i.1 } in
      ap (λ i. if g.defined then at i ∷ [] else []) (initial_same g.initial) ∙ by g.defined
    where
      by : (b : Bool) → (if b then (record {
        name = g.name.span;
        place = g.name.pos;
        of = passed g.of;
        bytes = (initial_of s g.initial).0;
        links = (initial_of s g.initial).1;
      }) ∷ [] else [])
          ≡ map passed_object (if b
          then (record {
            name = g.name.span;
            place = g.name.pos;
            of = g.of;
            bytes = (initial_of s g.initial).0;
            links = (initial_of s g.initial).1;
          }) ∷ [] else [])
      by true = refl
      by false = refl

  -- ---- functions

  -- a function whose names have the numbers of the program
  abbrev shown : RoutineState → Body → Routine
  shown f b = record {
    name = f.name.span;
    place = f.name.pos;
    of = f.of;
    params = b.params;
    vars = map variable_of b.vars;
    body = action_with (numbers_of s) b.action;
  }

  simple_shown : (f : RoutineState) (b : Body) →
      Each (λ v. v.simple ≡ true → is_scalar (bare v.of) ≡ true) (passed_routine names (written f b)).vars
  simple_shown f b =
      passed_simple names (written f b) (each_map
      (λ v. v.simple ≡ true → is_scalar (bare v.of) ≡ true) variable_of b.vars
      (λ k w e q. (and_parts (is_scalar (bare w.of)) (not w.addressed) q).0))

  vars_shown : (f : RoutineState) (b : Body) →
      map variable_of (map as_local (passed_routine names (written f b)).vars) ≡ (passed_routine names (shown f b)).vars
  vars_shown f b =
      locals_shown (passed_routine names (written f b)).vars (simple_shown f b)
      ∙ ap (λ vs. named_variables (written f b) ++ vs) (sym (statement_hidden_with (numbers_of s) names b.action))

  body_shown : (f : RoutineState) (b : Body) →
      action_with (numbers_of run) (passed_body names (written f b)) ≡ passed_body names (shown f b)
  body_shown f b =
      let r = written f b in
      let n = numbers_of s in
      let e = passing names r in
      let result = length (result_pointer r) in
      let front = result + length r.params in
      let last = length (named_variables r) in
      let copied = numbers_from front (length (copied_params r)) in
      let copies = param_copies result front (written_params r) in
      ap (λ n. action_with n (passed_body names r)) numbers_same
      ∙ sym (opened_with n copied (numbers_from last (length (hidden_of names b.action))) result front
      (written_params r) (passed_action e last b.action))
      ∙ ap (λ x. opened copied (numbers_from last (length (hidden_of names b.action))) copies x)
      (sym (statement_with n e last b.action))
      ∙ ap (λ (vs : List Variable). opened copied (numbers_from last (length vs)) copies
      (passed_action e last (action_with n b.action))) (sym (statement_hidden_with n names b.action))

  routine_shown : (f : RoutineState) →
      routine_of run (passed_function names f) ≡ map (passed_routine names) (routine_of s f)
  routine_shown f = by f.body
    where
      by : (o : Option Body) → with_body run (passed_function names f) (option_map (passed_whole names f) o)
          ≡ map (passed_routine names) (with_body s f o)
      by None = refl
      by (Some b) =
          let r = passed_routine names (written f b) in
          let at : List Variable → Action → List Routine =
          λ vs x. record { name = r.name; place = r.place; of = r.of; params = r.params; vars = vs; body = x }
          ∷ [] in
          ap (λ vs. at vs (action_with (numbers_of run) r.body)) (vars_shown f b)
          ∙ ap (at (passed_routine names (shown f b)).vars) (body_shown f b)

  -- The program of the state is what is run in the place of the state's own
  pub passed_shown : program_of run ≡ passed_program names (program_of s)
  unfolding program_of passed_program
  passed_shown =
      let tags = tags_shown s.tags in
      let objects = flat_moved passed_static passed_object (object_of run) (object_of s) object_shown s.statics in
      let routines = flat_moved (passed_function names) (passed_routine names) (routine_of run)
      (routine_of s) routine_shown s.routines in
      let main : (numbers_of run).1 (position_or_len is_main run.routines)
      ≡ (numbers_of s).1 (position_or_len is_main s.routines) =
      ap (λ (n : Numbers). n.1 (position_or_len is_main run.routines)) numbers_same
      ∙ ap (numbers_of s).1 (place_moved (passed_function names) is_main main_same s.routines) in
      let at : List Rattle.c_tree.specs.Terms.Tag → List Object → List Routine → ℕ → Program =
      λ ts os rs k. record { tags = ts; objects = os; texts = s.texts; routines = rs; main = k } in
      ap (λ ts. at ts (flat_map (object_of run) run.statics) (flat_map (routine_of run) run.routines)
      ((numbers_of run).1 (position_or_len is_main run.routines))) tags
      ∙ ap (λ os. at (map passed_tag (map tag_of s.tags)) os (flat_map (routine_of run) run.routines)
      ((numbers_of run).1 (position_or_len is_main run.routines))) objects
      ∙ ap (λ rs. at (map passed_tag (map tag_of s.tags)) (map passed_object (flat_map (object_of s) s.statics)) rs
      ((numbers_of run).1 (position_or_len is_main run.routines))) routines
      ∙ ap (at (map passed_tag (map tag_of s.tags)) (map passed_object (flat_map (object_of s) s.statics))
      (map (passed_routine names) (flat_map (routine_of s) s.routines))) main
