-- The law that other crates cite: in what typing gives, values and places stand where they are asked for.
use Rattle.std.proofs.Common.{◌<◌, length, false, ◌≡◌, ℕ, zero, suc, List, [], ◌∷◌, ◌++◌, Option, Some, None, Bool}
use Rattle.std.proofs.Common.{true, refl, sym, ap, subst, ◌∙◌, inl, inr, ⊎_elim}
use Rattle.std.proofs.lemmas.Bool.{false≢true}
use Rattle.std.proofs.lemmas.Option.{slice_get-map, same_Some}
use Rattle.std.specs.Prelude.{slice_get, map, option_map, flat_map}
use Rattle.c_tree.specs.Passed.{Names}
use Rattle.c_tree.specs.Programs.{variable_of, Numbers, numbers_of, shape_with, term_with, terms_with, action_with}
use Rattle.c_tree.specs.Programs.{actions_with, with_body, routine_of, program_of}
use Rattle.c_tree.specs.Scopes.{RoutineState, Body, State}
use Rattle.c_tree.specs.Terms.{Variable, Shape, Term, Terms, term, no_terms, with_term, type_of, Form, Action, Actions}
use Rattle.c_tree.specs.Terms.{action, no_actions, with_action, Routine}
use Rattle.c_tree.specs.Terms as tree
use Rattle.c_tree.specs.Types.{Array, Function, adjusted, Ty, is_scalar, is_tagged}
use Rattle.c_tree.specs.Typing.{Sound}
use Rattle.c_tree.specs.Views.{types_of, actions_of, action_at, Shows}
use Rattle.c_tree.specs.Views as views
use Rattle.c_tree.specs.WellTyped.{type_in}
use Rattle.c_tree.specs.declared.typed.FunDef.{FunDef}
use Rattle.c_tree.specs.declared.typed.Typed.{Typed}
use Rattle.typing_laws.proofs.Accepted.{fit_of_reads}
use Rattle.typing_laws.proofs.Wholes.{mapped_from}
use Rattle.typing_laws.proofs.PassedStates.{passed_whole, passed_function, passed_state}
use Rattle.typing_laws.proofs.PassingShown.{passed_shown}
use Rattle.typing_laws.specs.Valued.{AreAdjusted, ParametersFit, AreDirect, AreScalars, Begins, FirstBegin, GivesValue}
use Rattle.typing_laws.specs.Valued.{IsValue, IsPlace, AreAsked, FormValued, ActionValued, ActionsValued, AreValues}
use Rattle.typing_laws.specs.Valued.{asks_place}
use Rattle.typing_laws.proofs.values.Sorts.{is_stored}
use Rattle.typing_laws.proofs.values.Stepping as stepping
use Rattle.typing_laws.proofs.values.Passing.{whole_adjusted, whole_valued}
use Rattle.typing_laws.proofs.values.Files.{Bodied, typed_bodies}

-- ---- other numbers of objects and functions

module _ (n : Numbers) where
  type_with : (x : Term) → type_of (term_with n x) ≡ type_of x
  type_with (term x xs t p) = refl

  direct_with : (xs : Terms) → AreDirect xs → AreDirect (terms_with n xs)
  direct_with no_terms h = tt
  direct_with (with_term x xs) h = (ap is_tagged (type_with x) ∙ h.0, direct_with xs h.1)

  scalars_with : (xs : Terms) → AreScalars xs → AreScalars (terms_with n xs)
  scalars_with no_terms h = tt
  scalars_with (with_term x xs) h = (ap is_scalar (type_with x) ∙ h.0, scalars_with xs h.1)

  gives_value : (x : Shape) (xs : Terms) (t : Ty) → GivesValue x xs t → GivesValue (shape_with n x) (terms_with n xs) t
  gives_value (tree.Global k) xs t h = absurd h
  gives_value (tree.Fun k) xs t h = absurd h
  gives_value tree.Call xs t h = (h.0, scalars_with xs h.1)
  gives_value x xs t h = h

  asks_same : (x : Shape) → asks_place (shape_with n x) ≡ asks_place x
  asks_same (tree.Global k) = refl
  asks_same (tree.Fun k) = refl
  asks_same x = refl

  mutual
    value_valued : (x : Term) → IsValue x → IsValue (term_with n x)
    value_valued (term x xs t p) h = (
      gives_value x xs t h.0,
      subst (λ b. AreAsked b (terms_with n xs)) (sym (asks_same x))
          (asked_valued (asks_place x) xs h.1),
    )

    place_valued : (x : Term) → IsPlace x → IsPlace (term_with n x)
    place_valued (term (tree.Literal k) xs t p) h = h
    place_valued (term (tree.Var k) xs t p) h = tt
    place_valued (term (tree.Global k) xs t p) h = tt
    place_valued (term (tree.Fun k) xs t p) h = tt
    place_valued (term tree.Deref xs t p) h = asked_valued false xs h
    place_valued (term (tree.Member k) (with_term a no_terms) t p) h =
        ⊎_elim (λ g. inl (place_valued a g)) (λ g. inr (value_valued a g)) h
    place_valued x h = absurd h

    asked_valued : (b : Bool) (xs : Terms) → AreAsked b xs → AreAsked b (terms_with n xs)
    asked_valued b no_terms h = tt
    asked_valued true (with_term x xs) h = (place_valued x h.0, asked_valued false xs h.1)
    asked_valued false (with_term x xs) h = (value_valued x h.0, asked_valued false xs h.1)

  begins_with : (x : Action) → Begins x → Begins (action_with n x)
  begins_with (action tree.Evaluate xs ys p) h = tt
  begins_with (action (tree.Init k offset) xs ys p) h = tt
  begins_with (action f xs ys p) h = absurd h

  begin_with : (k : ℕ) (ys : Actions) → FirstBegin k ys → FirstBegin k (actions_with n ys)
  begin_with (suc k) (with_action x ys) h = (begins_with x h.0, begin_with k ys h.1)
  begin_with (suc k) no_actions h = tt
  begin_with zero ys h = tt

  form_valued : (f : Form) (xs : Terms) (ys : Actions) → FormValued f xs ys →
      FormValued f (terms_with n xs) (actions_with n ys)
  form_valued tree.Return xs ys h = direct_with xs h
  form_valued (tree.Switch vars ls) xs ys h = h
  form_valued (tree.For vars k a b) xs ys h = begin_with k ys h
  form_valued f xs ys h = tt

  mutual
    action_valued : (x : Action) → ActionValued x → ActionValued (action_with n x)
    action_valued (action f xs ys p) h =
        (form_valued f xs ys h.0, asked_valued false xs h.1, actions_valued ys h.2)

    actions_valued : (xs : Actions) → ActionsValued xs → ActionsValued (actions_with n xs)
    actions_valued no_actions h = tt
    actions_valued (with_action x xs) h = (action_valued x h.0, actions_valued xs h.1)

-- ---- the functions of a program

unstored_adjusted : (t : Ty) → is_stored t ≡ false → adjusted t ≡ t
unstored_adjusted (Array t n) e = absurd (false≢true (sym e))
unstored_adjusted (Function r ps) e = absurd (false≢true (sym e))
unstored_adjusted t e = refl

abbrev BodiesValued : List RoutineState → Type 0
BodiesValued fs = (k : ℕ) (f : RoutineState) (b : Body) → slice_get fs k ≡ Some f → f.body ≡ Some b →
    ActionValued b.action × stepping.AreAdjusted b

-- the parameters of a function of the program
abbrev Adjusted : Routine → Type 0
Adjusted r = (k : ℕ) (v : Variable) → k < length r.params → slice_get r.vars k ≡ Some v → is_stored v.of ≡ false

abbrev RoutinesValued : List Routine → Type 0
RoutinesValued [] = Unit {0}
RoutinesValued (f ∷ fs) = (ActionValued f.body × Adjusted f) × RoutinesValued fs

both_valued : (fs gs : List Routine) → RoutinesValued fs → RoutinesValued gs → RoutinesValued (fs ++ gs)
both_valued [] gs h k = k
both_valued (f ∷ fs) gs h k = (h.0, both_valued fs gs h.1 k)

body_valued : (s : State) (f : RoutineState) (o : Option Body) →
    ((b : Body) → o ≡ Some b → ActionValued b.action × stepping.AreAdjusted b) → RoutinesValued (with_body s f o)
body_valued s f None h = tt
body_valued s f (Some b) h = (
  (
    action_valued (numbers_of s) b.action (h b refl).0,
    λ k v l e. let u = mapped_from variable_of b.vars k v e in
        ap (λ (v : Variable). is_stored v.of) (sym u.2) ∙ (h b refl).1 k u.0 l u.1,
  ),
  tt,
)

routines_valued : (s : State) (fs : List RoutineState) → BodiesValued fs →
    RoutinesValued (flat_map (routine_of s) fs)
routines_valued s [] h = tt
routines_valued s (f ∷ fs) h =
    both_valued (routine_of s f) (flat_map (routine_of s) fs) (body_valued s f f.body (λ b e. h 0 f b refl e))
    (routines_valued s fs (λ k g b e q. h (suc k) g b e q))

function_valued : (p : Typed) (fs : List FunDef) →
    RoutinesValued (map (views.routine_of (types_of p.types) (actions_of p)) fs) → (k : ℕ) (f : FunDef) →
    slice_get fs k ≡ Some f → ActionValued (action_at (actions_of p) f.body) × AreAdjusted p f
function_valued p [] h k f e = absurd cc
function_valued p (g ∷ fs) h zero f e =
    subst (λ (f : FunDef). ActionValued (action_at (actions_of p) f.body) × AreAdjusted p f) (same_Some g f e) (
      h.0.0,
      λ k v l e. unstored_adjusted (type_in p v.of) (h.0.1 k (views.variable_of (types_of p.types) v) l
          (slice_get-map (views.variable_of (types_of p.types)) g.vars k
          ∙ ap (option_map (views.variable_of (types_of p.types))) e)),
    )
function_valued p (g ∷ fs) h (suc k) f e = function_valued p fs h.1 k f e

-- ---- the program as it is run

option_from : {A B : Type 0} (v : A → B) (o : Option A) (y : B) → option_map v o ≡ Some y →
    (x : A) × (o ≡ Some x) × (v x ≡ y)
option_from v None y e = absurd cc
option_from v (Some x) y e = (x, refl, same_Some (v x) y e)

passed_bodies : (names : Names) (s : State) → Bodied s → BodiesValued (passed_state names s).routines
passed_bodies names s h k f c e q =
    let g = mapped_from (passed_function names) s.routines k f e in
    let b = option_from (passed_whole names g.0) g.0.body c (ap (λ (f : RoutineState). f.body) g.2 ∙ q) in
    let inv = h.outside.inv in
    let ok = h.outside.strict.bodies k g.0 b.0 g.1 b.1 in
    let made = h.bodies k g.0 b.0 g.1 b.1 in
    subst (λ (c : Body). ActionValued c.action × stepping.AreAdjusted c) b.2
    (whole_valued names s inv g.0 b.0 ok made.0, whole_adjusted names s g.0 b.0 ok made.1)

shown_routines : (p : Typed) (s : State) → Shows p (program_of s) →
    map (views.routine_of (types_of p.types) (actions_of p)) p.funs ≡ flat_map (routine_of s) s.routines
unfolding program_of
shown_routines p s h = h.routines

functions_valued : (p : Typed) → Sound p → (k : ℕ) (f : FunDef) → slice_get p.funs k ≡ Some f →
    ActionValued (action_at (actions_of p) f.body) × AreAdjusted p f
functions_valued p h =
    let t = h.types.types in
    let z = typed_bodies h.types.syntax t.program (fit_of_reads h.tree h.bytes h.types.syntax h.types.reads) t.given in
    let run = passed_state z.0 z.1 in
    let shows = subst (Shows p) (sym (passed_shown z.0 z.1 ∙ z.3)) t.shows in
    function_valued p p.funs (subst RoutinesValued (sym (shown_routines p run shows))
    (routines_valued run run.routines (passed_bodies z.0 z.1 z.2)))

pub valued : (p : Typed) → Sound p → AreValues p
valued p h k f e = (functions_valued p h k f e).0

pub parameters_fit : (p : Typed) → Sound p → ParametersFit p
parameters_fit p h k f e = (functions_valued p h k f e).1
