-- The law that other crates cite: what typing gives names a variable only where it is in scope.
use Rattle.std.proofs.Common.{◌≡◌, ℕ, zero, suc, List, [], ◌∷◌, ◌++◌, Option, Some, None}
use Rattle.std.proofs.Common.{refl}
use Rattle.std.proofs.Common.{sym, ap, subst, ◌∙◌}
use Rattle.std.specs.Prelude.{slice_get, map, option_map, flat_map}
use Rattle.std.proofs.lemmas.Option.{same_Some}
use Rattle.c_tree.specs.declared.typed.FunDef.{FunDef}
use Rattle.c_tree.specs.declared.typed.Typed.{Typed}
use Rattle.c_tree.specs.Terms as tree
use Rattle.c_tree.specs.Terms.{Shape, Term, Terms, term, no_terms, with_term, Form, Action, Actions, action, no_actions}
use Rattle.c_tree.specs.Terms.{with_action, Routine}
use Rattle.c_tree.specs.Scopes.{RoutineState, Body, State}
use Rattle.c_tree.specs.Passed.{Names}
use Rattle.c_tree.specs.Programs.{Numbers, numbers_of, shape_with, term_with, terms_with, action_with, actions_with}
use Rattle.c_tree.specs.Programs.{with_body, routine_of, program_of}
use Rattle.c_tree.specs.Views.{types_of, actions_of, action_at, Shows}
use Rattle.c_tree.specs.Views as views
use Rattle.c_tree.specs.WellTyped.{form_vars}
use Rattle.c_tree.specs.Typing.{Sound}
use Rattle.typing_laws.proofs.Accepted.{fit_of_reads}
use Rattle.typing_laws.proofs.Wholes.{mapped_from}
use Rattle.typing_laws.proofs.PassedStates.{passed_whole, passed_function, passed_state}
use Rattle.typing_laws.proofs.PassingShown.{passed_shown}
use Rattle.typing_laws.specs.Scoping.{ShapeScoped, TermScoped, TermsScoped, in_values, ActionScoped, ActionsScoped}
use Rattle.typing_laws.specs.Scoping.{AreScoped}
use Rattle.typing_laws.proofs.scopes.Stepping.{BodiesScoped}
use Rattle.typing_laws.proofs.scopes.Files.{Bodied, typed_bodies}
use Rattle.typing_laws.proofs.scopes.Passing.{whole_scoped}

-- ---- other numbers of objects and functions

module _ (n : Numbers) where
  shape_scoped : (js : List ℕ) (x : Shape) → ShapeScoped js x → ShapeScoped js (shape_with n x)
  shape_scoped js (tree.Var k) h = h
  shape_scoped js x h = tt

  mutual
    term_scoped : (js : List ℕ) (x : Term) → TermScoped js x → TermScoped js (term_with n x)
    term_scoped js (term x xs t p) h = (shape_scoped js x h.0, terms_scoped js xs h.1)

    terms_scoped : (js : List ℕ) (xs : Terms) → TermsScoped js xs → TermsScoped js (terms_with n xs)
    terms_scoped js no_terms h = tt
    terms_scoped js (with_term x xs) h = (term_scoped js x h.0, terms_scoped js xs h.1)

  mutual
    action_scoped : (js : List ℕ) (x : Action) → ActionScoped js x → ActionScoped js (action_with n x)
    action_scoped js (action f xs ys p) h =
        (h.0, terms_scoped (in_values f js) xs h.1, actions_scoped (form_vars f ++ js) ys h.2)

    actions_scoped : (js : List ℕ) (xs : Actions) → ActionsScoped js xs → ActionsScoped js (actions_with n xs)
    actions_scoped js no_actions h = tt
    actions_scoped js (with_action x xs) h = (action_scoped js x h.0, actions_scoped js xs h.1)

-- ---- the functions of a program

abbrev RoutinesScoped : List Routine → Type 0
RoutinesScoped [] = Unit {0}
RoutinesScoped (f ∷ fs) = ActionScoped f.params f.body × RoutinesScoped fs

both_scoped : (fs gs : List Routine) → RoutinesScoped fs → RoutinesScoped gs → RoutinesScoped (fs ++ gs)
both_scoped [] gs h k = k
both_scoped (f ∷ fs) gs h k = (h.0, both_scoped fs gs h.1 k)

body_scoped : (s : State) (f : RoutineState) (o : Option Body) →
    ((b : Body) → o ≡ Some b → ActionScoped b.params b.action) → RoutinesScoped (with_body s f o)
body_scoped s f None h = tt
body_scoped s f (Some b) h = (action_scoped (numbers_of s) b.params b.action (h b refl), tt)

routines_scoped : (s : State) (fs : List RoutineState) → BodiesScoped fs →
    RoutinesScoped (flat_map (routine_of s) fs)
routines_scoped s [] h = tt
routines_scoped s (f ∷ fs) h =
    both_scoped (routine_of s f) (flat_map (routine_of s) fs) (body_scoped s f f.body (λ b e. h 0 f b refl e))
    (routines_scoped s fs (λ k g b e q. h (suc k) g b e q))

function_scoped : (p : Typed) (fs : List FunDef) →
    RoutinesScoped (map (views.routine_of (types_of p.types) (actions_of p)) fs) → (k : ℕ) (f : FunDef) →
    slice_get fs k ≡ Some f → ActionScoped f.params (action_at (actions_of p) f.body)
function_scoped p [] h k f e = absurd cc
function_scoped p (g ∷ fs) h zero f e =
    subst (λ (f : FunDef). ActionScoped f.params (action_at (actions_of p) f.body)) (same_Some g f e) h.0
function_scoped p (g ∷ fs) h (suc k) f e = function_scoped p fs h.1 k f e

-- ---- the program as it is run

option_from : {A B : Type 0} (v : A → B) (o : Option A) (y : B) → option_map v o ≡ Some y →
    (x : A) × (o ≡ Some x) × (v x ≡ y)
option_from v None y e = absurd cc
option_from v (Some x) y e = (x, refl, same_Some (v x) y e)

passed_bodies : (names : Names) (s : State) → Bodied s → BodiesScoped (passed_state names s).routines
passed_bodies names s h k f c e q =
    let g = mapped_from (passed_function names) s.routines k f e in
    let b = option_from (passed_whole names g.0) g.0.body c (ap (λ (f : RoutineState). f.body) g.2 ∙ q) in
    let inv = h.outside.inv in
    subst (λ (c : Body). ActionScoped c.params c.action) b.2
    (whole_scoped names s inv g.0 b.0 (h.outside.strict.bodies k g.0 b.0 g.1 b.1) (inv.routines k g.0 g.1).0
    (h.bodies k g.0 b.0 g.1 b.1))

shown_routines : (p : Typed) (s : State) → Shows p (program_of s) →
    map (views.routine_of (types_of p.types) (actions_of p)) p.funs ≡ flat_map (routine_of s) s.routines
unfolding program_of
shown_routines p s h = h.routines

pub scoped : (p : Typed) → Sound p → AreScoped p
scoped p h =
    let t = h.types.types in
    let z = typed_bodies h.types.syntax t.program (fit_of_reads h.tree h.bytes h.types.syntax h.types.reads) t.given in
    let run = passed_state z.0 z.1 in
    let shows = subst (Shows p) (sym (passed_shown z.0 z.1 ∙ z.3)) t.shows in
    function_scoped p p.funs (subst RoutinesScoped (sym (shown_routines p run shows))
    (routines_scoped run run.routines (passed_bodies z.0 z.1 z.2)))
