-- What typing gives has the operands and the parts of its shapes.
use Rattle.std.proofs.Common.{◌≡◌, ℕ, zero, suc, ◌+◌, Bool, true, false, List, [], ◌∷◌, Option, Some, None, Ok, refl}
use Rattle.std.proofs.Common.{sym, subst, ◌∙◌, ◌⊎◌, inl, inr, arith}
use Rattle.std.specs.Prelude.{slice_get, flat_map}
use Rattle.c_tree.specs.Syntax.{Syn}
use Rattle.c_tree.specs.Types.{Ty}
use Rattle.c_tree.specs.Terms as tree
use Rattle.c_tree.specs.Terms.{Shape, Term, Terms, term, no_terms, with_term, Form, Action, Actions, action, no_actions}
use Rattle.c_tree.specs.Terms.{with_action, Routine, Program}
use Rattle.c_tree.specs.Scopes.{State, RoutineState, Body}
use Rattle.c_tree.specs.Programs.{shape_with, term_with, terms_with, action_with, actions_with, typing, program_of}
use Rattle.c_tree.specs.Programs.{with_body, routine_of, numbers_of}
use Rattle.c_tree.specs.Programs as programs
use Rattle.c_tree.specs.WellTyped.{Inside, inside_of, count_of, TestsFit}
use Rattle.typing_laws.specs.Fitting.{IsFit}
use Rattle.typing_laws.proofs.Facts.{ShapeOk, TermOk, TermsOk}
use Rattle.typing_laws.proofs.Acts.{FormOk, ActionOk, ActionsOk}
use Rattle.typing_laws.proofs.Ended.{typed_end}
use Rattle.typing_laws.proofs.Standing.{BodyStands, Standing}
use Rattle.typing_laws.proofs.PassedStates.{passed_state}
use Rattle.typing_laws.proofs.PassingState.{passed_stands}
use Rattle.typing_laws.proofs.PassingShown.{passed_shown}
use Rattle.written_programs.specs.Writable.{Every, HasOperands, IsWhole, AreWhole, HasTests, HasMore, HasParts}
use Rattle.written_programs.specs.Writable.{IsWholeAction, AreWholeActions, IsWholeRoutine}
use Rattle.written_programs.proofs.Lists.{every_both}

-- ---- expressions

whole_shape : (m : Bool) (s : State) (n : Shape) (xs : Terms) (t : Ty) → ShapeOk m s n xs t → HasOperands n xs
whole_shape m s (tree.Constant n) no_terms t h = tt
whole_shape m s (tree.Literal k) no_terms t h = tt
whole_shape m s (tree.Var k) no_terms t h = tt
whole_shape m s (tree.Global k) no_terms t h = tt
whole_shape m s (tree.Fun k) no_terms t h = tt
whole_shape m s tree.Load (with_term a no_terms) t h = tt
whole_shape m s tree.Decay (with_term a no_terms) t h = tt
whole_shape m s tree.Deref (with_term a no_terms) t h = tt
whole_shape m s (tree.Member k) (with_term a no_terms) t h = tt
whole_shape m s tree.Address (with_term a no_terms) t h = tt
whole_shape m s tree.Convert (with_term a no_terms) t h = tt
whole_shape m s (tree.Unary o) (with_term a no_terms) t h = tt
whole_shape m s (tree.Step adds in_front) (with_term a no_terms) t h = tt
whole_shape m s (tree.Arithmetic o) (with_term a (with_term b no_terms)) t h = tt
whole_shape m s (tree.Capability o r) (with_term a (with_term b no_terms)) t h = tt
whole_shape m s (tree.Plus minus) (with_term a (with_term b no_terms)) t h = tt
whole_shape m s tree.Difference (with_term a (with_term b no_terms)) t h = tt
whole_shape m s (tree.Compare o) (with_term a (with_term b no_terms)) t h = tt
whole_shape m s tree.And (with_term a (with_term b no_terms)) t h = tt
whole_shape m s tree.Or (with_term a (with_term b no_terms)) t h = tt
whole_shape m s tree.Comma (with_term a (with_term b no_terms)) t h = tt
whole_shape m s tree.Assign (with_term a (with_term b no_terms)) t h = tt
whole_shape m s (tree.Compound o of) (with_term a (with_term b no_terms)) t h = tt
whole_shape m s tree.Conditional (with_term a (with_term b (with_term c no_terms))) t h = tt
whole_shape m s tree.Call (with_term g xs) t h = tt
whole_shape m s (tree.Library k) xs t h = tt
whole_shape m s n xs t h = absurd h

mutual
  whole_term : (m : Bool) (s : State) (x : Term) → TermOk m s x → IsWhole x
  whole_term m s (term n xs t p) h = (whole_shape m s n xs t h.1, whole_terms m s xs h.0)

  whole_terms : (m : Bool) (s : State) (xs : Terms) → TermsOk m s xs → AreWhole xs
  whole_terms m s no_terms h = tt
  whole_terms m s (with_term x xs) h = (whole_term m s x h.0, whole_terms m s xs h.1)

-- ---- statements

whole_tests : (a b : Bool) (xs : Terms) → TestsFit a b xs → HasTests a b xs
whole_tests false false no_terms h = tt
whole_tests false true (with_term b no_terms) h = tt
whole_tests true false (with_term a no_terms) h = tt
whole_tests true true (with_term a (with_term b no_terms)) h = tt
whole_tests a b xs h = absurd h

whole_more : (n : ℕ) (ys : Actions) → count_of ys ≡ n + 1 → HasMore n ys
whole_more n no_actions e = absurd (omega (arith, e))
whole_more n (with_action y no_actions) e = omega (arith, e)
whole_more n (with_action y (with_action z zs)) e = (
  count_of zs,
  omega (arith, e),
  whole_more (count_of zs)
      (with_action z zs) refl,
)

one_part : (f : Form) (xs : Terms) (ys : Actions) → ((y : Action) → HasParts f xs (with_action y no_actions)) →
    count_of ys ≡ 1 → HasParts f xs ys
one_part f xs no_actions g e = absurd (omega (arith, e))
one_part f xs (with_action y no_actions) g e = g y
one_part f xs (with_action y (with_action z zs)) g e = absurd (omega (arith, e))

no_part : (f : Form) (xs : Terms) (ys : Actions) → HasParts f xs no_actions → count_of ys ≡ 0 → HasParts f xs ys
no_part f xs no_actions h e = h
no_part f xs (with_action y ys) h e = absurd (omega (arith, e))

branches : (a : Term) (ys : Actions) → (count_of ys ≡ 1) ⊎ (count_of ys ≡ 2) →
    HasParts tree.If (with_term a no_terms) ys
branches a no_actions (inl e) = absurd (omega (arith, e))
branches a no_actions (inr e) = absurd (omega (arith, e))
branches a (with_action y no_actions) e = tt
branches a (with_action y (with_action z no_actions)) e = tt
branches a (with_action y (with_action z (with_action w ws))) (inl e) = absurd (omega (arith, e))
branches a (with_action y (with_action z (with_action w ws))) (inr e) = absurd (omega (arith, e))

whole_form : (s : State) (t : Ty) (i : Inside) (f : Form) (xs : Terms) (n : ℕ) → FormOk s t i f xs n → (ys : Actions) →
    count_of ys ≡ n → HasParts f xs ys
whole_form s t i tree.Evaluate (with_term a no_terms) zero h ys e = no_part tree.Evaluate (with_term a no_terms) ys tt e
whole_form s t i (tree.Init k o) (with_term a no_terms) zero h ys e =
    no_part (tree.Init k o) (with_term a no_terms) ys tt e
whole_form s t i (tree.Block vars) no_terms n h ys e = tt
whole_form s t i tree.If (with_term a no_terms) n h ys e =
    branches a ys (subst (λ m. (m ≡ 1) ⊎ (m ≡ 2)) (sym e) h.1)
whole_form s t i tree.If no_terms n h ys e = absurd h.0
whole_form s t i tree.If (with_term a (with_term b xs)) n h ys e = absurd h.0
whole_form s t i tree.While (with_term a no_terms) n h ys e =
    one_part tree.While (with_term a no_terms) ys (λ y. tt) (e ∙ h.1)
whole_form s t i tree.While no_terms n h ys e = absurd h.0
whole_form s t i tree.While (with_term a (with_term b xs)) n h ys e = absurd h.0
whole_form s t i tree.Do (with_term a no_terms) n h ys e =
    one_part tree.Do (with_term a no_terms) ys (λ y. tt) (e ∙ h.1)
whole_form s t i tree.Do no_terms n h ys e = absurd h.0
whole_form s t i tree.Do (with_term a (with_term b xs)) n h ys e = absurd h.0
whole_form s t i (tree.For vars k a b) xs n h ys e = (whole_tests a b xs h.1, whole_more k ys (e ∙ h.2))
whole_form s t i (tree.Switch vars labels) (with_term a no_terms) n h ys e = tt
whole_form s t i tree.Break no_terms zero h ys e = no_part tree.Break no_terms ys tt e
whole_form s t i tree.Continue no_terms zero h ys e = no_part tree.Continue no_terms ys tt e
whole_form s t i tree.Return no_terms zero h ys e = no_part tree.Return no_terms ys tt e
whole_form s t i tree.Return (with_term a no_terms) zero h ys e = no_part tree.Return (with_term a no_terms) ys tt e
whole_form s t i tree.Empty no_terms zero h ys e = no_part tree.Empty no_terms ys tt e
whole_form s t i f xs n h ys e = absurd h

mutual
  whole_action : (s : State) (t : Ty) (i : Inside) (x : Action) → ActionOk s t i x → IsWholeAction x
  whole_action s t i (action f xs ys p) h = (
    whole_terms true s xs h.0,
    whole_form s t i f xs (count_of ys) h.1 ys refl,
    whole_actions s t (inside_of f i) ys h.2,
  )

  whole_actions : (s : State) (t : Ty) (i : Inside) (xs : Actions) → ActionsOk s t i xs → AreWholeActions xs
  whole_actions s t i no_actions h = tt
  whole_actions s t i (with_action x xs) h = (whole_action s t i x h.0, whole_actions s t i xs h.1)

-- ---- with other numbers

shape_moved : (n : programs.Numbers) (m : Shape) (xs : Terms) → HasOperands m xs →
    HasOperands (shape_with n m) (terms_with n xs)
shape_moved n (tree.Constant k) no_terms h = tt
shape_moved n (tree.Literal k) no_terms h = tt
shape_moved n (tree.Var k) no_terms h = tt
shape_moved n (tree.Global k) no_terms h = tt
shape_moved n (tree.Fun k) no_terms h = tt
shape_moved n tree.Load (with_term a no_terms) h = tt
shape_moved n tree.Decay (with_term a no_terms) h = tt
shape_moved n tree.Deref (with_term a no_terms) h = tt
shape_moved n (tree.Member k) (with_term a no_terms) h = tt
shape_moved n tree.Address (with_term a no_terms) h = tt
shape_moved n tree.Convert (with_term a no_terms) h = tt
shape_moved n (tree.Unary o) (with_term a no_terms) h = tt
shape_moved n (tree.Step adds in_front) (with_term a no_terms) h = tt
shape_moved n (tree.Arithmetic o) (with_term a (with_term b no_terms)) h = tt
shape_moved n (tree.Capability o r) (with_term a (with_term b no_terms)) h = tt
shape_moved n (tree.Plus minus) (with_term a (with_term b no_terms)) h = tt
shape_moved n tree.Difference (with_term a (with_term b no_terms)) h = tt
shape_moved n (tree.Compare o) (with_term a (with_term b no_terms)) h = tt
shape_moved n tree.And (with_term a (with_term b no_terms)) h = tt
shape_moved n tree.Or (with_term a (with_term b no_terms)) h = tt
shape_moved n tree.Comma (with_term a (with_term b no_terms)) h = tt
shape_moved n tree.Assign (with_term a (with_term b no_terms)) h = tt
shape_moved n (tree.Compound o of) (with_term a (with_term b no_terms)) h = tt
shape_moved n tree.Conditional (with_term a (with_term b (with_term c no_terms))) h = tt
shape_moved n tree.Call (with_term g xs) h = tt
shape_moved n (tree.Library k) xs h = tt
shape_moved n m xs h = absurd h

mutual
  term_moved : (n : programs.Numbers) (x : Term) → IsWhole x → IsWhole (term_with n x)
  term_moved n (term m xs t p) h = (shape_moved n m xs h.0, terms_moved n xs h.1)

  terms_moved : (n : programs.Numbers) (xs : Terms) → AreWhole xs → AreWhole (terms_with n xs)
  terms_moved n no_terms h = tt
  terms_moved n (with_term x xs) h = (term_moved n x h.0, terms_moved n xs h.1)

tests_moved : (n : programs.Numbers) (a b : Bool) (xs : Terms) → HasTests a b xs → HasTests a b (terms_with n xs)
tests_moved n false false no_terms h = tt
tests_moved n false true (with_term b no_terms) h = tt
tests_moved n true false (with_term a no_terms) h = tt
tests_moved n true true (with_term a (with_term b no_terms)) h = tt
tests_moved n a b xs h = absurd h

more_moved : (n : programs.Numbers) (k : ℕ) (ys : Actions) → HasMore k ys → HasMore k (actions_with n ys)
more_moved n k no_actions h = absurd h
more_moved n k (with_action y no_actions) h = h
more_moved n k (with_action y (with_action z zs)) h = (h.0, h.1, more_moved n h.0 (with_action z zs) h.2)

parts_moved : (n : programs.Numbers) (f : Form) (xs : Terms) (ys : Actions) → HasParts f xs ys →
    HasParts f (terms_with n xs) (actions_with n ys)
parts_moved n tree.Evaluate (with_term a no_terms) no_actions h = tt
parts_moved n (tree.Init k o) (with_term a no_terms) no_actions h = tt
parts_moved n (tree.Block vars) no_terms ys h = tt
parts_moved n tree.If (with_term a no_terms) (with_action x no_actions) h = tt
parts_moved n tree.If (with_term a no_terms) (with_action x (with_action y no_actions)) h = tt
parts_moved n tree.While (with_term a no_terms) (with_action x no_actions) h = tt
parts_moved n tree.Do (with_term a no_terms) (with_action x no_actions) h = tt
parts_moved n (tree.For vars k a b) xs ys h = (tests_moved n a b xs h.0, more_moved n k ys h.1)
parts_moved n (tree.Switch vars labels) (with_term a no_terms) ys h = tt
parts_moved n tree.Break no_terms no_actions h = tt
parts_moved n tree.Continue no_terms no_actions h = tt
parts_moved n tree.Return no_terms no_actions h = tt
parts_moved n tree.Return (with_term a no_terms) no_actions h = tt
parts_moved n tree.Empty no_terms no_actions h = tt
parts_moved n f xs ys h = absurd h

mutual
  action_moved : (n : programs.Numbers) (x : Action) → IsWholeAction x → IsWholeAction (action_with n x)
  action_moved n (action f xs ys p) h = (terms_moved n xs h.0, parts_moved n f xs ys h.1, actions_moved n ys h.2)

  actions_moved : (n : programs.Numbers) (xs : Actions) → AreWholeActions xs → AreWholeActions (actions_with n xs)
  actions_moved n no_actions h = tt
  actions_moved n (with_action x xs) h = (action_moved n x h.0, actions_moved n xs h.1)

-- ---- programs

pub every_flat : {A B : Type 0} (P : B → Type 0) (f : A → List B) (xs : List A) →
    ((k : ℕ) (x : A) → slice_get xs k ≡ Some x → Every P (f x)) → Every P (flat_map f xs)
every_flat P f [] h = tt
every_flat P f (x ∷ xs) h = every_both P (f x) (flat_map f xs) (h 0 x refl)
    (every_flat P f xs (λ k y e. h (suc k) y e))

whole_routine : (s : State) (f : RoutineState) (o : Option Body) →
    ((b : Body) → o ≡ Some b → BodyStands s f.of b) → Every IsWholeRoutine (with_body s f o)
whole_routine s f None h = tt
whole_routine s f (Some b) h =
    let z = h b refl in
    (action_moved (numbers_of s) b.action (whole_action _ z.gives _ b.action z.body), tt)

whole_program : (s : State) → Standing s → Every IsWholeRoutine (program_of s).routines
unfolding program_of
whole_program s z = every_flat IsWholeRoutine (routine_of s) s.routines
    (λ k f e. whole_routine s f f.body (λ b i. z.bodies k f b e i))

pub typed_whole : (x : Syn) (q : Program) → IsFit x → typing x ≡ Ok q → Every IsWholeRoutine q.routines
typed_whole x q fit e =
    let t = typed_end x q fit e in
    subst (λ (r : Program). Every IsWholeRoutine r.routines) (passed_shown t.0 t.1 ∙ t.3)
    (whole_program (passed_state t.0 t.1) (passed_stands t.0 t.1 t.2))
