-- What typing sees to of the state at the end of a file.
use Rattle.std.proofs.Common.{◌≡◌, ℕ, zero, suc, ◌+◌, ◌≤◌, true, false, List, [], ◌∷◌, length, Some}
use Rattle.std.proofs.Common.{Ok, refl, ap, subst, ◌∙◌, arith}
use Rattle.std.specs.Prelude.{slice_get}
use Rattle.std.proofs.lemmas.Bool.{false≢true}
use Rattle.std.proofs.lemmas.Option.{same_Some, slice_get_within}
use Rattle.c_tree.specs.declared.syntax.Tree.{Tree}
use Rattle.c_tree.specs.Syntax.{Syn, node}
use Rattle.c_tree.specs.Types.{Ty, Tys, no_types, also, count}
use Rattle.c_tree.specs.Terms.{Shape, Var, Term, Terms, term, no_terms, with_term, Form, Init, Block, For}
use Rattle.c_tree.specs.Terms.{Switch, Action, Actions, action, no_actions, with_action, numbers_from}
use Rattle.c_tree.specs.Scopes.{Aiming, Body}
use Rattle.c_tree.specs.Scopes.{LocalState, State}
use Rattle.c_tree.specs.Programs.{beginning, all_externals, readings, parts}
use Rattle.c_tree.specs.Typing.{Reads}
use Rattle.c_tree.specs.WellTyped.{Inside, inside_of, outside, count_of}
use Rattle.c_copy.specs.Standing.{Stands, StandAll, ActionStands, ActionsStand}
use Rattle.c_passing.specs.Passes.{VarWithin, FormWithin}
use Rattle.typing_laws.specs.Fitting.{IsFit, AreFit}
use Rattle.typing_laws.proofs.Accepted.{fit_of_reads}
use Rattle.typing_laws.proofs.Acts.{FormOk, ActionOk, ActionsOk}
use Rattle.typing_laws.proofs.Ended.{outside_beginning}
use Rattle.typing_laws.proofs.Facts.{ShapeOk, TermOk, TermsOk}
use Rattle.typing_laws.proofs.Functions.{Outside}
use Rattle.typing_laws.proofs.Placed.{AimingOk, AllAim}
use Rattle.typing_laws.proofs.Readable.{all_good, externals_ok}
use Rattle.typing_laws.proofs.Wholes.{ParamsFit, BodyOk, with_locals}
use Rattle.c_finish.specs.Finished.{BodyFits, IsTyped}
use Rattle.c_elab.proofs.Near.{aims_near}

-- ---- the end

outside_end : (x : Syn) (y : Unit {0} × State) → IsFit x → all_externals (readings (parts x)) beginning ≡ Ok y →
    Outside y.1
unfolding IsFit AreFit
outside_end (node k t xs) y f e = externals_ok xs (readings xs) beginning (all_good xs f.1) outside_beginning y e

aim_at : (s : State) (n j : ℕ) (ls : List Aiming) (a : Aiming) → AllAim s n ls → slice_get ls j ≡ Some a →
    AimingOk s n a
aim_at s n j [] a h e = absurd cc
aim_at s n zero (b ∷ ls) a h e = subst (AimingOk s n) (same_Some b a e) h.0
aim_at s n (suc j) (b ∷ ls) a h e = aim_at s n j ls a h.1 e

params_few : (ts : Tys) (vs : List LocalState) → ParamsFit ts vs → count ts ≤ length vs
params_few no_types vs h = omega arith
params_few (also t ts) [] h = absurd h
params_few (also t ts) (v ∷ vs) h = let l : count ts ≤ length vs = params_few ts vs h.1 in omega arith

numbers_length : (a n : ℕ) → length (numbers_from a n) ≡ n
numbers_length a zero = refl
numbers_length a (suc n) = ap suc (numbers_length (a + 1) n)

-- an expression that fits names variables that are there
shape_varied : (s : State) (n : Shape) (xs : Terms) (t : Ty) → ShapeOk true s n xs t → VarWithin (length s.locals) n
shape_varied s (Var k) no_terms t h = slice_get_within s.locals k h.0 h.1
shape_varied s (Var k) (with_term x xs) t h = absurd h
shape_varied s _ xs t h = tt

form_varied : (s : State) (t : Ty) (i : Inside) (f : Form) (xs : Terms) (n : ℕ) → FormOk s t i f xs n →
    FormWithin (length s.locals) f
form_varied s t i (Init k o) (with_term a no_terms) zero h = slice_get_within s.locals k h.0 h.3
form_varied s t i (Init k o) no_terms n h = absurd h
form_varied s t i (Init k o) (with_term a no_terms) (suc n) h = absurd h
form_varied s t i (Init k o) (with_term a (with_term b xs)) n h = absurd h
form_varied s t i (Block vars) no_terms n h = h
form_varied s t i (Block vars) (with_term a xs) n h = absurd h
form_varied s t i (For vars k a b) xs n h = h.0
form_varied s t i (Switch vars labels) (with_term a no_terms) n h = h.0
form_varied s t i (Switch vars labels) no_terms n h = absurd h
form_varied s t i (Switch vars labels) (with_term a (with_term b xs)) n h = absurd h
form_varied s t i _ xs n h = tt

-- no part of it is missing
mutual
  term_stands : (P : Shape → Type 0) (s : State) →
      ((n : Shape) (xs : Terms) (t : Ty) → ShapeOk true s n xs t → P n) → (x : Term) → TermOk true s x → Stands P x
  term_stands P s is (term n xs t p) h =
      (is n xs t h.1, terms_stand P s is xs h.0, λ e. let w = subst (TermOk true s) e h in false≢true w.1.1)

  terms_stand : (P : Shape → Type 0) (s : State) →
      ((n : Shape) (xs : Terms) (t : Ty) → ShapeOk true s n xs t → P n) → (xs : Terms) → TermsOk true s xs →
      StandAll P xs
  terms_stand P s is no_terms h = tt
  terms_stand P s is (with_term x xs) h = (term_stands P s is x h.0, terms_stand P s is xs h.1)

mutual
  action_stands : (P : Shape → Type 0) (Q : Form → Type 0) (s : State) (t : Ty) →
      ((n : Shape) (xs : Terms) (u : Ty) → ShapeOk true s n xs u → P n) →
      ((i : Inside) (f : Form) (xs : Terms) (n : ℕ) → FormOk s t i f xs n → Q f) → (i : Inside) (x : Action) →
      ActionOk s t i x → ActionStands P Q x
  action_stands P Q s t is form i (action f xs ys p) h = (
    form i f xs (count_of ys) h.1,
    terms_stand P s is xs h.0,
    actions_stand P Q s t is form (inside_of f i) ys h.2,
  )

  actions_stand : (P : Shape → Type 0) (Q : Form → Type 0) (s : State) (t : Ty) →
      ((n : Shape) (xs : Terms) (u : Ty) → ShapeOk true s n xs u → P n) →
      ((i : Inside) (f : Form) (xs : Terms) (n : ℕ) → FormOk s t i f xs n → Q f) → (i : Inside) (xs : Actions) →
      ActionsOk s t i xs → ActionsStand P Q xs
  actions_stand P Q s t is form i no_actions h = tt
  actions_stand P Q s t is form i (with_action x xs) h =
      (action_stands P Q s t is form i x h.0, actions_stand P Q s t is form i xs h.1)

body_fits : (s : State) (t : Ty) (b : Body) → BodyOk s t b → BodyFits b
body_fits s t b h =
    let few : count h.takes ≤ length b.vars = params_few h.takes b.vars h.fit in
    let own : State = with_locals s b.vars in
    let same : length b.params ≡ count h.takes = ap length h.params ∙ numbers_length 0 (count h.takes) in
    record {
      vars = h.block.0;
      parts = h.block.1;
      place = h.block.2;
      is = h.block.3;
      params = omega arith;
      variables = action_stands (VarWithin (length b.vars)) (FormWithin (length b.vars)) own h.gives (shape_varied own)
          (form_varied own h.gives) outside b.action h.body;
    }

typed_outside : (s : State) → Outside s → IsTyped s
typed_outside s o = record {
  near = λ n k j g i a e f q. let b = o.strict.begins k g i e f in
      let h = aim_at s b.0.size j i.1 a b.2.links q in aims_near s n a.aim a.reach a.offset h.aims;
  bodies = λ k f b e i. body_fits s f.of b (o.strict.bodies k f b e i);
}

-- each state that typing gives at the end of a file
pub typed_end : (tree : Tree) (bytes : List ℕ) (x : Syn) (a : Unit {0}) (s : State) → Reads tree bytes x →
    all_externals (readings (parts x)) beginning ≡ Ok (a, s) → IsTyped s
typed_end tree bytes x a s r e = typed_outside s (outside_end x (a, s) (fit_of_reads tree bytes x r) e)
