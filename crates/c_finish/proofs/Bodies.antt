-- The functions of the program as it is written have bodies that can be passed.
use Rattle.std.proofs.Common.{◌≡◌, ℕ, zero, suc, ◌<◌, ◌≤◌, List, [], ◌∷◌, ◌++◌, length, map, Option, Some, None, refl}
use Rattle.std.proofs.Common.{sym, ap, subst, ◌∙◌, arith}
use Rattle.std.specs.Prelude.{slice_get, option_map, flat_map}
use Rattle.std.proofs.lemmas.Option.{same_Some, slice_get-map}
use Rattle.std.proofs.lemmas.List.{length-map}
use Rattle.ck_base.specs.declared.positions.Pos.{Pos}
use Rattle.c_tree.specs.declared.typed.FunDef.{FunDef}
use Rattle.c_tree.specs.declared.typed.StmtKind.{StmtKind}
use Rattle.c_tree.specs.declared.typed.StmtKind.TheVariants as stmts
use Rattle.c_tree.specs.declared.typed.Typed.{Typed}
use Rattle.c_tree.specs.Types.{Ty}
use Rattle.c_tree.specs.Terms as tree
use Rattle.c_tree.specs.Terms.{Shape, Term, term, Terms, no_terms, with_term, Block, Action, action, Actions}
use Rattle.c_tree.specs.Terms.{no_actions, with_action, Routine}
use Rattle.c_tree.specs.Scopes.{Body, RoutineState, State}
use Rattle.c_tree.specs.Views.{types_of, terms_of, no_term, kind_action, stmt_from, no_action, actions_of, action_at}
use Rattle.c_tree.specs.Views.{routine_of}
use Rattle.c_tree.specs.Views as views
use Rattle.c_tree.specs.Programs.{numbers_of, shape_with, term_with, terms_with, action_with, actions_with}
use Rattle.c_tree.specs.Programs.{with_body, program_of}
use Rattle.c_tree.specs.Programs as programs
use Rattle.c_tree.proofs.Forest.{forest_reads}
use Rattle.c_elaborator.specs.declared.work.Work.{Work}
use Rattle.c_copy.specs.Standing.{Stands, StandAll, ActionStands, ActionsStand}
use Rattle.c_passing.specs.Passes.{VarWithin, FormWithin}
use Rattle.c_passing.specs.Routines.{IsBlock, HaveBodies}
use Rattle.c_finish.specs.Finished.{BodyFits, IsShown, IsWritten}

each_append : {A : Type 0} (P : A → Type 0) (xs ys : List A) → ((k : ℕ) (x : A) → slice_get xs k ≡ Some x → P x) →
    ((k : ℕ) (y : A) → slice_get ys k ≡ Some y → P y) → (k : ℕ) (y : A) → slice_get (xs ++ ys) k ≡ Some y → P y
each_append P [] ys g h k y e = h k y e
each_append P (x ∷ xs) ys g h zero y e = g 0 y e
each_append P (x ∷ xs) ys g h (suc k) y e = each_append P xs ys (λ j z. g (suc j) z) h k y e

each_flat : {A B : Type 0} (P : B → Type 0) (f : A → List B) (xs : List A) →
    ((k : ℕ) (x : A) → slice_get xs k ≡ Some x → (j : ℕ) (y : B) → slice_get (f x) j ≡ Some y → P y) → (k : ℕ) (y : B) →
    slice_get (flat_map f xs) k ≡ Some y → P y
each_flat P f [] g k y e = absurd cc
each_flat P f (x ∷ xs) g k y e =
    each_append P (f x) (flat_map f xs) (g 0 x refl) (each_flat P f xs (λ j z. g (suc j) z)) k y e

-- ---- new numbers of objects and functions do not change which variables are named

no_term_kept : (n : programs.Numbers) (x : Shape) (xs : Terms) (t : Ty) (p : Pos) →
    term (shape_with n x) (terms_with n xs) t p ≡ no_term → term x xs t p ≡ no_term
no_term_kept n (tree.Global k) xs t p e = absurd cc
no_term_kept n (tree.Fun k) xs t p e = absurd cc
no_term_kept n x no_terms t p e = e
no_term_kept n x (with_term y ys) t p e = absurd cc

var_kept : (n : programs.Numbers) (m : ℕ) (x : Shape) → VarWithin m x → VarWithin m (shape_with n x)
var_kept n m (tree.Global k) h = tt
var_kept n m (tree.Fun k) h = tt
var_kept n m _ h = h

mutual
  term_kept : (n : programs.Numbers) (m : ℕ) (x : Term) → Stands (VarWithin m) x → Stands (VarWithin m) (term_with n x)
  term_kept n m (term x xs t p) h =
      (var_kept n m x h.0, terms_kept n m xs h.1, λ e. h.2 (no_term_kept n x xs t p e))

  terms_kept : (n : programs.Numbers) (m : ℕ) (xs : Terms) → StandAll (VarWithin m) xs →
      StandAll (VarWithin m) (terms_with n xs)
  terms_kept n m no_terms h = tt
  terms_kept n m (with_term x xs) h = (term_kept n m x h.0, terms_kept n m xs h.1)

mutual
  action_kept : (n : programs.Numbers) (m : ℕ) (x : Action) → ActionStands (VarWithin m) (FormWithin m) x →
      ActionStands (VarWithin m) (FormWithin m) (action_with n x)
  action_kept n m (action f xs ys p) h = (h.0, terms_kept n m xs h.1, actions_kept n m ys h.2)

  actions_kept : (n : programs.Numbers) (m : ℕ) (xs : Actions) → ActionsStand (VarWithin m) (FormWithin m) xs →
      ActionsStand (VarWithin m) (FormWithin m) (actions_with n xs)
  actions_kept n m no_actions h = tt
  actions_kept n m (with_action x xs) h = (action_kept n m x h.0, actions_kept n m xs h.1)

-- ---- bodies

-- the parameters are among the variables, the body is a block, and its variables are there
record Blocked (r : Routine) : Type 0 where
  params : length r.params ≤ length r.vars
  vars : List ℕ
  terms : Terms
  parts : Actions
  place : Pos
  is : r.body ≡ action (Block vars) terms parts place
  within : ActionStands (VarWithin (length r.vars)) (FormWithin (length r.vars)) r.body

with_blocked : (s : State) (f : RoutineState) (o : Option Body) → ((b : Body) → o ≡ Some b → BodyFits b) →
    (j : ℕ) (r : Routine) → slice_get (with_body s f o) j ≡ Some r → Blocked r
with_blocked s f None h j r e = absurd cc
with_blocked s f (Some b) h (suc j) r e = absurd cc
with_blocked s f (Some b) h zero r e =
    let q : Routine = record {
      name = f.name.span;
      place = f.name.pos;
      of = f.of;
      params = b.params;
      vars = map programs.variable_of b.vars;
      body = action_with (numbers_of s) b.action;
    } in
    let y = h b refl in
    let few : length b.params ≤ length b.vars = y.params in
    subst Blocked (same_Some q r e) (record {
      params = omega (arith, length-map b.vars programs.variable_of);
      vars = y.vars;
      terms = no_terms;
      parts = actions_with (numbers_of s) y.parts;
      place = y.place;
      is = ap (action_with (numbers_of s)) y.is;
      within = subst (λ m. ActionStands (VarWithin m) (FormWithin m) (action_with (numbers_of s) b.action))
          (sym (length-map b.vars programs.variable_of))
          (action_kept (numbers_of s) (length b.vars) b.action y.variables);
    })

block_kind : (es : List Term) (k : StmtKind) (q p : Pos) (go : ℕ → Action) (vs : List ℕ) (xs : Terms) (ys : Actions) →
    kind_action es k q go ≡ action (Block vs) xs ys p → IsBlock k
block_kind es (stmts.Block vars body) q p go vs xs ys e = tt
block_kind es (stmts.Expr a) q p go vs xs ys e = absurd cc
block_kind es (stmts.Init var offset a) q p go vs xs ys e = absurd cc
block_kind es (stmts.If a x y) q p go vs xs ys e = absurd cc
block_kind es (stmts.While a x) q p go vs xs ys e = absurd cc
block_kind es (stmts.Do x a) q p go vs xs ys e = absurd cc
block_kind es (stmts.For vars first a b x) q p go vs xs ys e = absurd cc
block_kind es (stmts.Switch a vars labels body) q p go vs xs ys e = absurd cc
block_kind es stmts.Break q p go vs xs ys e = absurd cc
block_kind es stmts.Continue q p go vs xs ys e = absurd cc
block_kind es (stmts.Return a) q p go vs xs ys e = absurd cc
block_kind es stmts.Empty q p go vs xs ys e = absurd cc

-- the bodies of functions are among the statements
abbrev pub BodiesIn : Typed → Type 0
BodiesIn p = (k : ℕ) (f : FunDef) → slice_get p.funs k ≡ Some f → f.body < length p.stmts

pub bodies_written : (w : Work) (p : Typed) → IsShown w → IsWritten w p → BodiesIn p → HaveBodies p
unfolding program_of
bodies_written w p h written bodies = λ k f e.
    let s = h.state in
    let ts = types_of p.types in
    let shown : map (routine_of ts (actions_of p)) p.funs ≡ flat_map (programs.routine_of s) s.routines =
    (written s h.shows).routines in
    let at : slice_get (flat_map (programs.routine_of s) s.routines) k ≡ Some (routine_of ts (actions_of p) f) =
    ap (λ rs. slice_get rs k) (sym shown) ∙ slice_get-map (routine_of ts (actions_of p)) p.funs k
    ∙ ap (option_map (routine_of ts (actions_of p))) e in
    let b = each_flat Blocked (programs.routine_of s) s.routines
    (λ j r g. with_blocked s r r.body (λ b i. h.typed.bodies j r b g i)) k
    (routine_of ts (actions_of p) f) at in
    let few : length f.params ≤ length (map (views.variable_of ts) f.vars) = b.params in
    record {
      params = omega (arith, length-map f.vars (views.variable_of ts));
      block = λ x g.
          let r = forest_reads (stmt_from (terms_of p)) no_action p.stmts f.body x g in
          block_kind (terms_of p) x.kind x.pos b.place _ b.vars b.terms b.parts (sym r.is ∙ b.is);
      there = bodies k f e;
      stands = record {
        types = ts;
        stands = subst (λ m. ActionStands (VarWithin m) (FormWithin m) (action_at (actions_of p) f.body))
            (length-map f.vars (views.variable_of ts)) b.within;
      };
    }
