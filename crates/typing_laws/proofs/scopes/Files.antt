-- The bodies of a file's functions name what is in scope (C11 6.9).
use Rattle.std.proofs.Common.{◌≡◌, ℕ, Bool, true, false, List, [], ◌∷◌, ◌++◌, length, Option, Some, None, Result, Ok}
use Rattle.std.proofs.Common.{Err, refl, sym, ap, subst, ◌∙◌, ⊎_elim}
use Rattle.std.specs.Prelude.{slice_get, map, not, ◌||◌, if◌then◌else◌}
use Rattle.std.proofs.lemmas.Option.{none-some, same_Some}
use Rattle.ck_base.specs.declared.positions.Pos.{Pos}
use Rattle.ck_base.specs.Tokens.{Lexeme}
use Rattle.c_tree.specs.declared.syntax.NodeKind.{NodeKind}
use Rattle.c_tree.specs.declared.syntax.NodeKind.TheVariants as Kinds
use Rattle.c_tree.specs.Syntax.{Syn, Syns, node, nil, more, first_token}
use Rattle.c_tree.specs.Types.{Ty, is_function}
use Rattle.c_tree.specs.Terms.{Program, numbers_from}
use Rattle.c_tree.specs.Scopes.{Entity, Local, Static, Routine, Alias, Enumerator, Library, RoutineState, Body, State}
use Rattle.c_tree.specs.Programs.{fault, file_begins}
use Rattle.c_tree.specs.Scopes.{LocalState, Fault, Doing, give, look, change, leave, ◌>>=◌, ◌>>◌, continued, find_in}
use Rattle.c_tree.specs.Scopes.{innermost}
use Rattle.c_tree.specs.Scopes.{changed_at, change_routine, outer_scopes}
use Rattle.c_tree.specs.Readings.{Specified, Prototype, Wrap, Point, Row, Gives, Derived, Context, Items, Reading}
use Rattle.c_tree.specs.Expressions.{routine_type}
use Rattle.c_tree.specs.Declarators.{formed}
use Rattle.c_tree.specs.Declarations.{declaration, definition_agrees}
use Rattle.c_tree.specs.Statements.{block_action}
use Rattle.c_tree.specs.Passed.{Names, passed_program, call_name, calls_in}
use Rattle.c_tree.specs.Programs.{own_prototype, is_typedef, is_there, parameter_local, params_of, scope_of}
use Rattle.c_tree.specs.Programs.{body_context}
use Rattle.c_tree.specs.Programs.{gives_complete, first_incomplete, refused_at, define_body, define_named}
use Rattle.c_tree.specs.Programs.{function_definition, external_of, reading, readings, beginning, last_faults, earliest}
use Rattle.c_tree.specs.Programs.{program_of, has_main, ended, all_externals, finished, typing}
use Rattle.typing_laws.specs.Fitting.{IsFit, AreFit}
use Rattle.typing_laws.proofs.Facts.{AllNames, EntityOk}
use Rattle.typing_laws.proofs.Growing.{scopes_more}
use Rattle.typing_laws.proofs.Growing as growing
use Rattle.typing_laws.proofs.Steps.{given, first_then, changed_from}
use Rattle.typing_laws.proofs.Functions.{Outside}
use Rattle.typing_laws.proofs.Readable.{good}
use Rattle.typing_laws.proofs.Ended.{outside_beginning}
use Rattle.typing_laws.specs.Scoping.{ActionScoped}
use Rattle.typing_laws.proofs.scopes.Stepping.{More, among_either, EntityOpen, entity_more, NamesOpen, names_more}
use Rattle.typing_laws.proofs.scopes.Stepping.{BodiesScoped}
use Rattle.typing_laws.proofs.scopes.Stepping.{At}
use Rattle.typing_laws.proofs.scopes.Stepping.{moved, Runs, Keeps, Any, going, run_give, run_refuse, run_then, run_next}
use Rattle.typing_laws.proofs.scopes.Stepping.{give_keeps}
use Rattle.typing_laws.proofs.scopes.Stepping.{refuse_goes, goes_then, bodies_changed, at_outer}
use Rattle.typing_laws.proofs.scopes.Readings.{WrapsOpen, with_vars, ItemsScoped, Itemed}
use Rattle.typing_laws.proofs.scopes.Declared.{checked, linked_routine_keeps, declaration_goes}
use Rattle.typing_laws.proofs.scopes.Stated.{AllStated, all_read, all_stated}

-- ---- bodies

bodies_set : (b : Body) → ActionScoped b.params b.action → (fs : List RoutineState) (k : ℕ) → BodiesScoped fs →
    BodiesScoped (changed_at (λ (f : RoutineState). record f { body = Some b }) fs k)
bodies_set b h fs k o j y c e q =
    let x = changed_from (λ (f : RoutineState). record f { body = Some b }) fs k j y e in
    ⊎_elim (λ i. o j x.0 c x.1 (ap (λ (r : RoutineState). r.body) (sym i) ∙ q))
    (λ i. subst (λ (d : Body). ActionScoped d.params d.action)
    (same_Some b c (ap (λ (r : RoutineState). r.body) (sym i.1) ∙ q)) h) x.2

refused_keeps : (js : List ℕ) (code : ℕ) (o : Option Pos) → Keeps js Any (refused_at code o)
refused_keeps js code None = give_keeps tt
refused_keeps js code (Some p) = refuse_goes

-- the parameters' names denote parameters
abbrev parameters : Option Prototype → List ℕ
parameters p = numbers_from 0 (length (params_of p))

abbrev ScopeOpen : Option Prototype → Type 0
ScopeOpen p = AllNames (EntityOpen (parameters p)) (scope_of p).names

abbrev HasItems : Reading → Type 0
HasItems r = (js : List ℕ) (c : Context) → Itemed js (r.body c)

abbrev started : ℕ → Lexeme → Option Prototype → State → State
started k t p s =
    change_routine k (λ f. record f { name = t; begun = true })
    (record s { locals = map parameter_local (params_of p); scopes = scope_of p ∷ s.scopes })

abbrev body_of : Option Prototype → Syn → Items → State → Body
body_of p block i s = record {
  params = parameters p;
  vars = s.locals;
  action = block_action i (first_token block).pos;
}

abbrev stored : ℕ → Option Prototype → Syn → Items → Doing Unit
stored k p block i = look >>= λ s.
    let body : Body = body_of p block i s in
    leave >> change (λ s. change_routine k (λ f. record f { body = Some body }) (record s { locals = [] }))

module _ (k : ℕ) (t : Lexeme) (p : Option Prototype) (block : Syn) where
  at_started : (b q : State) → At [] b q → ScopeOpen p → At (parameters p) (started k t p q) (started k t p q)
  at_started b q at h = record {
    opened = record {
      names = (h, names_more [] (parameters p) (λ k i. absurd i) q.scopes at.opened.names);
      bodies = bodies_changed _ (λ r. refl) q.routines k at.opened.bodies;
    };
    outer = refl;
    deep = refl;
  }

  stored_runs : (b q a : State) (r : Result (Items × State) Fault) → At [] b q → outer_scopes a.scopes ≡ q.scopes →
      Runs (with_vars (parameters p)) (ItemsScoped (parameters p)) a r →
      Runs (λ _. []) Any b (continued r (stored k p block))
  stored_runs b q a (Ok y) at e h =
      let z = h.state y refl in
      let c = body_of p block y.0 y.1 in
      run_give (moved (at_outer y.1 at (z.outer ∙ e) z.opened.bodies) refl
      (bodies_set c (tt, tt, h.post y refl) y.1.routines k)) tt
  stored_runs b q a (Err f) at e h = run_refuse

  define_body_keeps : (of : Ty) (r : Reading) → ScopeOpen p → HasItems r → Keeps [] Any (define_body k t of p block r)
  define_body_keeps of r h g =
      going λ b q at. let a = started k t p q in
      stored_runs b q a _ at refl
      (run_next ((refused_keeps (parameters p) 132 (first_incomplete a.tags (params_of p))).run a a
      (at_started b q at h)) λ q at. (g (parameters p) (body_context of)).run a q at)

-- ---- definitions

no_rest : (js : List ℕ) → More (js ++ []) js
no_rest js k h = ⊎_elim (λ a. a) (λ b. absurd b) (among_either js [] k h)

own_open : (ws : List Wrap) → WrapsOpen [] ws → ScopeOpen (own_prototype ws)
own_open [] h = tt
own_open (Gives p ∷ []) h =
    let js = numbers_from 0 (length p.params) in
    growing.names_more (EntityOpen (js ++ [])) (EntityOpen js)
    (entity_more (js ++ []) js (no_rest js)) p.scope.names h.0
own_open (Point b ∷ []) h = tt
own_open (Row n ∷ []) h = tt
own_open (Gives p ∷ v ∷ ws) h = own_open (v ∷ ws) h.1
own_open (Point b ∷ v ∷ ws) h = own_open (v ∷ ws) h
own_open (Row n ∷ v ∷ ws) h = own_open (v ∷ ws) h

define_named_keeps : (s : Specified) (d : Derived) (name : Option Lexeme) (block : Syn) (r : Reading) →
    WrapsOpen [] d.wraps → HasItems r → Keeps [] Any (define_named s d name block r)
define_named_keeps s d None block r h g = refuse_goes
define_named_keeps s d (Some t) block r h g =
    going λ b st at.
    let f = formed st s.of d.wraps in
    let e = find_in (innermost st.scopes).names t.text in
    let p = own_prototype d.wraps in
    run_then (checked (definition_agrees st e t.text f.of) t.pos f (not (gives_complete st f.of))
    (is_typedef s.storage || (not (is_function f.of) || not (is_there p))) _ (linked_routine_keeps [] t f.of e) at)
    λ k now at i.
    (define_body_keeps k t p block (routine_type (slice_get now.routines k)) r (own_open d.wraps h) g).run b now at

definition_keeps : (t : Lexeme) (xs : Syns) (rs : List Reading) → AllStated xs rs →
    Keeps [] Any (function_definition t xs rs)
unfolding function_definition
definition_keeps t (more x (more y (more z nil))) (r ∷ q ∷ p ∷ []) h =
    goes_then (h.0.reads.specified [] false) λ s i. goes_then (h.1.0.reads.derived []) λ d j.
    define_named_keeps s d d.name z p j h.1.1.0.body
definition_keeps t xs rs h = refuse_goes

external_bodies : (k : NodeKind) (t : Lexeme) (xs : Syns) (rs : List Reading) (s : State) (x : Unit {0} × State) →
    AllStated xs rs → At [] s s → external_of k t xs rs s ≡ Ok x → BodiesScoped x.1.routines
external_bodies Kinds.FunctionDefinition t xs rs s x h at e =
    (((definition_keeps t xs rs h).run s s at).state x e).opened.bodies
external_bodies Kinds.Declaration t xs rs s x h at e =
    let y = first_then (declaration t.pos rs s) (λ i. give tt) x e in
    given (λ (z : Unit {0} × State). BodiesScoped z.1.routines) tt y.0.1 x y.2
    (((declaration_goes [] t.pos rs (all_read xs rs h)).run s s at).state y.0 y.1).opened.bodies
external_bodies k t xs rs s x h at e =
    given (λ (z : Unit {0} × State). BodiesScoped z.1.routines) tt s x e at.opened.bodies

-- ---- the file

-- no name of the file denotes a variable
file_names : (s : State) → Outside s → NamesOpen [] s.scopes
file_names s o = scopes_more (EntityOk true s) (EntityOpen []) no_variable s.scopes o.inv.names
  where
    no_variable : (e : Entity) → EntityOk true s e → EntityOpen [] e
    no_variable (Local k t) h =
        none-some h.1.0 (ap (λ (vs : List LocalState). slice_get vs k) (sym o.locals)
        ∙ h.1.1)
    no_variable (Static k) h = tt
    no_variable (Routine k) h = tt
    no_variable (Alias t) h = tt
    no_variable (Enumerator z) h = tt
    no_variable (Library k t) h = tt

pub record Bodied (s : State) : Type 0 where
  pub outside : Outside s
  pub bodies : BodiesScoped s.routines

externals_bodies : (xs : Syns) → AreFit xs → (s : State) → Bodied s → (y : Unit {0} × State) →
    all_externals (readings xs) s ≡ Ok y → Bodied y.1
unfolding IsFit AreFit reading readings
externals_bodies nil f s o y e = given (λ (z : Unit {0} × State). Bodied z.1) tt s y e o
externals_bodies (more (node k t ys) xs) f s o y e =
    let z = first_then ((reading (node k t ys)).external s) (λ _. all_externals (readings xs)) y e in
    let at : At [] s s = record {
      opened = record { names = file_names s o.outside; bodies = o.bodies };
      outer = refl;
      deep = refl;
    } in
    externals_bodies xs f.1 z.0.1 (record {
      outside = (good (node k t ys) f.0).external s o.outside z.0 z.1;
      bodies = external_bodies k t ys (readings ys) s z.0 (all_stated ys f.0.1) at z.1;
    }) y z.2

program_or : Program → Result Program Fault → Program
program_or d (Ok r) = r
program_or d (Err f) = d

ended_at : (names : Names) (o : Option Fault) (s : State) (q : Program) → ended names o s ≡ Ok q →
    passed_program names (program_of s) ≡ q
unfolding program_or
ended_at names (Some f) s q e = absurd cc
ended_at names None s q e = by (has_main s.routines) e
  where
    by : (b : Bool) → (if b then Ok (passed_program names (program_of s))
        else Err (fault 135 file_begins)) ≡ Ok q →
        passed_program names (program_of s) ≡ q
    by true e = ap (program_or q) e
    by false e = absurd cc

finished_at : (names : Names) (r : Result (Unit {0} × State) Fault) (q : Program) → finished names r ≡ Ok q →
    (y : Unit {0} × State) × (r ≡ Ok y) × (passed_program names (program_of y.1) ≡ q)
finished_at names (Ok y) q e = (y, refl, ended_at names (earliest (last_faults y.1)) y.1 q e)
finished_at names (Err f) q e = absurd cc

-- what a file's program is made of
pub typed_bodies : (x : Syn) (q : Program) → IsFit x → typing x ≡ Ok q →
    (names : Names) × (s : State) × Bodied s × (passed_program names (program_of s) ≡ q)
unfolding typing IsFit
typed_bodies (node k t xs) q f e =
    let names = call_name (calls_in (node k t xs)) in
    let y = finished_at names (all_externals (readings xs) beginning) q e in (
      names,
      y.0.1,
      externals_bodies xs f.1 beginning
          (record { outside = outside_beginning; bodies = λ k f b e. absurd (none-some f e) }) y.0 y.1,
      y.2,
    )
