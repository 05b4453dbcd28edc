-- The bodies of a file's functions as typing makes them (C11 6.9).
use Rattle.std.proofs.Common.{◌<◌, zero, suc, arith, map, ◌≡◌, ℕ, Bool, true, false, List, [], ◌∷◌, length, Option}
use Rattle.std.proofs.Common.{Some, None, Result, Ok, Err, refl, sym, ap, subst, ◌∙◌, ⊎_elim}
use Rattle.std.specs.Prelude.{slice_get, map, not, ◌||◌, if◌then◌else◌}
use Rattle.std.proofs.lemmas.Option.{none-some, same_Some}
use Rattle.ck_base.specs.Tokens.{Lexeme}
use Rattle.ck_base.specs.declared.positions.Pos.{Pos}
use Rattle.c_tree.specs.Declarations.{declaration, definition_agrees}
use Rattle.c_tree.specs.Declarators.{formed}
use Rattle.c_tree.specs.Expressions.{routine_type}
use Rattle.c_tree.specs.Passed.{Names, passed_program, call_name, calls_in}
use Rattle.c_tree.specs.Programs.{fault, file_begins, own_prototype, is_typedef, is_there, parameter_local, params_of}
use Rattle.c_tree.specs.Programs.{scope_of, body_context, gives_complete, first_incomplete, refused_at, define_body}
use Rattle.c_tree.specs.Programs.{define_named, function_definition, external_of, reading, readings, beginning}
use Rattle.c_tree.specs.Programs.{last_faults, earliest, program_of, has_main, ended, all_externals, finished, typing}
use Rattle.c_tree.specs.Readings.{Param, Wrap, Point, Row, Gives, Specified, Prototype, Derived, Context, Items}
use Rattle.c_tree.specs.Readings.{Reading}
use Rattle.c_tree.specs.Scopes.{LocalState, RoutineState, Body, State, Fault, Doing, give, look, change, leave, ◌>>=◌}
use Rattle.c_tree.specs.Scopes.{◌>>◌, continued, find_in, innermost, changed_at, change_routine}
use Rattle.c_tree.specs.Statements.{block_action}
use Rattle.c_tree.specs.Syntax.{Syn, Syns, node, nil, more, first_token}
use Rattle.c_tree.specs.Terms.{Program, numbers_from}
use Rattle.c_tree.specs.Types.{Ty, is_function}
use Rattle.c_tree.specs.declared.syntax.NodeKind.{NodeKind}
use Rattle.c_tree.specs.declared.syntax.NodeKind.TheVariants as Kinds
use Rattle.typing_laws.specs.Fitting.{IsFit, AreFit}
use Rattle.typing_laws.proofs.PassedVariables.{numbers_length}
use Rattle.typing_laws.proofs.Steps.{ok_is, refused, given, first_then, changed_from}
use Rattle.typing_laws.proofs.Functions.{Outside}
use Rattle.typing_laws.proofs.Readable.{good}
use Rattle.typing_laws.proofs.Ended.{outside_beginning}
use Rattle.typing_laws.proofs.values.Readings.{ParamsMade, WrapsMade, DerivedMade, ItemsMade}
use Rattle.typing_laws.proofs.values.Sorts.{is_stored}
use Rattle.typing_laws.proofs.values.Stepping.{BodyMade, AreAdjusted, LocalsKept, bodies_then, BodiesMade, Runs, Keeps}
use Rattle.typing_laws.proofs.values.Stepping.{Any}
use Rattle.typing_laws.proofs.values.Stepping.{run_next, give_keeps, refuse_goes, bodies_changed}
use Rattle.typing_laws.proofs.values.Declared.{checked, linked_routine_keeps, declaration_goes}
use Rattle.typing_laws.proofs.values.Stated.{AllStated, all_read, all_stated}

-- ---- bodies

bodies_set : (b : Body) → BodyMade b → (fs : List RoutineState) (k : ℕ) → BodiesMade fs →
    BodiesMade (changed_at (λ (f : RoutineState). record f { body = Some b }) fs k)
bodies_set b h fs k o j y c e q =
    let x = changed_from (λ (f : RoutineState). record f { body = Some b }) fs k j y e in
    ⊎_elim (λ i. o j x.0 c x.1 (ap (λ (r : RoutineState). r.body) (sym i) ∙ q))
    (λ i. subst BodyMade (same_Some b c (ap (λ (r : RoutineState). r.body) (sym i.1) ∙ q)) h) x.2

refused_keeps : (code : ℕ) (o : Option Pos) → Keeps Any (refused_at code o)
refused_keeps code None = give_keeps tt
refused_keeps code (Some p) = refuse_goes

abbrev HasItems : Reading → Type 0
HasItems r = (c : Context) → Keeps ItemsMade (r.body c)

abbrev started : ℕ → Lexeme → Option Prototype → State → State
started k t p s =
    change_routine k (λ f. record f { name = t; begun = true })
    (record s { locals = map parameter_local (params_of p); scopes = scope_of p ∷ s.scopes })

abbrev body_of : Option Prototype → Syn → Items → State → Body
body_of p block i s = record {
  params = numbers_from 0 (length (params_of p));
  vars = s.locals;
  action = block_action i (first_token block).pos;
}

abbrev stored : ℕ → Option Prototype → Syn → Items → Doing Unit
stored k p block i = look >>= λ s.
    let body : Body = body_of p block i s in
    leave >> change (λ s. change_routine k (λ f. record f { body = Some body }) (record s { locals = [] }))

module _ (k : ℕ) (t : Lexeme) (p : Option Prototype) (block : Syn) where
  param_at : (ps : List Param) → ParamsMade ps → (j : ℕ) → j < length ps →
      (v : LocalState) × (slice_get (map parameter_local ps) j ≡ Some v) × (is_stored v.of ≡ false)
  param_at [] h j l = absurd (omega (arith, l))
  param_at (q ∷ ps) h zero l = (parameter_local q, refl, h.0)
  param_at (q ∷ ps) h (suc j) l = param_at ps h.1 j (omega (arith, l))

  -- the parameters are the first locals in the end
  body_adjusted : (i : Items) (s : State) → ParamsMade (params_of p) →
      LocalsKept (map parameter_local (params_of p)) s.locals → AreAdjusted (body_of p block i s)
  body_adjusted i s h l j v lt e =
      let a = param_at (params_of p) h j
      (let z = numbers_length 0 (length (params_of p)) in omega (arith, lt, z)) in
      let b = l.at j a.0 a.1 in
      ap (λ (v : LocalState). is_stored v.of) (same_Some v b.0 (sym e ∙ b.1)) ∙ b.2 ∙ a.2

  stored_bodies : ParamsMade (params_of p) → (r : Result (Items × State) Fault) →
      Runs ItemsMade (map parameter_local (params_of p)) r → (x : Unit {0} × State) →
      continued r (stored k p block) ≡ Ok x → BodiesMade x.1.routines
  stored_bodies made (Ok y) h x e =
      subst (λ (z : Unit {0} × State). BodiesMade z.1.routines) (ok_is _ x e)
      (bodies_set (body_of p block y.0 y.1) ((tt, tt, h.post y refl), body_adjusted y.0 y.1 made (h.locals y refl))
      y.1.routines k (h.bodies y refl))
  stored_bodies made (Err f) h x e = refused _ x e

  define_body_bodies : (of : Ty) (r : Reading) → HasItems r → ParamsMade (params_of p) → (q : State) →
      BodiesMade q.routines → (x : Unit {0} × State) → define_body k t of p block r q ≡ Ok x →
      BodiesMade x.1.routines
  define_body_bodies of r g made q at x e =
      let a = started k t p q in
      stored_bodies made _ (run_next ((refused_keeps 132 (first_incomplete a.tags (params_of p))).run a
      (bodies_changed _ (λ r. refl) q.routines k at)) λ q at. (g (body_context of)).run q at) x e

own_made : (ws : List Wrap) → WrapsMade ws → ParamsMade (params_of (own_prototype ws))
own_made [] h = tt
own_made (Gives p ∷ []) h = h.0
own_made (Point c ∷ []) h = tt
own_made (Row n ∷ []) h = tt
own_made (w ∷ v ∷ ws) h = own_made (v ∷ ws) h.1

define_named_bodies : (s : Specified) (d : Derived) (name : Option Lexeme) (block : Syn) (r : Reading) → HasItems r →
    DerivedMade d → (st : State) → BodiesMade st.routines → (x : Unit {0} × State) →
    define_named s d name block r st ≡ Ok x → BodiesMade x.1.routines
define_named_bodies s d None block r g made st at x e = refused _ x e
define_named_bodies s d (Some t) block r g made st at x e =
    let f = formed st s.of d.wraps in
    let i = find_in (innermost st.scopes).names t.text in
    let p = own_prototype d.wraps in
    bodies_then (checked _ (definition_agrees st i t.text f.of) t.pos f (not (gives_complete st f.of))
    (is_typedef s.storage || (not (is_function f.of) || not (is_there p))) _ (linked_routine_keeps t f.of i) at)
    (λ k now at j x e. define_body_bodies k t p block (routine_type (slice_get now.routines k)) r g
    (own_made d.wraps made) now at x e) x e

-- ---- definitions

definition_bodies : (t : Lexeme) (xs : Syns) (rs : List Reading) → AllStated rs → (s : State) →
    BodiesMade s.routines → (x : Unit {0} × State) → function_definition t xs rs s ≡ Ok x → BodiesMade x.1.routines
unfolding function_definition
definition_bodies t (more x (more y (more z nil))) (r ∷ q ∷ p ∷ []) h s at w e =
    bodies_then ((h.0.reads.specified false).run s at) (λ sp s at i w e.
    bodies_then (h.1.0.reads.derived.run s at) (λ d s at j w e.
    define_named_bodies sp d d.name z p h.1.1.0.body j s at w e) w e) w e
definition_bodies t xs rs h s at w e = refused _ w e

external_bodies : (k : NodeKind) (t : Lexeme) (xs : Syns) (rs : List Reading) (s : State) (x : Unit {0} × State) →
    AllStated rs → BodiesMade s.routines → external_of k t xs rs s ≡ Ok x → BodiesMade x.1.routines
external_bodies Kinds.FunctionDefinition t xs rs s x h at e = definition_bodies t xs rs h s at x e
external_bodies Kinds.Declaration t xs rs s x h at e =
    let y = first_then (declaration t.pos rs s) (λ i. give tt) x e in
    given (λ (z : Unit {0} × State). BodiesMade z.1.routines) tt y.0.1 x y.2
    (((declaration_goes t.pos rs (all_read rs h)).run s at).bodies y.0 y.1)
external_bodies k t xs rs s x h at e = given (λ (z : Unit {0} × State). BodiesMade z.1.routines) tt s x e at

-- ---- the file

pub record Bodied (s : State) : Type 0 where
  pub outside : Outside s
  pub bodies : BodiesMade s.routines

externals_bodies : (xs : Syns) → AreFit xs → (s : State) → Bodied s → (y : Unit {0} × State) →
    all_externals (readings xs) s ≡ Ok y → Bodied y.1
unfolding IsFit AreFit reading readings
externals_bodies nil f s o y e = given (λ (z : Unit {0} × State). Bodied z.1) tt s y e o
externals_bodies (more (node k t ys) xs) f s o y e =
    let z = first_then ((reading (node k t ys)).external s) (λ _. all_externals (readings xs)) y e in
    externals_bodies xs f.1 z.0.1 (record {
      outside = (good (node k t ys) f.0).external s o.outside z.0 z.1;
      bodies = external_bodies k t ys (readings ys) s z.0 (all_stated ys) o.bodies z.1;
    }) y z.2

program_or : Program → Result Program Fault → Program
program_or d (Ok r) = r
program_or d (Err f) = d

ended_at : (names : Names) (o : Option Fault) (s : State) (q : Program) → ended names o s ≡ Ok q →
    passed_program names (program_of s) ≡ q
unfolding program_or
ended_at names (Some f) s q e = absurd cc
ended_at names None s q e = by (has_main s.routines) e
  where
    by : (b : Bool) → (if b then Ok (passed_program names (program_of s))
        else Err (fault 135 file_begins)) ≡ Ok q →
        passed_program names (program_of s) ≡ q
    by true e = ap (program_or q) e
    by false e = absurd cc

finished_at : (names : Names) (r : Result (Unit {0} × State) Fault) (q : Program) → finished names r ≡ Ok q →
    (y : Unit {0} × State) × (r ≡ Ok y) × (passed_program names (program_of y.1) ≡ q)
finished_at names (Ok y) q e = (y, refl, ended_at names (earliest (last_faults y.1)) y.1 q e)
finished_at names (Err f) q e = absurd cc

-- what a file's program is made of
pub typed_bodies : (x : Syn) (q : Program) → IsFit x → typing x ≡ Ok q →
    (names : Names) × (s : State) × Bodied s × (passed_program names (program_of s) ≡ q)
unfolding typing IsFit
typed_bodies (node k t xs) q f e =
    let names = call_name (calls_in (node k t xs)) in
    let y = finished_at names (all_externals (readings xs) beginning) q e in (
      names,
      y.0.1,
      externals_bodies xs f.1 beginning
          (record { outside = outside_beginning; bodies = λ k f b e. absurd (none-some f e) }) y.0 y.1,
      y.2,
    )
