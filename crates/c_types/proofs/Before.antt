-- The definition of a function is what its declaration does, and then its parameters and its body.
use Rattle.std.proofs.Common.{◌≡◌, ℕ, zero, suc, Bool, true, false, refl, sym, ap, ◌∙◌, List, [], ◌∷◌, length, map}
use Rattle.std.proofs.Common.{Option, Some, Result, Ok, Err}
use Rattle.std.specs.Prelude.{not, ◌||◌, slice_get}
use Rattle.ck_base.specs.Tokens.{Lexeme}
use Rattle.c_tree.specs.Syntax.{Syn, first_token}
use Rattle.c_tree.specs.Scopes.{State, RoutineState, Body, Fault, Doing, need, look, change, leave, continued}
use Rattle.c_tree.specs.Scopes.{◌>>=◌, ◌>>◌, find_in, innermost, changed_at, change_routine}
use Rattle.c_tree.specs.Readings.{Specified, Derived, Prototype, Reading}
use Rattle.c_tree.specs.Types.{is_function}
use Rattle.c_tree.specs.Expressions.{routine_type}
use Rattle.c_tree.specs.Declarators.{Formed, formed, judge}
use Rattle.c_tree.specs.Declarations.{definition_agrees, linked_routine}
use Rattle.c_tree.specs.Statements.{block_action}
use Rattle.c_tree.specs.Programs.{define_named, define_body, own_prototype, is_there, is_typedef, params_of, scope_of}
use Rattle.c_tree.specs.Programs.{parameter_local, body_context, gives_complete, first_incomplete, refused_at}
use Rattle.c_tree.specs.Terms.{numbers_from}
use Rattle.c_types.specs.Declares.{declares_definition}
use Rattle.c_types.specs.Naming.{begins}
use Rattle.c_types.proofs.Changing.{changed_cons}

-- 6.9.1p2: the declarator itself is that of a function; p3: what it gives is complete
abbrev pub of_own : Formed → Bool → Option Prototype → Formed
of_own f complete p = record f { lacks = f.lacks || not complete; misfits = f.misfits || not (is_there p) }

-- the parameters and the body of a function whose definition was begun
abbrev pub defines_body : ℕ → Option Prototype → Syn → Reading → Doing Unit
defines_body k p block r = look >>= λ now.
    change (λ s. record s { locals = map parameter_local (params_of p); scopes = scope_of p ∷ s.scopes }) >>
    look >>= λ s. refused_at 132 (first_incomplete s.tags (params_of p)) >>
    r.body (body_context (routine_type (slice_get now.routines k))) >>= λ i. look >>= λ s.
    let body : Body = record {
      params = numbers_from 0 (length (params_of p));
      vars = s.locals;
      action = block_action i (first_token block).pos;
    } in
    leave >> change (λ s. change_routine k (λ f. record f { body = Some body }) (record s { locals = [] }))

either_way : (a b d c : Bool) → (a || (b || (d || c))) ≡ ((a || c) || (b || d))
either_way true b d c = refl
either_way false true d true = refl
either_way false true d false = refl
either_way false false true true = refl
either_way false false true false = refl
either_way false false false true = refl
either_way false false false false = refl

or_false : (a : Bool) → (a || false) ≡ a
or_false true = refl
or_false false = refl

type_stays : (f : RoutineState → RoutineState) (xs : List RoutineState) (k : ℕ) →
    ((y : RoutineState) → (f y).of ≡ y.of) →
    routine_type (slice_get (changed_at f xs k) k) ≡ routine_type (slice_get xs k)
type_stays f [] k h = refl
type_stays f (x ∷ xs) zero h = h x
type_stays f (x ∷ xs) (suc k) h =
    ap (λ ys. routine_type (slice_get ys (suc k))) (changed_cons f x xs k) ∙ type_stays f xs k h

pub body_is : (k : ℕ) (t : Lexeme) (p : Option Prototype) (block : Syn) (r : Reading) (u : State) →
    define_body k t (routine_type (slice_get u.routines k)) p block r u
    ≡ (begins t k >>= λ j. defines_body j p block r) u
body_is k t p block r u =
    let e : routine_type (slice_get u.routines k)
    ≡ routine_type (slice_get (changed_at (λ (f : RoutineState). record f { name = t; begun = true }) u.routines
    k) k) = sym (type_stays (λ (f : RoutineState). record f { name = t; begun = true }) u.routines k
    (λ y. refl)) in
    ap (λ of. define_body k t of p block r u) e

after_linked : (t : Lexeme) (p : Option Prototype) (block : Syn) (r : Reading) (x : Result (ℕ × State) Fault) →
    continued x (λ k. look >>= λ now. define_body k t (routine_type (slice_get now.routines k)) p block r)
    ≡ continued (continued x (begins t)) (λ j. defines_body j p block r)
after_linked t p block r (Ok y) = body_is y.0 t p block r y.1
after_linked t p block r (Err e) = refl

pub definition_is : (s : Specified) (d : Derived) (t : Lexeme) (block : Syn) (r : Reading) (st : State) →
    define_named s d (Some t) block r st
    ≡ (declares_definition s.storage t (of_own (formed st s.of d.wraps) (gives_complete st (formed st s.of d.wraps).of)
    (own_prototype d.wraps)) >>= λ k. defines_body k (own_prototype d.wraps) block r) st
definition_is s d t block r st =
    let f = formed st s.of d.wraps in
    let p = own_prototype d.wraps in
    let e = find_in (innermost st.scopes).names t.text in
    let b = definition_agrees st e t.text f.of in
    let n = not (is_function f.of) in
    let l = f.lacks || not (gives_complete st f.of) in
    let same : (f.misfits || (is_typedef s.storage || (n || not (is_there p))))
    ≡ ((f.misfits || not (is_there p)) || (is_typedef s.storage || n)) =
    either_way f.misfits (is_typedef s.storage) n (not (is_there p)) in
    after_linked t p block r ((need b 131 t.pos
    >> judge f (not (gives_complete st f.of)) (is_typedef s.storage || (n || not (is_there p))) t.pos
    >> linked_routine t f.of e) st)
    ∙ ap (λ (m : Bool). continued (continued ((need b 131 t.pos
    >> (need (not l) 132 t.pos >> need (not m) 133 t.pos >> need (not f.too_large) 140 t.pos)
    >> linked_routine t f.of e) st) (begins t)) (λ j. defines_body j p block r)) same
    ∙ ap (λ (m : Bool). continued (continued ((need b 131 t.pos
    >> (need (not m) 132 t.pos
    >> need (not ((f.misfits || not (is_there p)) || (is_typedef s.storage || n))) 133 t.pos
    >> need (not f.too_large) 140 t.pos) >> linked_routine t f.of e) st) (begins t))
    (λ j. defines_body j p block r)) (sym (or_false l))
