-- A function gets its body, and its scope is left.
use Rattle.std.proofs.Common.{◌≡◌, ℕ, zero, suc, ◌+◌, ◌<◌, ◌≤◌, Bool, false, ◌⊎◌, inl, inr, ⊎_elim, List, [], ◌∷◌, ◌++◌}
use Rattle.std.proofs.Common.{length, map, take, Option, Some, None, Result, Ok, Err, refl, sym, ap, subst, ◌∙◌, arith}
use Rattle.std.specs.Prelude.{slice_get, ◌==◌, ◌&&◌, not, if◌then◌else◌, All}
use Rattle.std.specs.Global.{Vec}
use Rattle.std.proofs.lemmas.Bool.{eq-eqb, ne_eqb}
use Rattle.std.proofs.lemmas.List.{map-append}
use Rattle.std.proofs.lemmas.List.Sums.{fold-append}
use Rattle.c_tree.specs.declared.typed.Typed.{Typed}
use Rattle.c_tree.specs.declared.typed.VarDef.{VarDef}
use Rattle.ck_base.specs.declared.positions.Pos.{Pos}
use Rattle.ck_base.specs.declared.positions.Span.{Span}
use Rattle.ck_base.specs.declared.refusal.Refusal.{Refusal}
use Rattle.c_tree.specs.declared.syntax.Node.{Node}
use Rattle.c_tree.specs.Syntax.{Syn, Syns, first_token}
use Rattle.c_tree.specs.Readings as meant
use Rattle.c_tree.specs.Readings.{Reading}
use Rattle.c_tree.specs.Statements.{all_items, block_action}
use Rattle.c_tree.specs.Types.{Ty, bare, is_scalar}
use Rattle.c_tree.specs.Terms.{Action, Variable, Block, action, actions, no_terms, numbers_from}
use Rattle.c_tree.specs.Programs as programs
use Rattle.c_tree.specs.Programs.{reading, readings}
use Rattle.c_tree.specs.Scopes as scopes
use Rattle.c_tree.specs.Scopes.{State, LocalState, RoutineState, Body, Doing, with_changed, changed_at, change_routine}
use Rattle.c_tree.specs.Scopes.{outer_scopes}
use Rattle.c_tree.specs.Views as views
use Rattle.c_tree.specs.Views.{types_of, actions_of}
use Rattle.c_types.specs.declared.scopes.Scopes.{Scopes}
use Rattle.c_types.specs.Stands.{Stands, Declared, named, var_kept, local_seen, routine_seen}
use Rattle.c_types.specs.Calls.{Does}
use Rattle.c_types.proofs.Looking.{seen_length, type_is}
use Rattle.c_expressions.specs.Nodes.{IsWhole, type_in}
use Rattle.c_elaborator.specs.declared.work.Definition.{Definition}
use Rattle.c_elaborator.specs.declared.work.Work.{Work}
use Rattle.c_elaborator.specs.Work.{Shows, DefinitionIsThere, Seen, is_among, is_function, first_place, definition_of}
use Rattle.c_elaborator.specs.Work.{option_seen, body_seen, seen_of}
use Rattle.c_elaborator.specs.Answers.{Keeps, Done, Answers, freely, NothingThere, IsNothing, action_in, action_count}
use Rattle.c_elaborator.specs.Parts.{IsPart, AreParts}
use Rattle.c_elaborator.proofs.Sequencing.{free_law, changed, then, failed}
use Rattle.c_elaborator.proofs.Using.{changed_same, set_at}
use Rattle.c_readings.proofs.Kids.{opened}
use Rattle.c_elaborator.specs.declared.items.Items.{Items}
use Rattle.c_elaborator.specs.Items.{AddsAction, ItemsThere, IsItems, items_in}
use Rattle.c_statements.proofs.Standing.{reading_node}
use Rattle.c_elab.specs.Functions.{variable_in, variable_seen, variables_from, VariableThere, ends, finishes}
use Rattle.c_elab.specs.Functions.{types_body}

-- ---- the variables

variables-push : (w : Work) (k : ℕ) (vs : List VarDef) (v : VarDef) →
    variables_from w k (vs ++ v ∷ []) ≡ variables_from w k vs ++ variable_in w (k + length vs) v ∷ []
variables-push w k [] v = ap (λ n. variable_in w n v ∷ []) (let e : k ≡ k + 0 = omega arith in e)
variables-push w k (u ∷ vs) v =
    ap (λ xs. variable_in w k u ∷ xs) (variables-push w (k + 1) vs v
    ∙ ap (λ n. variables_from w (k + 1) vs ++ variable_in w n v ∷ [])
    (let e : k + 1 + length vs ≡ k + length (u ∷ vs) = omega arith in e))

pub taken_count : {A : Type 0} (xs : List A) (i : ℕ) → i ≤ length xs → length (take i xs) ≡ i
taken_count xs zero h = refl
taken_count [] (suc i) h = absurd (omega arith)
taken_count (x ∷ xs) (suc i) h = (let e : length (take i xs) ≡ i = taken_count xs i (omega arith) in omega arith)

-- a variable with a number that names the same type
pub variable_shown : (w : Work) (k of : ℕ) (v : VarDef) (b : Bool) → type_in w.nodes of ≡ type_in w.nodes v.of →
    b ≡ (variable_in w k v).simple →
    variable_seen w (let x : VarDef = record { name = v.name; pos = v.pos; of = of; simple = b } in x)
    ≡ variable_seen w (variable_in w k v)
variable_shown w k of v b e f =
    ap (λ (t : Ty). (let x : Variable = record { name = v.name; place = v.pos; of = t; simple = b } in x)) e
    ∙ ap (λ (c : Bool).
    (let x : Variable = record { name = v.name; place = v.pos; of = type_in w.nodes v.of; simple = c } in x)) f

pub one_variable : (w : Work) (vs : List VarDef) (k : ℕ) (v x : VarDef) (done : List VarDef) → length vs ≡ k →
    map (variable_seen w) done ≡ map (variable_seen w) (variables_from w 0 vs) →
    variable_seen w x ≡ variable_seen w (variable_in w k v) →
    map (variable_seen w) (done ++ x ∷ []) ≡ map (variable_seen w) (variables_from w 0 (vs ++ v ∷ []))
one_variable w vs k v x done l e f =
    map-append (variable_seen w) done (x ∷ [])
    ∙ ap (λ (xs : List Variable). xs ++ variable_seen w x ∷ []) e
    ∙ ap (λ (y : Variable). map (variable_seen w) (variables_from w 0 vs) ++ y ∷ [])
    (f ∙ ap (λ n. variable_seen w (variable_in w n v)) (let g : k ≡ 0 + length vs = omega arith in g))
    ∙ sym (map-append (variable_seen w) (variables_from w 0 vs) (variable_in w (0 + length vs) v ∷ []))
    ∙ ap (map (variable_seen w)) (sym (variables-push w 0 vs v))

-- a local named so, at such a place, of such a type, and whether its address is taken
abbrev local_as : Span → Pos → Ty → Bool → Variable
local_as n p t b = record { name = n; place = p; of = t; simple = is_scalar (bare t) && not b }

-- they are those of the state
variable_is : (w : Work) (k : ℕ) (v : VarDef) (l : LocalState) →
    var_kept w.nodes.scopes.file.now (types_of w.nodes.p.types) v ≡ local_seen l →
    l.addressed ≡ is_among k w.addressed.items →
    views.variable_of (types_of w.nodes.p.types) (variable_in w k v) ≡ programs.variable_of l
variable_is w k v l e a =
    let span : v.name ≡ l.name.span = ap (λ (d : Declared). d.span) e in
    let place : v.pos ≡ l.name.pos = ap (λ (d : Declared). d.place) e in
    let of : type_in w.nodes v.of ≡ l.of = type_is w.nodes.p v.of l.of (ap (λ (d : Declared). d.of) e) in
    let b = is_among k w.addressed.items in
    ap (λ n. local_as n v.pos (type_in w.nodes v.of) b) span
    ∙ ap (λ p. local_as l.name.span p (type_in w.nodes v.of) b) place
    ∙ ap (λ (t : Ty). local_as l.name.span l.name.pos t b) of ∙ ap (local_as l.name.span l.name.pos l.of) (sym a)

variables_are : (w : Work) (k : ℕ) (vs : List VarDef) (ls : List LocalState) →
    map (var_kept w.nodes.scopes.file.now (types_of w.nodes.p.types)) vs ≡ map local_seen ls →
    ((j : ℕ) (l : LocalState) → slice_get ls j ≡ Some l → l.addressed ≡ is_among (k + j) w.addressed.items) →
    map (views.variable_of (types_of w.nodes.p.types)) (variables_from w k vs) ≡ map programs.variable_of ls
variables_are w k [] [] e a = refl
variables_are w k [] (l ∷ ls) e a = absurd cc
variables_are w k (v ∷ vs) [] e a = absurd cc
variables_are w k (v ∷ vs) (l ∷ ls) e a =
    let head : var_kept w.nodes.scopes.file.now (types_of w.nodes.p.types) v ≡ local_seen l = cc in
    let tail : map (var_kept w.nodes.scopes.file.now (types_of w.nodes.p.types)) vs ≡ map local_seen ls = cc in
    ap (λ x. x ∷ map (views.variable_of (types_of w.nodes.p.types)) (variables_from w (k + 1) vs))
    (variable_is w k v l head (a 0 l refl
    ∙ ap (λ n. is_among n w.addressed.items) (let z : k + 0 ≡ k = omega arith in z)))
    ∙ ap (λ xs. programs.variable_of l ∷ xs) (variables_are w (k + 1) vs ls tail
    (λ j m g. a (suc j) m g ∙ ap (λ n. is_among n w.addressed.items)
    (let z : k + suc j ≡ k + 1 + j = omega arith in z)))

-- ---- the function's body

abbrev pub body_of : ℕ → Action → State → Body
body_of count x s = record { params = numbers_from 0 count; vars = s.locals; action = x }

abbrev pub ended_in : ℕ → ℕ → Action → State → State
ended_in k count x s = change_routine k (λ (f : RoutineState). record f { body = Some (body_of count x s) })
    (record s { scopes = outer_scopes s.scopes; locals = [] })

-- bodies are not seen in what is declared
bodies_unseen : (sc : Scopes) (p : Typed) (s : State) (k : ℕ) (b : Body) → Stands sc p s →
    Stands sc p (change_routine k (λ (f : RoutineState). record f { body = Some b }) s)
bodies_unseen sc p s k b h =
    let g : RoutineState → RoutineState = λ f. record f { body = Some b } in
    record {
      scopes = h.scopes;
      tags = h.tags;
      tag_types = h.tag_types;
      kinds = h.kinds;
      tagged = h.tagged;
      members = h.members;
      objects = h.objects;
      globals = h.globals;
      begun = h.begun ∙ sym (changed_same (λ (f : RoutineState). f.begun) g s.routines k (λ f. refl));
      routines = h.routines ∙ sym (changed_same routine_seen g s.routines k (λ f. refl));
      locals = h.locals;
      int = h.int;
      linked = h.linked;
    }

abbrev pub with_body : Work → Scopes → Vec Definition → Vec ℕ → Work
with_body w sc ds ks = record w { nodes = record w.nodes { scopes = sc }; addressed = ks; definitions = ds }

body_keeps : (w : Work) (sc : Scopes) (ds : Vec Definition) (ks : Vec ℕ) → Keeps w (with_body w sc ds ks)
body_keeps w sc ds ks = record {
  more_types = omega arith;
  more_terms = omega arith;
  more_actions = omega arith;
  types = λ k h. refl;
  terms = λ k h. refl;
  values = λ v. v;
  actions = λ v k h. refl;
  file = refl;
  tree = refl;
}

below : {A : Type 0} (xs : List A) (k : ℕ) (x : A) → slice_get xs k ≡ Some x → k < length xs
below [] k x e = absurd cc
below (y ∷ xs) zero x e = omega arith
below (y ∷ xs) (suc k) x e = let h : k < length xs = below xs k x e in omega arith

-- an item of a list to which one was added
pushed_item : {A : Type 0} (xs : List A) (j : ℕ) (x y : A) → slice_get (xs ++ x ∷ []) j ≡ Some y →
    (slice_get xs j ≡ Some y) ⊎ (x ≡ y)
pushed_item [] zero x y e = inr cc
pushed_item [] (suc j) x y e = absurd cc
pushed_item (z ∷ xs) zero x y e = inl e
pushed_item (z ∷ xs) (suc j) x y e = pushed_item xs j x y e

-- an item of a list that was changed at a place where there is one
changed_item : {A : Type 0} (f : A → A) (xs : List A) (k j : ℕ) (x y : A) → slice_get xs k ≡ Some x →
    slice_get (changed_at f xs k) j ≡ Some y → ((j ≡ k) × (f x ≡ y)) ⊎ ((j ≡ k → ⊥) × (slice_get xs j ≡ Some y))
changed_item {A} f xs k j x y e g =
    set_at xs k j (f x) y (subst (λ (o : Option A). slice_get (with_changed f o xs k) j ≡ Some y) e g)

module _ (w : Work) (sc : Scopes) (ds : Vec Definition) (ks : Vec ℕ) (s : State) (k count body : ℕ) (d : Definition)
    (f : RoutineState) (h : Shows w s) (there : slice_get s.routines k ≡ Some f)
    (is : ds.items ≡ w.definitions.items ++ d ∷ []) (named : d.function ≡ k)
    (params : d.params.items ≡ numbers_from 0 count) (same : d.body ≡ body)
    (vars : map (views.variable_of (types_of w.nodes.p.types)) d.vars.items ≡ map programs.variable_of s.locals)
  where
    abbrev b : Body
    b = body_of count (action_in w body) s

    abbrev t : State
    t = ended_in k count (action_in w body) s

    seen_here : Some (body_seen b) ≡ option_seen (seen_of (types_of w.nodes.p.types) (actions_of w.nodes.p)) (Some d)
    seen_here =
        ap (λ (ps : List ℕ).
        Some (let x : Seen = record { params = ps; vars = map programs.variable_of s.locals; body = action_in w body }
        in x)) (sym params)
        ∙ ap (λ (vs : List Variable).
        Some (let x : Seen = record { params = d.params.items; vars = vs; body = action_in w body } in x))
        (sym vars)
        ∙ ap (λ (n : ℕ).
        let vs = map (views.variable_of (types_of w.nodes.p.types)) d.vars.items in
        Some (let x : Seen = record { params = d.params.items; vars = vs; body = action_in w n } in x)) (sym same)

    this_one : definition_of k ds.items ≡ Some d
    this_one = ap (definition_of k) is ∙ fold-append _ None w.definitions.items (d ∷ [])
        ∙ ap (λ (c : Bool). if c then Some d else definition_of k w.definitions.items)
        (ap (λ n. n == k) named ∙ eq-eqb k k refl)

    other : (j : ℕ) → (j ≡ k → ⊥) → (k == j) ≡ false
    other j n = ne_eqb k j (λ e. n (sym e))

    another : (j : ℕ) → (j ≡ k → ⊥) → definition_of j ds.items ≡ definition_of j w.definitions.items
    another j n = ap (definition_of j) is ∙ fold-append _ None w.definitions.items (d ∷ [])
        ∙ ap (λ (c : Bool). if c then Some d else definition_of j w.definitions.items)
        (ap (λ i. i == j) named ∙ other j n)

    defined : (j : ℕ) (g : RoutineState) →
        slice_get (changed_at (λ (f : RoutineState). record f { body = Some b }) s.routines k) j ≡ Some g →
        option_seen body_seen g.body ≡ option_seen (seen_of (types_of w.nodes.p.types) (actions_of w.nodes.p))
        (definition_of j ds.items)
    defined j g e =
        let o : Option Definition → Option Seen =
        option_seen (seen_of (types_of w.nodes.p.types) (actions_of w.nodes.p)) in
        ⊎_elim
        (λ a. ap (λ (r : RoutineState). option_seen body_seen r.body) (sym a.1) ∙ seen_here
        ∙ ap o (sym (ap (λ n. definition_of n ds.items) a.0 ∙ this_one)))
        (λ a. h.definitions j g a.1 ∙ ap o (sym (another j a.0)))
        (changed_item (λ (f : RoutineState). record f { body = Some b }) s.routines k j f g there e)

    used : (j : ℕ) (g : RoutineState) →
        slice_get (changed_at (λ (f : RoutineState). record f { body = Some b }) s.routines k) j ≡ Some g →
        g.used ≡ first_place (is_function j) w.uses.items
    used j g e =
        ⊎_elim
        (λ a. ap (λ (r : RoutineState). r.used) (sym a.1) ∙ h.used_functions k f there
        ∙ ap (λ n. first_place (is_function n) w.uses.items) (sym a.0))
        (λ a. h.used_functions j g a.1)
        (changed_item (λ (f : RoutineState). record f { body = Some b }) s.routines k j f g there e)

    pub body_shows : (body < length w.nodes.p.stmts) → All (VariableThere w) d.vars.items →
        sc.file.now ≡ w.nodes.scopes.file.now → ks.items ≡ [] →
        Stands sc w.nodes.p (record s { scopes = outer_scopes s.scopes; locals = [] }) → Shows (with_body w sc ds ks) t
    body_shows lt all fl none st =
        let change : RoutineState → RoutineState = λ f. record f { body = Some b } in
        let count : length (changed_at change s.routines k) ≡ length s.routines =
        seen_length (λ (f : RoutineState). f.begun) (λ (f : RoutineState). f.begun)
        (changed_at change s.routines k) s.routines
        (changed_same (λ (f : RoutineState). f.begun) change s.routines k (λ f. refl)) in
        record {
          stands = bodies_unseen sc w.nodes.p (record s { scopes = outer_scopes s.scopes; locals = [] }) k b st;
          texts = h.texts;
          used_objects = h.used_objects;
          used_functions = used;
          addressed = λ j v e. absurd (nothing j v e);
          fillings = h.fillings;
          definitions = defined;
          waiting = h.waiting;
          closed = record {
            file = fl ∙ h.closed.file;
            members = h.closed.members;
            values = h.closed.values;
            uses = λ j u e. rw count (h.closed.uses j u e);
            addressed = λ j n e. none_there ks.items j n none e;
            fillings = h.closed.fillings;
            definitions = λ j e g. let x = all_there lt all j e (rw is at g) in
                record { function = rw count x.function; body = x.body; vars = x.vars };
          };
        }
      where
        nothing : (j : ℕ) (v : LocalState) → slice_get [] j ≡ Some v → ⊥
        nothing j v e = cc

        none_there : {P : Type 0} (ns : List ℕ) (j n : ℕ) → ns ≡ [] → slice_get ns j ≡ Some n → P
        none_there [] j n e g = absurd cc
        none_there (y ∷ ys) j n e g = absurd cc

        var_there : (vs : List VarDef) (j : ℕ) (v : VarDef) → All (VariableThere w) vs → slice_get vs j ≡ Some v →
            v.of < length w.nodes.p.types
        var_there [] j v a e = absurd cc
        var_there (x ∷ xs) zero v a e = (let i : x ≡ v = cc in subst (VariableThere w) i (a 0 x (omega arith)))
        var_there (x ∷ xs) (suc j) v a e = var_there xs j v (λ i y l. a (suc i) y (omega arith)) e

        this_there : (body < length w.nodes.p.stmts) → All (VariableThere w) d.vars.items → DefinitionIsThere w s d
        this_there lt all = record {
          function = let l : k < length s.routines = below s.routines k f there in rw named l;
          body = rw same lt;
          vars = λ j v q. var_there d.vars.items j v all q;
        }

        all_there : (body < length w.nodes.p.stmts) → All (VariableThere w) d.vars.items → (j : ℕ) (e : Definition) →
            slice_get (w.definitions.items ++ d ∷ []) j ≡ Some e → DefinitionIsThere w s e
        all_there lt all j e g = ⊎_elim (λ a. h.closed.definitions j e a)
            (λ i. subst (DefinitionIsThere w s) i (this_there lt all)) (pushed_item w.definitions.items j d e g)

-- what is left of the scopes
left_stands : (sc sd : Scopes) (p : Typed) (s : State) → Does sc p sd p scopes.leave (λ t a. Unit {0}) →
    Stands sc p (record s { locals = [] }) → Stands sd p (record s { scopes = outer_scopes s.scopes; locals = [] })
left_stands sc sd p s d h =
    let g = d (record s { locals = [] }) h in
    subst (Stands sd p) (sym (ap (state_of s) g.is)) g.stands
  where
    state_of : State → Result (Unit {0} × State) scopes.Fault → State
    state_of u (Ok x) = x.1
    state_of u (Err e) = u

pub body_ends : (w : Work) (sc sd : Scopes) (ds : Vec Definition) (ks : Vec ℕ) (vs : List VarDef) (k count body : ℕ)
    (d : Definition) → IsWhole w.nodes →
    ((s : State) → Shows w s → (f : RoutineState) × (slice_get s.routines k ≡ Some f)) →
    ds.items ≡ w.definitions.items ++ d ∷ [] → d.function ≡ k → d.params.items ≡ numbers_from 0 count → d.body ≡ body →
    map (variable_seen w) d.vars.items ≡ map (variable_seen w) (variables_from w 0 vs) →
    All (VariableThere w) d.vars.items → body < action_count w → ks.items ≡ [] →
    sc.file.now ≡ w.nodes.scopes.file.now → sd.file.now ≡ sc.file.now →
    ((s : State) → Stands w.nodes.scopes w.nodes.p s →
    map (var_kept w.nodes.scopes.file.now (types_of w.nodes.p.types)) vs ≡ map local_seen s.locals) →
    ((s : State) → Stands w.nodes.scopes w.nodes.p s → Stands sc w.nodes.p (record s { locals = [] })) →
    Does sc w.nodes.p sd w.nodes.p scopes.leave (λ t a. Unit {0}) →
    Done freely w (with_body w sd ds ks) (ends k count (action_in w body)) (Unit {0}) (λ s a. Unit {0})
body_ends w sc sd ds ks vs k count body d whole f is named params same vars all lt none fa fb seen taken left = record {
  whole = record { facts = whole.facts; typed = whole.typed; void_there = whole.void_there; void = whole.void };
  grows = body_keeps w sd ds ks;
  there = tt;
  gives = λ s h.
      let g = f s h in
      let v : map (views.variable_of (types_of w.nodes.p.types)) d.vars.items ≡ map programs.variable_of s.locals =
      vars
      ∙ variables_are w 0 vs s.locals (seen s h.stands)
      (λ j l e. h.addressed j l e ∙ ap (λ n. is_among n w.addressed.items) (let z : j ≡ 0 + j = omega arith in z))
      in
      record {
        value = tt;
        state = ended_in k count (action_in w body) s;
        is = refl;
        stays = tt;
        shows = body_shows w sd ds ks s k count body d g.0 h g.1 is named params same v lt all (fb ∙ fa) none
            (left_stands sc sd w.nodes.p s left (taken s h.stands));
        fits = tt;
      };
}

-- where there is no such function, its scope alone is left
module _ (w : Work) (sc : Scopes) (ks : Vec ℕ) (s : State) (h : Shows w s) where
  abbrev unnamed : Work
  unnamed = with_body w sc w.definitions ks

  nothing_addressed : (none : ks.items ≡ []) (j n : ℕ) → slice_get ks.items j ≡ Some n → ⊥
  nothing_addressed none j n e = no_item j n (rw none at e)
    where
      no_item : (j n : ℕ) → slice_get [] j ≡ Some n → ⊥
      no_item j n e = absurd cc

  scope_shows : sc.file.now ≡ w.nodes.scopes.file.now → ks.items ≡ [] →
      Stands sc w.nodes.p (record s { scopes = outer_scopes s.scopes; locals = [] }) →
      Shows unnamed (record s { scopes = outer_scopes s.scopes; locals = [] })
  scope_shows fl none st = record {
    stands = st;
    texts = h.texts;
    used_objects = h.used_objects;
    used_functions = h.used_functions;
    addressed = λ j v e. absurd (no_local j v e);
    fillings = h.fillings;
    definitions = h.definitions;
    waiting = h.waiting;
    closed = record {
      file = fl ∙ h.closed.file;
      members = h.closed.members;
      values = h.closed.values;
      uses = h.closed.uses;
      addressed = λ j n e. absurd (nothing_addressed none j n e);
      fillings = h.closed.fillings;
      definitions = λ j d e. let x = h.closed.definitions j d e in
          record { function = x.function; body = x.body; vars = x.vars };
    };
  }
    where
      no_local : (j : ℕ) (v : LocalState) → slice_get [] j ≡ Some v → ⊥
      no_local j v e = absurd cc

pub body_left : (w : Work) (sc sd : Scopes) (ks : Vec ℕ) (k count body : ℕ) → IsWhole w.nodes →
    ((s : State) → Shows w s → slice_get s.routines k ≡ None) → ks.items ≡ [] →
    sc.file.now ≡ w.nodes.scopes.file.now → sd.file.now ≡ sc.file.now →
    ((s : State) → Stands w.nodes.scopes w.nodes.p s → Stands sc w.nodes.p (record s { locals = [] })) →
    Does sc w.nodes.p sd w.nodes.p scopes.leave (λ t a. Unit {0}) →
    Done freely w (with_body w sd w.definitions ks) (ends k count (action_in w body)) (Unit {0}) (λ s a. Unit {0})
body_left w sc sd ks k count body whole f none fa fb taken left = record {
  whole = record { facts = whole.facts; typed = whole.typed; void_there = whole.void_there; void = whole.void };
  grows = body_keeps w sd w.definitions ks;
  there = tt;
  gives = λ s h.
      let change : RoutineState → RoutineState = λ r. record r { body = Some (body_of count (action_in w body) s) } in
      let after : State = record s { scopes = outer_scopes s.scopes; locals = [] } in
      let same : ended_in k count (action_in w body) s ≡ after =
      ap (λ (o : Option RoutineState).
      (let z : State = record after { routines = with_changed change o s.routines k } in z)) (f s h) in
      record {
        value = tt;
        state = ended_in k count (action_in w body) s;
        is = refl;
        stays = tt;
        shows = subst (λ (z : State). Shows (with_body w sd w.definitions ks) z) (sym same)
            (scope_shows w sd ks s h (fb ∙ fa) none (left_stands sc sd w.nodes.p s left (taken s h.stands)));
        fits = tt;
      };
}

-- ---- what stands in the braces

pub block_is : (u : Work) (i : Items) (p : Pos) (vs ks : List ℕ) → vs ≡ i.vars.items → ks ≡ i.actions.items →
    action (Block vs) no_terms (actions (map (action_in u) ks)) p ≡ block_action (items_in u i) p
block_is u i p vs ks a b =
    ap (λ (xs : List ℕ). action (Block xs) no_terms (actions (map (action_in u) ks)) p) a
    ∙ ap (λ (xs : List ℕ). action (Block i.vars.items) no_terms (actions (map (action_in u) xs)) p) b

pub finish_is : (u v w : Work) (k count : ℕ) (i : Items) (p : Pos) (body : ℕ) (x : Action)
    (r : Result (Unit {0}) Refusal) → AddsAction u v body x → x ≡ block_action (items_in u i) p →
    Answers freely v w (ends k count (action_in v body)) NothingThere IsNothing r →
    Answers freely u w (finishes k count (items_in u i) p) NothingThere IsNothing r
finish_is u v w k count i p body x r a e b =
    changed freely free_law u v w (λ s. s) (finishes k count (items_in u i) p)
    (ends k count (action_in v body)) NothingThere IsNothing r a.whole a.keeps (λ s h. tt) a.shows
    (λ s h. ap (λ (y : Action). ends k count y s) (sym (a.is ∙ e))) b

body_reads : (u : Work) (block : ℕ) (z : Syn) (n : Node) (c : meant.Context) → IsPart u block z →
    slice_get u.tree.now.nodes block ≡ Some n →
    (xs : Syns) × AreParts u n.kids xs × ((reading z).body c ≡ all_items c (readings xs)) ×
    (n.first ≡ (first_token z).pos)
body_reads u block z n c p g =
    let o = opened u block z n p g in (
      o.parts,
      o.node.parts,
      ap (λ (r : Reading). r.body c) (ap reading o.is ∙ reading_node n.kind o.token o.parts),
      o.first,
    )

pub body_untyped : (u v w : Work) (k count : ℕ) (c : meant.Context) (block : ℕ) (z : Syn) (n : Node) (q : Refusal) →
    IsPart u block z → slice_get u.tree.now.nodes block ≡ Some n →
    ((xs : Syns) → AreParts u n.kids xs → Answers freely u v (all_items c (readings xs)) ItemsThere IsItems (Err q)) →
    Answers freely u w (types_body k count c z) NothingThere IsNothing (Err q)
body_untyped u v w k count c block z n q p g h =
    let b = body_reads u block z n c p g in
    failed freely u v w ((reading z).body c) (λ i. finishes k count i (first_token z).pos) ItemsThere IsItems
    NothingThere IsNothing q
    (subst (λ (d : Doing meant.Items). Answers freely u v d ItemsThere IsItems (Err q)) (sym b.2) (h b.0 b.1))

pub body_typed : (u v w : Work) (k count : ℕ) (c : meant.Context) (block : ℕ) (z : Syn) (n : Node) (i : Items)
    (r : Result (Unit {0}) Refusal) → IsPart u block z → slice_get u.tree.now.nodes block ≡ Some n →
    ((xs : Syns) → AreParts u n.kids xs → Done freely u v (all_items c (readings xs)) (ItemsThere v i) (IsItems v i)) →
    Answers freely v w (finishes k count (items_in v i) n.first) NothingThere IsNothing r →
    Answers freely u w (types_body k count c z) NothingThere IsNothing r
body_typed u v w k count c block z n i r p g h a =
    let b = body_reads u block z n c p g in
    (then) freely free_law u v w ((reading z).body c) (λ j. finishes k count j (first_token z).pos) (items_in v i)
    (ItemsThere v i) NothingThere IsNothing r
    (subst (λ (d : Doing meant.Items). Done freely u v d (ItemsThere v i) (IsItems v i)) (sym b.2) (h b.0 b.1))
    (subst (λ (q : Pos). Answers freely v w (finishes k count (items_in v i) q) NothingThere IsNothing r) b.3 a)
